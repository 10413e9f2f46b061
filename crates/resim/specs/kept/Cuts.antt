-- The lines of a run up to an earlier moment.
use Rattle.std.specs.Prelude.{◌≡◌, ◌⊎◌, ℕ, List, Option, IsSome, option_map}
use Rattle.catalog.specs.Catalog.{record_at}
use Rattle.waveform.specs.kept.Tables.{line_at}
use Rattle.waveform.specs.Timelines.{entries_until}

-- what stands under a key, up to this moment
abbrev pub cut_at : {A : Type 0} → List (Option (List (ℕ × A))) → ℕ → ℕ → Option (List (ℕ × A))
cut_at lines horizon key = option_map (λ line. entries_until line horizon) (line_at lines key)

-- under each key the line is cut or as it was, and under the keys of these entries it is cut
pub record AreCut {R A : Type 0} (horizon : ℕ) (entries : List (ℕ × R)) (old new : List (Option (List (ℕ × A)))) : Type 0 where
  pub cut : (key : ℕ) → IsSome (record_at entries key) → line_at new key ≡ cut_at old horizon key
  pub others : (key : ℕ) → (line_at new key ≡ line_at old key) ⊎ (line_at new key ≡ cut_at old horizon key)
