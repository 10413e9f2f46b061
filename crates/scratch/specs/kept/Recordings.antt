-- The keys under which lines are kept.
use Rattle.std.specs.Prelude.{◌≡◌, ℕ, List, Option}
use Rattle.std.specs.List.{zip}
use Rattle.catalog.specs.Catalog.{record_at}
use Rattle.waveform.specs.kept.Tables.{line_at}

-- each line stands under the key at its place, and nothing under any other key
abbrev pub AreUnder : {X : Type 0} → List ℕ → List X → List (Option X) → Type 0
AreUnder keys lines table = (key : ℕ) → line_at table key ≡ record_at (zip keys lines) key
