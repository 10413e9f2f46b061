-- Entries of one list before a moment, and of another from it on.
use Rattle.std.specs.Prelude.{ℕ, ◌+◌, Bool, List, ◌++◌}
use Rattle.waveform.specs.Timelines.{value_by, entries_before, entries_until, entries_after}
use Rattle.waveform.specs.kept.Timelines.{pushed}

-- the entries xs, which lie before t, and from t on the function of the entries ys
abbrev pub joined : {A : Type 0} → (A → A → Bool) → (A → ℕ → A) → A → List (ℕ × A) → ℕ → List (ℕ × A) → List (ℕ × A)
joined same drift start xs t ys = pushed same drift xs t (value_by drift start ys t) ++ entries_after ys t

-- the entries xs with the function of the entries ys at the moments from `begin` up to and with `end`
abbrev pub spliced : {A : Type 0} → (A → A → Bool) → (A → ℕ → A) → A → List (ℕ × A) → ℕ → ℕ → List (ℕ × A) → List (ℕ × A)
spliced same drift start xs begin end ys =
    joined same drift start (joined same drift start (entries_before xs begin) begin (entries_until ys end)) (end + 1) xs
