-- What the states of editors and viewers keep, and which one may come after another.
use Rattle.std.specs.Prelude.{◌≡◌, ℕ, ◌≤◌, List, ◌++◌, length, All}
use Rattle.edits.specs.declared.edit.Edit.{Edit}
use Rattle.hubcore.specs.States.{ViewerRecord, CoreRecord}

-- what a viewer saw, was told of or holds lies within so many commits
abbrev pub IsWithin : ℕ → ViewerRecord → Type 0
IsWithin shown v = (v.seen ≤ shown) × All (λ length. length ≤ shown) v.held

-- only accepted commits are shown, and viewers know of nothing else than what is shown
abbrev pub IsSound : CoreRecord → Type 0
IsSound s = (s.shown ≤ length s.log) × All (IsWithin s.shown) s.viewers

-- the second state may come after the first: no more is lost than what viewers let go of
pub record Follows (s t : CoreRecord) : Type 0 where
  pub shown : s.shown ≤ t.shown
  pub log : (rest : List (List Edit)) × (t.log ≡ s.log ++ rest)
  pub viewers : length t.viewers ≡ length s.viewers
