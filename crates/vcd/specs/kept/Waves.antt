-- The waves of a design's nets.
use Rattle.std.specs.Prelude.{ℕ, List, []}
use Rattle.std.specs.List.{slice_index_or}
use Rattle.fourstate.specs.declared.value.Value.{Value}

-- the changes of each net, in the nets' order, and the last moment
pub record Recorded : Type 0 where
  pub waves : List (List (ℕ × Value))
  pub horizon : ℕ

-- the wave at a place; past the last one there are no changes
abbrev pub wave_in : List (List (ℕ × Value)) → ℕ → List (ℕ × Value)
wave_in waves place = slice_index_or waves place []
