use Rattle.std.proofs.Common.{◌≡◌, ◌+◌, ◌++◌, ℕ, List, length}
use Rattle.fourstate.specs.declared.value.Value.{Value}
use Rattle.design.specs.kept.Pieces.{points_of}
use Rattle.design.proofs.parting.part.Given as goal

-- both lists have the points so far
abbrev pub invariant-loop-one : goal.invariant-loop-one
invariant-loop-one l = record {
  shared : List (ℕ × Value);
  points : l.points ++ points_of l.pieces ≡ shared ++ (l.one ++ points_of l.more);
  other_points : l.other_points ++ points_of l.other_pieces ≡ shared ++ (l.other ++ points_of l.others);
}

abbrev pub decreases-loop-one : goal.decreases-loop-one
decreases-loop-one l = length l.more + length l.others
