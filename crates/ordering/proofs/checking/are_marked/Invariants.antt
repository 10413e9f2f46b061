use Rattle.std.proofs.Common.{◌≡◌, true, take}
use Rattle.std.specs.List.{list_all}
use Rattle.ordering.specs.kept.Order.{is_marked}
use Rattle.ordering.proofs.checking.are_marked.Given as goal

-- those so far are marked
abbrev pub invariant-loop-place : goal.invariant-loop-place
invariant-loop-place l = list_all (is_marked l.marks) (take l.place-index l.places) ≡ true
