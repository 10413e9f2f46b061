use Rattle.std.proofs.Common.{◌≡◌, true, take}
use Rattle.std.specs.List.{list_all}
use Rattle.ordering.specs.kept.Order.{is_marked, is_ready_by}
use Rattle.ordering.proofs.checking.are_ready.Given as goal

-- those so far are ready
abbrev pub invariant-loop-input : goal.invariant-loop-input
invariant-loop-input l = list_all (is_ready_by l.wiring (is_marked l.marks)) (take l.input-index l.inputs) ≡ true
