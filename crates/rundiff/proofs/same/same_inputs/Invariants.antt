use Rattle.std.proofs.Common.{◌≡◌, true, map, take}
use Rattle.std.specs.Cmp.Lexicographic.{pointwise}
use Rattle.design.specs.Keys.{connection_in}
use Rattle.rundiff.specs.Dirty.{same_connection}
use Rattle.rundiff.proofs.same.same_inputs.Given as goal

-- the inputs so far are the same
abbrev pub invariant-loop-i : goal.invariant-loop-i
invariant-loop-i l = pointwise same_connection (map (connection_in l.new.nets) (take l.i l.gate.inputs)) (map (connection_in l.old.nets) (take l.i l.former.inputs)) ≡ true
