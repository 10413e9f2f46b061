use Rattle.std.proofs.Common.{◌≡◌, take}
use Rattle.design.proofs.parting.count_alike.Given as goal

-- the points so far are the same
abbrev pub invariant-loop-i : goal.invariant-loop-i
invariant-loop-i l = take l.i l.one ≡ take l.i l.other
