use Rattle.std.proofs.Common.{◌≡◌, map, take}
use Rattle.rundiff.proofs.old_lines.lookups_of.Given as goal

-- those so far
abbrev pub invariant-loop-i : goal.invariant-loop-i
invariant-loop-i g l = l.lookups.items ≡ map (λ line. line.now) (take l.i l.lines)
