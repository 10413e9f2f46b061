use Rattle.std.proofs.Common.{◌≡◌, ◌-◌, drop, length}
use Rattle.waveform.proofs.apart.common_end.Given as goal

-- both lists end with as many changes as were compared
abbrev pub invariant-loop-count : goal.invariant-loop-count
invariant-loop-count l = drop (length l.changes - l.count) l.changes ≡ drop (length l.other - l.count) l.other
