use Rattle.std.proofs.Common.{◌≡◌, ◌++◌}
use Rattle.scratch.proofs.finishing.share_waves.Given as goal

-- those that are shared, and those that are still to come
abbrev pub invariant-loop-wave : goal.invariant-loop-wave
invariant-loop-wave l = l.shared.items ++ l.wave-iterator.rest.items ≡ l.fn.waves.items
