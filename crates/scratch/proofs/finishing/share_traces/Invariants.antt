use Rattle.std.proofs.Common.{◌≡◌, ◌++◌}
use Rattle.scratch.proofs.finishing.share_traces.Given as goal

-- those that are shared, and those that are still to come
abbrev pub invariant-loop-trace : goal.invariant-loop-trace
invariant-loop-trace l = l.shared.items ++ l.trace-iterator.rest.items ≡ l.fn.traces.items
