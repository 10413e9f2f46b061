use Rattle.std.proofs.Common.{◌≡◌}
use Rattle.refusals.proofs.submits.submit.Given as goal

abbrev pub invariant-tries : goal.invariant-tries
invariant-tries g l = l.editor.number ≡ l.initial.editor.number
