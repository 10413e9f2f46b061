use Rattle.std.proofs.Common.{◌≡◌}
use Rattle.hub_tests.proofs.commits.edit.Given as goal

abbrev pub invariant-places : goal.invariant-places
invariant-places g l = l.editor.number ≡ l.initial.editor.number
