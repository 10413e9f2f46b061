use Rattle.std.proofs.Common.{◌≡◌}
use Rattle.hub_tests.proofs.receipts.take_turns.Given as goal

abbrev pub invariant-turns : goal.invariant-turns
invariant-turns g l = (l.editors.0.number ≡ l.initial.editors.0.number) × (l.editors.1.number ≡ l.initial.editors.1.number)
