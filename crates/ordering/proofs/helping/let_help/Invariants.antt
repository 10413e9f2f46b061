use Rattle.std.specs.Prelude.{All}
use Rattle.ordering.specs.kept.Helpers.{IsHelper}
use Rattle.ordering.proofs.helping.let_help.Given as goal

-- the helpers so far may help
abbrev pub invariant-loop : goal.invariant-loop
invariant-loop g l = All (IsHelper g.S.Stepper.answer) l.helpers.items
