-- From where on a design is run, and beside what.
use Rattle.std.specs.Prelude.{IfSome, ℕ}
use Rattle.std.specs.Option.{ForSome}
use Rattle.gatestep.specs.Step.{State, Evaluation}
use Rattle.design.specs.Keys.{Keyed, netlist}
use Rattle.ordering.specs.declared.following.Begin.{Begin}
use Rattle.ordering.specs.kept.Earlier.{IsEarlier}
use Rattle.ordering.specs.kept.OldRuns.{IsOldRun}

-- what it says is so
pub record IsBegin (answer : Evaluation → ℕ → State) (d : Keyed) (begin : Begin) : Type 0 where
  pub earlier : IfSome begin.earlier (IsEarlier answer d)
  pub old : ForSome begin.old (λ run. IsOldRun answer (netlist d) run.now)
