-- Moments at which nothing happens.
use Rattle.std.specs.Prelude.{◌≡◌, false, ℕ, All}
use Rattle.gatestep.specs.Step.{State, Evaluation}
use Rattle.design.specs.Netlist.{Netlist, has_point}
use Rattle.scratch.specs.Run.{state_before}
use Rattle.scratch.specs.Work.{is_due}

-- no net has a point at t, and no gate's event is due at t
pub record IsQuiet (answer : Evaluation → ℕ → State) (d : Netlist) (t : ℕ) : Type 0 where
  pub no_point : All (λ n. has_point n.points t ≡ false) d.nets
  pub nothing_due : All (λ g. is_due (state_before answer d t g) t ≡ false) d.gates
