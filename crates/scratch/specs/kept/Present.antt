-- The present moment of a run.
use Rattle.std.specs.Prelude.{◌≡◌, ◌≤◌, ℕ, map}
use Rattle.fourstate.specs.declared.limits.TheConstants.{MAX_TIME}
use Rattle.gatestep.specs.Step.{State, Evaluation}
use Rattle.design.specs.Keys.{netlist}
use Rattle.scratch.specs.kept.Kept.{IsWiring}
use Rattle.scratch.specs.Run.{value}
use Rattle.scratch.specs.declared.present.Present.{Present}

-- the nets have the values of the run at the moment
pub record IsPresent (answer : Evaluation → ℕ → State) (present : Present) : Type 0 where
  pub within : present.t ≤ MAX_TIME
  pub wired : IsWiring (netlist present.design.now) present.wiring.now
  pub values : present.values.now ≡ map (λ n. value answer (netlist present.design.now) n present.t) (netlist present.design.now).nets
