-- A run of the same design up to an earlier horizon.
use Rattle.std.specs.Prelude.{◌≡◌, ◌≤◌, ℕ, suc, Option, Some, None}
use Rattle.gatestep.specs.Step.{State, Evaluation}
use Rattle.design.specs.Keys.{Keyed, netlist}
use Rattle.ordering.specs.declared.earlier.EarlierRun.{EarlierRun}
use Rattle.scratch.specs.kept.Run.{IsRun}

-- this is the run of the design up to an earlier horizon
pub record IsEarlier (answer : Evaluation → ℕ → State) (d : Keyed) (earlier : EarlierRun) : Type 0 where
  pub same : earlier.design.now ≡ record d { horizon = earlier.design.now.horizon }
  pub later : (netlist earlier.design.now).horizon ≤ (netlist d).horizon
  pub run : IsRun answer earlier.design.now earlier.run.now

-- the first moment after an earlier run; 0 where there is none
abbrev pub begin_after : Option EarlierRun → ℕ
begin_after None = 0
begin_after (Some earlier) = suc (netlist earlier.design.now).horizon
