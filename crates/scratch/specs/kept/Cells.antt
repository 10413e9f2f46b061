-- A gate as it is evaluated, without its name.
use Rattle.std.specs.Prelude.{List}
use Rattle.fourstate.specs.declared.delay_times.DelayTimes.{DelayTimes}
use Rattle.fourstate.specs.declared.gate.GateKind.{GateKind}
use Rattle.scratch.specs.declared.wiring.Input.{Input}

pub record CellRecord : Type 0 where
  pub kind : GateKind
  pub delays : DelayTimes
  pub inputs : List Input
