-- When an event that an evaluation brought makes its gate turn.
use Rattle.std.specs.Prelude.{Bool, ℕ, ◌-◌, ◌&&◌, not}
use Rattle.fourstate.specs.declared.value.Value.{Value}
use Rattle.fourstate.specs.Values.{same_value}
use Rattle.design.specs.Netlist.{GateEntry, Netlist}
use Rattle.causes.specs.Causes.{driven}

-- the event takes effect: the gate drives its value at its moment, and did not at the moment before
abbrev pub takes_effect : Netlist → GateEntry → Value × ℕ → Bool
takes_effect d g event = same_value (driven d g event.1) event.0 && not (same_value (driven d g (event.1 - 1)) event.0)
