-- What edits do to a design (own).
use Rattle.std.specs.Prelude.{true, false, map}
use Rattle.fourstate.specs.declared.net.NetKind.TheVariants.{Wire}
use Rattle.design.specs.Connections.{Connection, to_net, to_constant}
use Rattle.design.specs.Netlist.{Netlist, new_net, with_delays, with_gate, with_gate_kind, with_horizon, with_net, with_net_kind, with_point, with_wiring, without_gate, without_net, without_point}
use Rattle.edits.specs.declared.edit.Edit.{Edit}
use Rattle.edits.specs.declared.edit.Edit.TheVariants.{AddNet, AddInput, DropNet, SetNetKind, AddGate, DropGate, SetDelay, SetGateKind, Rewire, Stim, Unstim, Horizon}
use Rattle.edits.specs.declared.pin.Pin.{Pin}
use Rattle.edits.specs.declared.pin.Pin.TheVariants as pin

-- what a gate's input is connected to, as an edit gives it
abbrev pub connection_of : Pin → Connection
connection_of (pin.Net name) = to_net name
connection_of (pin.Constant v) = to_constant v

-- the design with the edit, where it accepts it
abbrev pub edited : Netlist → Edit → Netlist
edited d (AddNet name kind) = with_net d (new_net name kind false)
edited d (AddInput name) = with_net d (new_net name Wire true)
edited d (DropNet name) = without_net d name
edited d (SetNetKind name kind) = with_net_kind d name kind
edited d (AddGate name kind delays output inputs) =
    with_gate d (record { name = name; kind = kind; delays = delays; output = output; inputs = map connection_of inputs })
edited d (DropGate name) = without_gate d name
edited d (SetDelay name delays) = with_delays d name delays
edited d (SetGateKind name kind) = with_gate_kind d name kind
edited d (Rewire name output inputs) = with_wiring d name output (map connection_of inputs)
edited d (Stim net time v) = with_point d net time v
edited d (Unstim net time) = without_point d net time
edited d (Horizon time) = with_horizon d time
