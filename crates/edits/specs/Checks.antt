-- What an edit is checked for, in order (own).
use Rattle.std.specs.Prelude.{Bool, false, ℕ, ◌&&◌, not, nat_le, nat_lt, List, [], ◌∷◌, ◌++◌, length, Option, is_some, option_map}
use Rattle.std.specs.List.{find, list_all}
use Rattle.std.specs.Option.{option_map_or}
use Rattle.fourstate.specs.declared.delay_times.DelayTimes.{DelayTimes}
use Rattle.fourstate.specs.declared.limits.TheConstants.{MAX_TIME}
use Rattle.fourstate.specs.declared.gate.GateKind.{GateKind}
use Rattle.fourstate.specs.declared.gate.GateKind.TheVariants.{Buf}
use Rattle.fourstate.specs.Delays.{exceeds_limit, has_zero}
use Rattle.fourstate.specs.Gates.{takes_inputs, takes_off}
use Rattle.design.specs.declared.limits.TheConstants.{MAX_NETS, MAX_GATES, MAX_POINTS}
use Rattle.design.specs.Names.{is_name}
use Rattle.design.specs.Netlist.{Netlist, gate_named, has_gate, has_net, has_point, is_readable, is_used, net_named, point_total}
use Rattle.edits.specs.declared.edit.Edit.{Edit}
use Rattle.edits.specs.declared.edit.Edit.TheVariants.{AddNet, AddInput, DropNet, SetNetKind, AddGate, DropGate, SetDelay, SetGateKind, Rewire, Stim, Unstim, Horizon}
use Rattle.edits.specs.declared.pin.Pin.{Pin}
use Rattle.edits.specs.declared.fault.EditFault.{EditFault}
use Rattle.edits.specs.declared.fault.EditFault.TheVariants.{UnknownNet, UnknownGate, DuplicateName, BadName, ZeroDelay, DelayTooLarge, WrongArity, DrivenInput, NotInput, NetInUse, TimeTooLarge, NoSuchPoint, TooMany, NoTurnOff}
use Rattle.edits.specs.Edits.{connection_of}

-- What is asked of a design.

-- a net of this name is an input of the design
abbrev pub is_input_net : Netlist → List ℕ → Bool
is_input_net d name = option_map_or (λ n. n.is_input) (net_named d name) false

-- a net of this name has a stimulus point at t
abbrev pub is_point : Netlist → List ℕ → ℕ → Bool
is_point d name t = option_map_or (λ n. has_point n.points t) (net_named d name) false

-- a gate's input is a constant or names a net that is there
abbrev pub is_known : Netlist → Pin → Bool
is_known d input = is_readable d (connection_of input)

-- the kind of the gate of this name, a buf without one
abbrev pub kind_named : Netlist → List ℕ → GateKind
kind_named d name = option_map_or (λ g. g.kind) (gate_named d name) Buf

-- the inputs of a gate of this name fit the kind
abbrev pub kind_fits : Netlist → List ℕ → GateKind → Bool
kind_fits d name kind = option_map_or (λ g. takes_inputs kind (length g.inputs)) (gate_named d name) false

-- a turn-off delay is given for a kind that takes none
abbrev pub is_off_misplaced : GateKind → DelayTimes → Bool
is_off_misplaced kind delays = is_some delays.off && not (takes_off kind)

-- the gate of this name has a turn-off delay, and the kind takes none
abbrev pub keeps_off : Netlist → List ℕ → GateKind → Bool
keeps_off d name kind = option_map_or (λ g. is_off_misplaced kind g.delays) (gate_named d name) false

-- Checks. Each is a test and the fault that it gives where the test holds.

-- a net of this name is to be there
abbrev pub net_there : Netlist → List ℕ → Bool × EditFault
net_there d name = (not (has_net d name), UnknownNet)

-- a gate of this name is to be there
abbrev pub gate_there : Netlist → List ℕ → Bool × EditFault
gate_there d name = (not (has_gate d name), UnknownGate)

abbrev pub new_net_checks : Netlist → List ℕ → List (Bool × EditFault)
new_net_checks d name =
    (not (is_name name), BadName) ∷ (has_net d name, DuplicateName) ∷ (nat_le MAX_NETS (length d.nets), TooMany) ∷ []

abbrev pub new_gate_checks : Netlist → List ℕ → List (Bool × EditFault)
new_gate_checks d name =
    (not (is_name name), BadName) ∷ (has_gate d name, DuplicateName) ∷ (nat_le MAX_GATES (length d.gates), TooMany) ∷ []

-- of the delays of a gate of this kind
abbrev pub delay_checks : GateKind → DelayTimes → List (Bool × EditFault)
delay_checks kind delays =
    (has_zero delays, ZeroDelay) ∷ (exceeds_limit delays, DelayTooLarge) ∷ (is_off_misplaced kind delays, NoTurnOff) ∷ []

-- whether the number of inputs fits is asked first
abbrev pub wiring_checks : Netlist → Bool → List ℕ → List Pin → List (Bool × EditFault)
wiring_checks d fit output inputs =
    (not fit, WrongArity) ∷ (not (has_net d output && list_all (is_known d) inputs), UnknownNet)
    ∷ (is_input_net d output, DrivenInput) ∷ []

-- a net of this name is to be there and to be an input
abbrev pub input_checks : Netlist → List ℕ → List (Bool × EditFault)
input_checks d net = net_there d net ∷ (not (is_input_net d net), NotInput) ∷ []

-- what an edit is checked for, in this order
abbrev pub checks : Netlist → Edit → List (Bool × EditFault)
checks d (AddNet name kind) = new_net_checks d name
checks d (AddInput name) = new_net_checks d name
checks d (DropNet name) = net_there d name ∷ (is_used d name, NetInUse) ∷ []
checks d (SetNetKind name kind) = net_there d name ∷ []
checks d (AddGate name kind delays output inputs) =
    new_gate_checks d name ++ (delay_checks kind delays ++ wiring_checks d (takes_inputs kind (length inputs)) output inputs)
checks d (DropGate name) = gate_there d name ∷ []
checks d (SetDelay name delays) = gate_there d name ∷ delay_checks (kind_named d name) delays
checks d (SetGateKind name kind) =
    gate_there d name ∷ (not (kind_fits d name kind), WrongArity) ∷ (keeps_off d name kind, NoTurnOff) ∷ []
checks d (Rewire name output inputs) =
    gate_there d name ∷ wiring_checks d (takes_inputs (kind_named d name) (length inputs)) output inputs
checks d (Stim net time v) =
    input_checks d net
    ++ ((nat_lt MAX_TIME time, TimeTooLarge) ∷ (not (is_point d net time) && nat_le MAX_POINTS (point_total d.nets), TooMany) ∷ [])
checks d (Unstim net time) = input_checks d net ++ ((not (is_point d net time), NoSuchPoint) ∷ [])
checks d (Horizon time) = (nat_lt MAX_TIME time, TimeTooLarge) ∷ []

-- the fault of the first check that holds
abbrev pub first_fault : List (Bool × EditFault) → Option EditFault
first_fault all = option_map (λ check. check.1) (find (λ check. check.0) all)

-- why the design refuses the edit, if it does
abbrev pub cause : Netlist → Edit → Option EditFault
cause d e = first_fault (checks d e)
