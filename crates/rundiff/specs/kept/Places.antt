-- Nets and gates by their places in the order of the new design.
use Rattle.std.specs.Prelude.{◌==◌, Bool, false, ℕ, List, []}
use Rattle.std.specs.List.{list_any, position_from, slice_index_or}
use Rattle.std.specs.Option.{option_map_or}
use Rattle.fourstate.specs.Delays.{uniform_delays}
use Rattle.fourstate.specs.declared.gate.GateKind.TheVariants.{Buf}
use Rattle.fourstate.specs.declared.net.NetKind.TheVariants.{Wire}
use Rattle.design.specs.Names.{same_name}
use Rattle.design.specs.Netlist.{GateEntry, NetEntry, Netlist}

abbrev pub blank_net : NetEntry
blank_net = record { name = []; kind = Wire; is_input = false; points = [] }

abbrev pub blank_gate : GateEntry
blank_gate = record { name = []; kind = Buf; delays = uniform_delays 0; output = []; inputs = [] }

abbrev pub net_at : Netlist → ℕ → NetEntry
net_at d p = slice_index_or d.nets p blank_net

abbrev pub gate_at : Netlist → ℕ → GateEntry
gate_at d p = slice_index_or d.gates p blank_gate

-- the place is among these
abbrev pub is_among : List ℕ → ℕ → Bool
is_among places p = list_any (λ q. q == p) places

-- the net of this name is at one of the places that are live
abbrev pub is_live : Netlist → (live : ℕ → Bool) → List ℕ → Bool
is_live d live name = option_map_or live (position_from (λ n. same_name n.name name) 0 d.nets) false
