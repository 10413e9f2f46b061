-- A design as contracts see it: nets and gates in order, by name (IEEE 1364-2005, 12).
use Rattle.std.specs.Prelude.{Bool, true, false, ℕ, ◌==◌, ◌++◌, ◌||◌, not, nat_le, if◌then◌else◌, List, [], ◌∷◌, length, map, Option, None}
use Rattle.std.specs.Ordering.{nat_cmp}
use Rattle.std.specs.BTreeMap.{insert_entry}
use Rattle.std.specs.List.{filter, find, last_or, list_any, sum_by}
use Rattle.std.specs.Option.{option_map_or}
use Rattle.fourstate.specs.declared.value.Value.{Value}
use Rattle.fourstate.specs.declared.value.Value.TheVariants.{Unknown}
use Rattle.fourstate.specs.declared.gate.GateKind.{GateKind}
use Rattle.fourstate.specs.declared.net.NetKind.{NetKind}
use Rattle.fourstate.specs.declared.delay_times.DelayTimes.{DelayTimes}
use Rattle.fourstate.specs.declared.unit.TimeUnit.{TimeUnit}
use Rattle.design.specs.Connections.{Connection, to_net, to_constant}
use Rattle.design.specs.Names.{same_name}

-- a net: its stimulus points, in order of time, each with the value that the net has from then on
pub record NetEntry : Type 0 where
  pub name : List ℕ
  pub kind : NetKind
  pub is_input : Bool
  pub points : List (ℕ × Value)

-- a gate drives the net of the name output, and reads nets by name, or constants
pub record GateEntry : Type 0 where
  pub name : List ℕ
  pub kind : GateKind
  pub delays : DelayTimes
  pub output : List ℕ
  pub inputs : List Connection

-- a design: times are in units of `unit`, and a run ends at the horizon
pub record Netlist : Type 0 where
  pub top : List ℕ
  pub unit : TimeUnit
  pub nets : List NetEntry
  pub gates : List GateEntry
  pub horizon : ℕ

-- Look-ups.

-- the net of this name
abbrev pub net_named : Netlist → List ℕ → Option NetEntry
net_named d name = find (λ n. same_name n.name name) d.nets

-- the gate of this name
abbrev pub gate_named : Netlist → List ℕ → Option GateEntry
gate_named d name = find (λ g. same_name g.name name) d.gates

-- a net of this name is there
abbrev pub has_net : Netlist → List ℕ → Bool
has_net d name = list_any (λ n. same_name n.name name) d.nets

-- a gate of this name is there
abbrev pub has_gate : Netlist → List ℕ → Bool
has_gate d name = list_any (λ g. same_name g.name name) d.gates

-- the connection is a constant or names a net that is there
abbrev pub is_readable : Netlist → Connection → Bool
is_readable d (to_net name) = has_net d name
is_readable d (to_constant v) = true

-- the gates that drive the net of this name
abbrev pub drivers_of : Netlist → List ℕ → List GateEntry
drivers_of d name = filter (λ g. same_name g.output name) d.gates

-- the connection names the net of this name
abbrev pub is_at_net : List ℕ → Connection → Bool
is_at_net name (to_net read) = same_name read name
is_at_net name (to_constant v) = false

-- the gate reads the net of this name at one of its inputs
abbrev pub reads : GateEntry → List ℕ → Bool
reads g name = list_any (is_at_net name) g.inputs

-- a gate reads or drives the net of this name
abbrev pub is_used : Netlist → List ℕ → Bool
is_used d name = list_any (λ g. reads g name || same_name g.output name) d.gates

-- Stimulus.

-- the value of the latest point at or before t, x without one
abbrev pub stimulus : List (ℕ × Value) → ℕ → Value
stimulus points t = option_map_or (λ point. point.1) (last_or None (filter (λ point. nat_le point.0 t) points)) Unknown

-- one of the points is at t
abbrev pub has_point : List (ℕ × Value) → ℕ → Bool
has_point points t = list_any (λ point. point.0 == t) points

-- how many points the nets have together
abbrev pub point_total : List NetEntry → ℕ
point_total nets = sum_by (λ n. length n.points) nets

-- Edits.

-- a net with no points
abbrev pub new_net : List ℕ → NetKind → Bool → NetEntry
new_net name kind is_input = record { name = name; kind = kind; is_input = is_input; points = [] }

-- the net with a point set, in place of one at the same time
abbrev pub net_with_point : NetEntry → ℕ → Value → NetEntry
net_with_point n t v =
    record { name = n.name; kind = n.kind; is_input = n.is_input; points = insert_entry nat_cmp n.points t v }

-- the design with a net more
abbrev pub with_net : Netlist → NetEntry → Netlist
with_net d n = record { top = d.top; unit = d.unit; nets = d.nets ++ n ∷ []; gates = d.gates; horizon = d.horizon }

-- the design with a gate more
abbrev pub with_gate : Netlist → GateEntry → Netlist
with_gate d g = record { top = d.top; unit = d.unit; nets = d.nets; gates = d.gates ++ g ∷ []; horizon = d.horizon }

-- the design with a point set at the net of this name
abbrev pub with_point : Netlist → List ℕ → ℕ → Value → Netlist
with_point d name t v =
    record { top = d.top; unit = d.unit; nets = map (λ n. if same_name n.name name then net_with_point n t v else n) d.nets; gates = d.gates; horizon = d.horizon }

-- the design with another horizon
abbrev pub with_horizon : Netlist → ℕ → Netlist
with_horizon d t = record { top = d.top; unit = d.unit; nets = d.nets; gates = d.gates; horizon = t }

-- the design without the net of this name
abbrev pub without_net : Netlist → List ℕ → Netlist
without_net d name =
    record { top = d.top; unit = d.unit; nets = filter (λ n. not (same_name n.name name)) d.nets; gates = d.gates; horizon = d.horizon }

-- the design without the gate of this name
abbrev pub without_gate : Netlist → List ℕ → Netlist
without_gate d name =
    record { top = d.top; unit = d.unit; nets = d.nets; gates = filter (λ g. not (same_name g.name name)) d.gates; horizon = d.horizon }

-- the design with a change of the net of this name
abbrev pub with_net_changed : Netlist → List ℕ → (NetEntry → NetEntry) → Netlist
with_net_changed d name change =
    record { top = d.top; unit = d.unit; nets = map (λ n. if same_name n.name name then change n else n) d.nets; gates = d.gates; horizon = d.horizon }

-- the design with a change of the gate of this name
abbrev pub with_gate_changed : Netlist → List ℕ → (GateEntry → GateEntry) → Netlist
with_gate_changed d name change =
    record { top = d.top; unit = d.unit; nets = d.nets; gates = map (λ g. if same_name g.name name then change g else g) d.gates; horizon = d.horizon }

-- the design with another kind of the net of this name
abbrev pub with_net_kind : Netlist → List ℕ → NetKind → Netlist
with_net_kind d name kind =
    with_net_changed d name (λ n. record { name = n.name; kind = kind; is_input = n.is_input; points = n.points })

-- the design without the point at t of the net of this name
abbrev pub without_point : Netlist → List ℕ → ℕ → Netlist
without_point d name t =
    with_net_changed d name
    (λ n. record { name = n.name; kind = n.kind; is_input = n.is_input; points = filter (λ point. not (point.0 == t)) n.points })

-- the design with other delays of the gate of this name
abbrev pub with_delays : Netlist → List ℕ → DelayTimes → Netlist
with_delays d name delays =
    with_gate_changed d name
    (λ g. record { name = g.name; kind = g.kind; delays = delays; output = g.output; inputs = g.inputs })

-- the design with another kind of the gate of this name
abbrev pub with_gate_kind : Netlist → List ℕ → GateKind → Netlist
with_gate_kind d name kind =
    with_gate_changed d name
    (λ g. record { name = g.name; kind = kind; delays = g.delays; output = g.output; inputs = g.inputs })

-- the design with the gate of this name at other nets
abbrev pub with_wiring : Netlist → List ℕ → List ℕ → List Connection → Netlist
with_wiring d name output inputs =
    with_gate_changed d name
    (λ g. record { name = g.name; kind = g.kind; delays = g.delays; output = output; inputs = inputs })
