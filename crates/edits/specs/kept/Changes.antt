-- What edits change of a design that accepts them, by key (own).
use Rattle.std.specs.Prelude.{◌≡◌, ◌<◌, ◌≤◌, ℕ, Bool, true, false, IsTrue, IsSome, IsSomeAnd, List, [], length, map, None, Some, option_map, Result, MatchResult}
use Rattle.std.specs.List.{list_all}
use Rattle.std.specs.Option.{option_map_or}
use Rattle.fourstate.specs.declared.delay_times.DelayTimes.{DelayTimes}
use Rattle.fourstate.specs.declared.gate.GateKind.{GateKind}
use Rattle.fourstate.specs.declared.limits.TheConstants.{MAX_TIME}
use Rattle.fourstate.specs.declared.net.NetKind.TheVariants.{Wire}
use Rattle.fourstate.specs.Gates.{takes_inputs}
use Rattle.design.specs.declared.limits.TheConstants.{MAX_NETS, MAX_GATES, MAX_POINTS}
use Rattle.design.specs.Keys.{Keyed, entry_in, name_of, netlist}
use Rattle.design.specs.kept.Keys.{IsDrivable, gate_by_key, net_by_key}
use Rattle.design.specs.Names.{is_name}
use Rattle.design.specs.Netlist.{GateEntry, Netlist, gate_named, has_gate, has_net, has_point, is_used, net_named, new_net, point_total, with_delays, with_gate, with_gate_kind, with_horizon, with_net, with_net_kind, with_point, with_wiring, without_gate, without_net, without_point}
use Rattle.edits.specs.declared.changes.change.Change.{Change}
use Rattle.edits.specs.declared.changes.change.Change.TheVariants.{AddNet, AddInput, DropNet, SetNetKind, AddGate, DropGate, SetDelays, SetGateKind, Rewire, SetPoint, RemovePoint, Horizon}
use Rattle.edits.specs.declared.edit.Edit.{Edit}
use Rattle.edits.specs.declared.fault.EditFault.{EditFault}
use Rattle.edits.specs.declared.pin.Pin.{Pin}
use Rattle.edits.specs.Checks.{cause, first_fault, is_known}
use Rattle.edits.specs.Edits.{connection_of, edited}

-- When a design is ready for a change.

-- a net of this name may be added
pub record TakesNet (d : Netlist) (name : List ℕ) : Type 0 where
  pub named : IsTrue (is_name name)
  pub absent : has_net d name ≡ false
  pub room : length d.nets < MAX_NETS

-- a gate of this name may be added
pub record TakesGateName (d : Netlist) (name : List ℕ) : Type 0 where
  pub named : IsTrue (is_name name)
  pub absent : has_gate d name ≡ false
  pub room : length d.gates < MAX_GATES

-- a gate may drive the net of this key, and read these
pub record TakesWiring (d : Keyed) (output : ℕ) (inputs : List Pin) : Type 0 where
  pub drivable : IsDrivable d.nets output
  pub known : list_all (is_known (netlist d)) inputs ≡ true

-- a gate may be added
pub record TakesGate (d : Keyed) (name : List ℕ) (kind : GateKind) (output : ℕ) (inputs : List Pin) : Type 0 where
  pub new : TakesGateName (netlist d) name
  pub inputs_fit : IsTrue (takes_inputs kind (length inputs))
  pub wiring : TakesWiring d output inputs

-- the gate of this key may be at these nets
pub record RewiresGate (d : Keyed) (gate output : ℕ) (inputs : List Pin) : Type 0 where
  pub inputs_fit : IsSomeAnd (gate_by_key d gate) (λ g. IsTrue (takes_inputs g.kind (length inputs)))
  pub wiring : TakesWiring d output inputs

-- the net of this key may have a point at this time
pub record TakesPoint (d : Keyed) (net time : ℕ) : Type 0 where
  pub input : IsSomeAnd (net_by_key d net) (λ n. n.is_input ≡ true)
  pub moment : time ≤ MAX_TIME
  pub room : IsSomeAnd (net_by_key d net) (λ n. has_point n.points time ≡ false → point_total (netlist d).nets < MAX_POINTS)

-- the design is ready for the change
abbrev pub IsReady : Keyed → Change → Type 0
IsReady d (AddNet name kind) = TakesNet (netlist d) name.now
IsReady d (AddInput name) = TakesNet (netlist d) name.now
IsReady d (DropNet net) = IsSomeAnd (net_by_key d net) (λ n. is_used (netlist d) n.name ≡ false)
IsReady d (SetNetKind net kind) = IsSome (net_by_key d net)
IsReady d (AddGate name kind delays output inputs) = TakesGate d name.now kind output inputs.now
IsReady d (DropGate gate) = IsSome (gate_by_key d gate)
IsReady d (SetDelays gate delays) = IsSome (gate_by_key d gate)
IsReady d (SetGateKind gate kind) = IsSomeAnd (gate_by_key d gate) (λ g. IsTrue (takes_inputs kind (length g.inputs)))
IsReady d (Rewire gate output inputs) = RewiresGate d gate output inputs.now
IsReady d (SetPoint net time v) = TakesPoint d net time
IsReady d (RemovePoint net time) = IsSomeAnd (net_by_key d net) (λ n. has_point n.points time ≡ true)
IsReady d (Horizon time) = time ≤ MAX_TIME

-- What a change makes of a design.

-- the name of the gate of this key, no bytes without one
abbrev pub gate_name : Keyed → ℕ → List ℕ
gate_name d gate = option_map_or (λ g. g.name) (gate_by_key d gate) []

-- a new gate by names
abbrev pub gate_of_names : Keyed → List ℕ → GateKind → DelayTimes → ℕ → List Pin → GateEntry
gate_of_names d name kind delays output inputs =
    record { name = name; kind = kind; delays = delays; output = name_of d.nets output; inputs = map connection_of inputs }

-- the design with the change
abbrev pub changed : Keyed → Change → Netlist
changed d (AddNet name kind) = with_net (netlist d) (new_net name.now kind false)
changed d (AddInput name) = with_net (netlist d) (new_net name.now Wire true)
changed d (DropNet net) = without_net (netlist d) (name_of d.nets net)
changed d (SetNetKind net kind) = with_net_kind (netlist d) (name_of d.nets net) kind
changed d (AddGate name kind delays output inputs) =
    with_gate (netlist d) (gate_of_names d name.now kind delays output inputs.now)
changed d (DropGate gate) = without_gate (netlist d) (gate_name d gate)
changed d (SetDelays gate delays) = with_delays (netlist d) (gate_name d gate) delays
changed d (SetGateKind gate kind) = with_gate_kind (netlist d) (gate_name d gate) kind
changed d (Rewire gate output inputs) =
    with_wiring (netlist d) (gate_name d gate) (name_of d.nets output) (map connection_of inputs.now)
changed d (SetPoint net time v) = with_point (netlist d) (name_of d.nets net) time v
changed d (RemovePoint net time) = without_point (netlist d) (name_of d.nets net) time
changed d (Horizon time) = with_horizon (netlist d) time

-- Edits resolved.

-- the design accepts the edit, and the change is what the edit does
pub record Changes (d : Keyed) (e : Edit) (change : Change) : Type 0 where
  pub accepted : cause (netlist d) e ≡ None
  pub ready : IsReady d change
  pub same : changed d change ≡ edited (netlist d) e

-- what the edit changes, or why the design refuses it
abbrev pub Resolves : Keyed → Edit → Result Change EditFault → Type 0
Resolves d e r = MatchResult r (Changes d e) (λ fault. cause (netlist d) e ≡ Some fault)

-- what is found where no check holds, or the fault of the first that holds
abbrev pub Passes : {X : Type 0} → List (Bool × EditFault) → Result X EditFault → (X → Type 0) → Type 0
Passes checks r P = MatchResult r (λ x. (first_fault checks ≡ None) × P x) (λ fault. first_fault checks ≡ Some fault)

-- the net of this name has this key
pub record FindsNet (d : Keyed) (name : List ℕ) (key : ℕ) : Type 0 where
  pub known : has_net (netlist d) name ≡ true
  pub there : IsSome (net_by_key d key)
  pub found : net_by_key d key ≡ net_named (netlist d) name
  pub named : name_of d.nets key ≡ name

-- the gate of this name has this key
pub record FindsGate (d : Keyed) (name : List ℕ) (key : ℕ) : Type 0 where
  pub known : has_gate (netlist d) name ≡ true
  pub there : IsSome (gate_by_key d key)
  pub found : option_map (entry_in d.nets) (gate_by_key d key) ≡ gate_named (netlist d) name
  pub named : gate_name d key ≡ name

-- the number of a gate's inputs fits, and this is the key of its output
pub record FindsWiring (d : Keyed) (fit : Bool) (output : List ℕ) (inputs : List Pin) (key : ℕ) : Type 0 where
  pub fits : fit ≡ true
  pub named : name_of d.nets key ≡ output
  pub wiring : TakesWiring d key inputs
