-- What is made of the scopes of a design as they are kept: its nets and gates, one after another.
use Rattle.std.specs.Prelude.{◌≡◌, ◌≢◌, ◌≤◌, ◌+◌, ◌-◌, ◌^◌, Bool, true, false, ℕ, IsTrue, ◌&&◌, ◌||◌, not, nat_lt, min, max, if◌then◌else◌, List, [], ◌∷◌, ◌++◌, length, map, fold, slice_get, All, AllPairs, IsSome, IsSomeAnd, Option, None, Some, option_map}
use Rattle.std.specs.Fmt.{decimal}
use Rattle.std.specs.List.{find, list_any}
use Rattle.std.specs.Option.{option_map_or, option_or}
use Rattle.fourstate.specs.kept.Delays.{AreDelays}
use Rattle.fourstate.specs.Gates.{takes_inputs}
use Rattle.fourstate.specs.Nets.{rule_of}
use Rattle.fourstate.specs.declared.net.NetKind.{NetKind}
use Rattle.design.specs.declared.limits.TheConstants.{MAX_GATES, MAX_NAME, MAX_NETS}
use Rattle.design.specs.Connections.{Connection, to_net, to_constant}
use Rattle.design.specs.Names.{is_name}
use Rattle.design.specs.Netlist as netlist
use Rattle.edits.specs.declared.fault.EditFault.TheVariants.{BadName, DrivenInput, TooMany}
use Rattle.vtext.specs.declared.fault.ReadFaultKind.{ReadFaultKind}
use Rattle.vtext.specs.declared.fault.ReadFaultKind.TheVariants.{PortKind, Edit}
use Rattle.vtext.specs.declared.net.Net as nets
use Rattle.vtext.specs.declared.range.Range.{Range}
use Rattle.vtext.specs.Bits.{bit_bytes}
use Rattle.vtext.specs.GateNames.{gate_bytes}
use Rattle.vtext.specs.Modules.{GateEntry}
use Rattle.vtext.specs.Names.{name_at}
use Rattle.vtext.specs.Nets.{net_kind}
use Rattle.vtext.specs.Ranges.{indexes}
use Rattle.elaboration.specs.declared.node.NetRun.{NetRun}
use Rattle.elaboration.specs.declared.node.NodeRef.{NodeRef}
use Rattle.elaboration.specs.declared.node.NodeRef.TheVariants.{Nets, Tied}
use Rattle.elaboration.specs.declared.node.Slot.{Slot}
use Rattle.elaboration.specs.kept.Elaborations.{Elaborated}
use Rattle.elaboration.specs.kept.Numbered.{PlacedScope, is_own_slot, ref_at, slot_node}
use Rattle.vread.specs.LateFaults.{is_clash}

-- one of the nets of a scope, with what it is, passes
abbrev pub any_slot : (Slot → ℕ × nets.Net → Bool) → List Slot → List (ℕ × nets.Net) → Bool
any_slot passes [] nets = false
any_slot passes (slot ∷ slots) [] = false
any_slot passes (slot ∷ slots) (net ∷ nets) = passes slot net || any_slot passes slots nets

-- What may be wrong with a scope.

abbrev pub clashes : NetKind → NodeRef → Bool
clashes kind (Nets run) = nat_lt 0 run.width && is_clash (rule_of kind) (rule_of run.kind)
clashes kind (Tied value) = false

abbrev pub is_tied : NodeRef → Bool
is_tied (Nets run) = false
is_tied (Tied value) = true

abbrev pub is_input_ref : NodeRef → Bool
is_input_ref (Nets run) = nat_lt 0 run.width && run.is_input
is_input_ref (Tied value) = false

abbrev pub is_misjoined : Slot → ℕ × nets.Net → Bool
is_misjoined slot net = not (is_own_slot slot) && clashes (net_kind net.1) (slot_node slot)

-- what a gate of the scope drives
abbrev pub driven : PlacedScope → GateEntry → NodeRef
driven scope gate = ref_at scope gate.output

abbrev pub drives_constant : PlacedScope → GateEntry → Bool
drives_constant scope gate = is_tied (driven scope gate)

abbrev pub is_port_wrong : PlacedScope → Bool
is_port_wrong scope = any_slot is_misjoined scope.slots scope.entry.nets || list_any (drives_constant scope) scope.entry.gates

abbrev pub drives_input : PlacedScope → GateEntry → Bool
drives_input scope gate = is_input_ref (driven scope gate)

abbrev pub is_input_driven : PlacedScope → Bool
is_input_driven scope = list_any (drives_input scope) scope.entry.gates

-- a name of so many bytes after a path of so many is over its limit
abbrev pub is_long : ℕ → ℕ → Bool
is_long path bytes = nat_lt MAX_NAME (path + bytes)

-- how many bytes the longest index of a range has, with its brackets
abbrev pub bracketed_length : Range → ℕ
bracketed_length range = 2 + length (decimal (max range.left range.right))

-- how many gates there are, as far as numbers go
abbrev pub gate_count : List PlacedScope → ℕ
gate_count scopes = fold (λ count scope. min (count + length scope.entry.gates) (2 ^ 64 - 1)) 0 scopes

module _ (names : List (List ℕ)) where
  -- how many bytes the longest of a net's names has
  abbrev pub longest : ℕ × nets.Net → ℕ
  longest net = length (name_at names net.0) + option_map_or bracketed_length net.1.range 0

  abbrev pub is_long_net : ℕ → Slot → ℕ × nets.Net → Bool
  is_long_net path slot net = is_own_slot slot && is_long path (longest net)

  abbrev pub is_long_gate : ℕ → GateEntry → Bool
  is_long_gate path gate = is_long path (length (gate_bytes names gate))

  -- a name in a scope is over its limit, after a path of so many bytes
  abbrev pub is_long_after : ℕ → PlacedScope → Bool
  is_long_after path scope = any_slot (is_long_net path) scope.slots scope.entry.nets || list_any (is_long_gate path) scope.entry.gates

  abbrev pub is_long_named : PlacedScope → Bool
  is_long_named scope = is_long_after (length scope.path) scope

  -- why the scopes of a design of not too many nets are no design, if they are none
  abbrev pub kept_fault : Elaborated → Option ReadFaultKind
  kept_fault design =
      if list_any is_port_wrong design.scopes then Some PortKind
      else if list_any is_long_named design.scopes then Some (Edit BadName)
      else if nat_lt MAX_GATES (gate_count design.scopes) then Some (Edit TooMany)
      else if list_any is_input_driven design.scopes then Some (Edit DrivenInput)
      else None

  -- The nets that come with a scope.

  -- one of a run, by its name in the scope
  abbrev pub run_net : List ℕ → NetRun → List ℕ → netlist.NetEntry
  run_net path run name = netlist.new_net (path ++ name) run.kind run.is_input

  -- the bits of a vector, from the left
  abbrev pub bits_nets : List ℕ → NetRun → ℕ → Range → List netlist.NetEntry
  bits_nets path run n range = map (λ i. run_net path run (bit_bytes (name_at names n) i)) (indexes range)

  abbrev pub run_nets : List ℕ → NetRun → ℕ → Option Range → List netlist.NetEntry
  run_nets path run n range = option_map_or (bits_nets path run n) range (run_net path run (name_at names n) ∷ [])

  abbrev pub node_nets : List ℕ → NodeRef → ℕ × nets.Net → List netlist.NetEntry
  node_nets path (Nets run) net = run_nets path run net.0 net.1.range
  node_nets path (Tied value) net = []

  abbrev pub slot_nets : List ℕ → Slot → ℕ × nets.Net → List netlist.NetEntry
  slot_nets path slot net = if is_own_slot slot then node_nets path (slot_node slot) net else []

  abbrev pub slots_nets : List ℕ → List Slot → List (ℕ × nets.Net) → List netlist.NetEntry
  slots_nets path [] nets = []
  slots_nets path (slot ∷ slots) [] = []
  slots_nets path (slot ∷ slots) (net ∷ nets) = slot_nets path slot net ++ slots_nets path slots nets

  abbrev pub kept_nets : PlacedScope → List netlist.NetEntry
  kept_nets scope = slots_nets scope.path scope.slots scope.entry.nets

-- the names of nets are good ones
abbrev pub AreNamed : List netlist.NetEntry → Type 0
AreNamed nets = All (λ net. IsTrue (is_name net.name)) nets

-- nets that a design may have
pub record AreFitNets (nets : List netlist.NetEntry) : Type 0 where
  pub named : AreNamed nets
  pub distinct : AllPairs (λ a b. a.name ≢ b.name) nets
  pub room : length nets ≤ MAX_NETS

module _ (flat : List netlist.NetEntry) where
  abbrev pub net_at : ℕ → List ℕ
  net_at place = option_map_or (λ net. net.name) (slice_get flat place) []

  abbrev pub output_of : NodeRef → List ℕ
  output_of (Nets run) = net_at run.place
  output_of (Tied value) = []

  abbrev pub connection_of : NodeRef → Connection
  connection_of (Nets run) = to_net (net_at run.place)
  connection_of (Tied value) = to_constant value

  -- what a gate reads is a constant, or one of the nets
  abbrev pub IsReadable : NodeRef → Type 0
  IsReadable (Nets run) = IsSome (slice_get flat run.place)
  IsReadable (Tied value) = Unit {0}

  -- what it drives is one of the nets, and no input
  abbrev pub IsDrivable : NodeRef → Type 0
  IsDrivable (Nets run) = IsSomeAnd (slice_get flat run.place) (λ net. net.is_input ≡ false)
  IsDrivable (Tied value) = ⊥

module _ (names : List (List ℕ)) (flat : List netlist.NetEntry) (scope : PlacedScope) where
  abbrev pub kept_gate : GateEntry → netlist.GateEntry
  kept_gate gate = record {
    name = scope.path ++ gate_bytes names gate;
    kind = gate.kind;
    delays = gate.delays;
    output = output_of flat (driven scope gate);
    inputs = map (λ input. connection_of flat (ref_at scope input)) gate.inputs;
  }

  abbrev pub kept_gates : List netlist.GateEntry
  kept_gates = map kept_gate scope.entry.gates

  -- the first gate of the scope that drives an input of the design
  abbrev pub kept_driver : Option netlist.GateEntry
  kept_driver = option_map kept_gate (find (drives_input scope) scope.entry.gates)

  -- a gate that may be made
  pub record IsFitGate (gate : GateEntry) : Type 0 where
    pub named : IsTrue (is_name (scope.path ++ gate_bytes names gate))
    pub fits : IsTrue (takes_inputs gate.kind (length gate.inputs))
    pub delays : AreDelays gate.delays
    pub output : IsDrivable flat (driven scope gate)
    pub inputs : All (λ input. IsReadable flat (ref_at scope input)) gate.inputs

  abbrev pub AreFitGates : Type 0
  AreFitGates = All IsFitGate scope.entry.gates

-- the first one of some scopes
abbrev pub first_kept_driver : (names : List (List ℕ)) (flat : List netlist.NetEntry) → List PlacedScope → Option netlist.GateEntry
first_kept_driver names flat [] = None
first_kept_driver names flat (scope ∷ more) = option_or (kept_driver names flat scope) (first_kept_driver names flat more)

-- gates that a design may have together
pub record AreDistinctGates (gates : List netlist.GateEntry) : Type 0 where
  pub distinct : AllPairs (λ a b. a.name ≢ b.name) gates
  pub room : length gates ≤ MAX_GATES
