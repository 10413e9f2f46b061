-- The scopes of a design (IEEE 1364-2005, 12.4): the module at its top and each instance below it, one after another. An instance comes
-- before those in it, and these before the next instance (own).
use Rattle.std.specs.Prelude.{Bool, true, false, ℕ, zero, suc, nat_eq, ◌&&◌, ◌++◌, List, [], ◌∷◌, map, Option, None, Some, is_none, option_map, unwrap_or, slice_get, codes}
use Rattle.std.specs.List.{filter, flat_map}
use Rattle.std.specs.Map.{lookup}
use Rattle.std.specs.Option.{option_map_or, option_to_list}
use Rattle.fourstate.specs.declared.value.Value.{Value}
use Rattle.fourstate.specs.declared.value.Value.TheVariants.{Unknown}
use Rattle.design.specs.Connections.{Connection, to_net, to_constant}
use Rattle.design.specs.Netlist as netlist
use Rattle.vtext.specs.declared.gate.Terminal.{Terminal}
use Rattle.vtext.specs.declared.gate.Terminal.TheVariants.{Net, Bit, Constant}
use Rattle.vtext.specs.declared.net.Net as nets
use Rattle.vtext.specs.declared.range.Range.{Range}
use Rattle.vtext.specs.Bits.{bit_bytes}
use Rattle.vtext.specs.GateNames.{gate_bytes}
use Rattle.vtext.specs.Modules.{GateEntry, InstanceEntry, ModuleEntry}
use Rattle.vtext.specs.Names.{name_at}
use Rattle.vtext.specs.Nets.{is_input, net_kind, net_of}
use Rattle.vtext.specs.Ranges.{indexes, place_of_bit}
use Rattle.elaboration.specs.declared.limits.TheConstants.{MAX_DEPTH}
use Rattle.elaboration.specs.Ports.{joined_to, range_of}

-- What a net of a module is in the design.

-- the nets of the design that its bits are, from the left, of which a scalar has one; or the constant that a port is tied to
pub data Node : Type 0 where
  wired : List netlist.NetEntry → Node
  tied : Value → Node

-- the net at a place alone, from the left
abbrev pub node_bit : ℕ → Node → Node
node_bit place (wired nets) = wired (option_to_list (slice_get nets place))
node_bit place (tied value) = tied value

-- the bit of an index, of what has a range; a scalar is its one bit
abbrev pub bit_node : Option Range → ℕ → Node → Node
bit_node None i node = node
bit_node (Some range) i node = node_bit (place_of_bit range i) node

-- a scope: its module, what stands before its names, whether it is the top, and what its connected ports are
pub record Scope : Type 0 where
  pub entry : ModuleEntry
  pub path : List ℕ
  pub top : Bool
  pub given : ℕ → Option Node

-- the names of a net in the design: its own, or those of a vector's bits, from the left
abbrev pub flat_names : List (List ℕ) → ℕ × nets.Net → List (List ℕ)
flat_names names net = option_map_or (λ range. map (bit_bytes (name_at names net.0)) (indexes range)) net.1.range (name_at names net.0 ∷ [])

-- Below, `names` is the table of names, and `modules` are those of the text.
module _ (names : List (List ℕ)) (modules : List (ℕ × ModuleEntry)) where
  -- a net of the design by one of these names, with the scope's path before it; of the top's nets those that are inputs are inputs of the design
  abbrev pub own_net : Scope → nets.Net → List ℕ → netlist.NetEntry
  own_net scope net name = netlist.new_net (scope.path ++ name) (net_kind net) (scope.top && is_input net)

  -- a net of the scope's own, or the bits of a vector
  abbrev pub own_bits : Scope → ℕ × nets.Net → List netlist.NetEntry
  own_bits scope net = map (own_net scope net.1) (flat_names names net)

  -- the nets that come with a scope: those that are no connected ports
  abbrev pub is_own : Scope → ℕ × nets.Net → Bool
  is_own scope net = is_none (scope.given net.0)

  abbrev pub own_nets : Scope → List netlist.NetEntry
  own_nets scope = flat_map (own_bits scope) (filter (is_own scope) scope.entry.nets)

  -- what a net of the module is
  abbrev pub node_of : Scope → ℕ × nets.Net → Node
  node_of scope net = unwrap_or (scope.given net.0) (wired (own_bits scope net))

  -- what the net of this name is
  abbrev pub node_for : Scope → ℕ → Node
  node_for scope n = option_map_or (λ net. node_of scope (n, net)) (net_of scope.entry.nets n) (tied Unknown)

  -- what a terminal in the module is
  abbrev pub node_at : Scope → Terminal → Node
  node_at scope (Constant value) = tied value
  node_at scope (Net n) = node_for scope n
  node_at scope (Bit n i) = bit_node (range_of scope.entry.nets n) i (node_for scope n)

  -- Instances.

  abbrev pub path_of : Scope → InstanceEntry → List ℕ
  path_of scope i = scope.path ++ name_at names i.name ++ codes "."

  -- the scope of an instance of a module
  abbrev pub inner : Scope → InstanceEntry → ModuleEntry → Scope
  inner scope i m = record {
    entry = m;
    path = path_of scope i;
    top = false;
    given = λ n. option_map (node_at scope) (joined_to m i.connections n);
  }

  -- a scope and those below it, to so many levels
  abbrev pub scopes_below : ℕ → Scope → List Scope
  scopes_below zero scope = scope ∷ []
  scopes_below (suc levels) scope =
      scope ∷ flat_map (λ i. option_map_or (λ m. scopes_below levels (inner scope i m)) (lookup (nat_eq i.«module») modules) []) scope.entry.instances

  abbrev pub top_scope : ModuleEntry → Scope
  top_scope m = record { entry = m; path = []; top = true; given = λ n. None }

  unfoldable pub scopes_of : ModuleEntry → List Scope
  scopes_of m = scopes_below MAX_DEPTH (top_scope m)

  -- Each terminal of a gate is one net, or a constant.

  abbrev pub name_of_node : Node → List ℕ
  name_of_node (wired (net ∷ [])) = net.name
  name_of_node node = []

  abbrev pub connection_of : Node → Connection
  connection_of (wired (net ∷ [])) = to_net net.name
  connection_of (wired nets) = to_constant Unknown
  connection_of (tied value) = to_constant value

  -- a gate of the scope, with the scope's path before its name
  abbrev pub own_gate : Scope → GateEntry → netlist.GateEntry
  own_gate scope gate = record {
    name = scope.path ++ gate_bytes names gate;
    kind = gate.kind;
    delays = gate.delays;
    output = name_of_node (node_at scope gate.output);
    inputs = map (λ input. connection_of (node_at scope input)) gate.inputs;
  }

  abbrev pub own_gates : Scope → List netlist.GateEntry
  own_gates scope = map (own_gate scope) scope.entry.gates

  -- The nets and gates of a design.

  abbrev pub nets_of : ModuleEntry → List netlist.NetEntry
  nets_of m = flat_map own_nets (scopes_of m)

  abbrev pub gates_of : ModuleEntry → List netlist.GateEntry
  gates_of m = flat_map own_gates (scopes_of m)
