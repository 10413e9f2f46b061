-- The faults that only a whole text shows, in the order in which they are looked for (own): those of instances, those of the modules
-- together, those of the module that is the design.
use Rattle.std.specs.Prelude.{Bool, true, false, ℕ, ◌+◌, ◌&&◌, ◌||◌, not, nat_lt, if◌then◌else◌, List, length, Option, None, Some, option_map}
use Rattle.std.specs.List.{list_any}
use Rattle.std.specs.Option.{option_map_or, option_or}
use Rattle.fourstate.specs.declared.net.NetKind.{NetKind}
use Rattle.fourstate.specs.declared.net.NetRule.{NetRule}
use Rattle.fourstate.specs.declared.net.NetRule.TheVariants.{Wire}
use Rattle.fourstate.specs.Nets.{rule_of, same_rule}
use Rattle.design.specs.declared.limits.TheConstants.{MAX_GATES, MAX_NAME, MAX_NETS}
use Rattle.edits.specs.declared.fault.EditFault.TheVariants.{BadName, DrivenInput, TooMany}
use Rattle.vtext.specs.declared.fault.ReadFault.{ReadFault}
use Rattle.vtext.specs.declared.fault.ReadFaultKind.{ReadFaultKind}
use Rattle.vtext.specs.declared.fault.ReadFaultKind.TheVariants.{PortKind, Edit}
use Rattle.vtext.specs.declared.net.Net as nets
use Rattle.vtext.specs.GateNames.{gate_bytes}
use Rattle.vtext.specs.Modules.{GateEntry, ModuleEntry, ModuleList}
use Rattle.vtext.specs.Nets.{net_kind}
use Rattle.elaboration.specs.Elaborations.{elaboration_fault}
use Rattle.elaboration.specs.Ports.{fault_at}
use Rattle.elaboration.specs.Scopes.{Node, Scope, flat_names, gates_of, is_own, nets_of, node_at, node_of, scopes_of, tied, wired}
use Rattle.elaboration.specs.Tops.{top_of}

-- a port of the first rule may not be a net of the second one: a port of a kind `wire` or `tri` takes any net's kind
abbrev pub is_clash : NetRule → NetRule → Bool
is_clash port net = not (same_rule port Wire) && not (same_rule port net)

-- a port of this kind may not be one of these nets
abbrev pub clashes : NetKind → Node → Bool
clashes kind (wired nets) = list_any (λ net. is_clash (rule_of kind) (rule_of net.kind)) nets
clashes kind (tied value) = false

abbrev pub is_constant_node : Node → Bool
is_constant_node (wired nets) = false
is_constant_node (tied value) = true

-- one of its nets is an input of the design
abbrev pub is_input_node : Node → Bool
is_input_node (wired nets) = list_any (λ net. net.is_input) nets
is_input_node (tied value) = false

-- `names` is the table of names, and `modules` are those of the text.
module _ (names : List (List ℕ)) (modules : List (ℕ × ModuleEntry)) where
  -- a net of the scope is a connected port that is joined to a net of another rule
  abbrev pub is_misjoined : Scope → ℕ × nets.Net → Bool
  is_misjoined scope net = not (is_own names modules scope net) && clashes (net_kind net.1) (node_of names modules scope net)

  -- what a gate of the scope drives
  abbrev pub driven : Scope → GateEntry → Node
  driven scope gate = node_at names modules scope gate.output

  -- a gate drives a port that is tied to a constant
  abbrev pub drives_constant : Scope → GateEntry → Bool
  drives_constant scope gate = is_constant_node (driven scope gate)

  abbrev pub is_port_wrong : Scope → Bool
  is_port_wrong scope = list_any (is_misjoined scope) scope.entry.nets || list_any (drives_constant scope) scope.entry.gates

  -- a name in the scope is over its limit
  abbrev pub is_long : Scope → List ℕ → Bool
  is_long scope name = nat_lt MAX_NAME (length scope.path + length name)

  -- a net that comes with the scope has such a name, or one of a vector's bits has
  abbrev pub is_long_net : Scope → ℕ × nets.Net → Bool
  is_long_net scope net = is_own names modules scope net && list_any (is_long scope) (flat_names names net)

  abbrev pub is_long_gate : Scope → GateEntry → Bool
  is_long_gate scope gate = is_long scope (gate_bytes names gate)

  abbrev pub is_long_named : Scope → Bool
  is_long_named scope = list_any (is_long_net scope) scope.entry.nets || list_any (is_long_gate scope) scope.entry.gates

  -- a gate drives an input of the design
  abbrev pub drives_input : Scope → GateEntry → Bool
  drives_input scope gate = is_input_node (driven scope gate)

  abbrev pub is_input_driven : Scope → Bool
  is_input_driven scope = list_any (drives_input scope) scope.entry.gates

  -- why a module of not too many levels and instances may not be a design, if it may not
  abbrev pub scopes_fault : ModuleEntry → Option ReadFaultKind
  scopes_fault top =
      if list_any is_port_wrong (scopes_of names modules top) then Some PortKind
      else if list_any is_long_named (scopes_of names modules top) then Some (Edit BadName)
      else if nat_lt MAX_NETS (length (nets_of names modules top)) then Some (Edit TooMany)
      else if nat_lt MAX_GATES (length (gates_of names modules top)) then Some (Edit TooMany)
      else if list_any is_input_driven (scopes_of names modules top) then Some (Edit DrivenInput)
      else None

-- the fault is at the word `module` of the top
abbrev pub design_fault : List ℕ → ModuleList → ℕ × ModuleEntry → Option ReadFault
design_fault text list top = option_map (fault_at text top.1.start) (scopes_fault list.names list.modules top.1)

-- the fault of the modules of a text, if there is one
abbrev pub late_fault : List ℕ → ModuleList → Option ReadFault
late_fault text list =
    option_or (elaboration_fault text list.modules) (option_map_or (design_fault text list) (top_of list.modules) None)
