-- The gate for which a design is refused, where one drives an input (own).
use Rattle.std.specs.Prelude.{ℕ, Bool, true, false, ◌++◌, if◌then◌else◌, List, [], ◌∷◌, Option, None, Some, codes, option_map}
use Rattle.std.specs.List.{find}
use Rattle.std.specs.Option.{option_map_or, option_or}
use Rattle.design.specs.Netlist as netlist
use Rattle.edits.specs.declared.fault.EditFault.TheVariants.{DrivenInput}
use Rattle.vtext.specs.declared.fault.ReadFault.{ReadFault}
use Rattle.vtext.specs.declared.fault.ReadFaultKind.{ReadFaultKind}
use Rattle.vtext.specs.declared.fault.ReadFaultKind.TheVariants.{Edit}
use Rattle.vtext.specs.Modules.{ModuleEntry, ModuleList}
use Rattle.elaboration.specs.Elaborations.{elaboration_fault}
use Rattle.elaboration.specs.Scopes.{Scope, own_gate, scopes_of}
use Rattle.elaboration.specs.Tops.{top_of}
use Rattle.vread.specs.LateFaults.{drives_input, scopes_fault}

module _ (names : List (List ℕ)) (modules : List (ℕ × ModuleEntry)) where
  -- the first gate of a scope that drives an input of the design
  abbrev pub input_driver : Scope → Option netlist.GateEntry
  input_driver scope = option_map (own_gate names modules scope) (find (drives_input names modules scope) scope.entry.gates)

  -- the first one of some scopes
  abbrev pub first_driver : List Scope → Option netlist.GateEntry
  first_driver [] = None
  first_driver (scope ∷ more) = option_or (input_driver scope) (first_driver more)

-- `, net NAME, gate NAME`: what a gate drives, and the gate
abbrev pub driver_text : netlist.GateEntry → List ℕ
driver_text gate = codes ", net " ++ gate.output ++ codes ", gate " ++ gate.name

-- the fault is that a gate drives an input
abbrev pub is_driven_input : Option ReadFaultKind → Bool
is_driven_input (Some (Edit DrivenInput)) = true
is_driven_input kind = false

-- what the fault of the design of a top names, if it is for a driven input
abbrev pub scopes_party : ModuleList → ModuleEntry → Option ReadFaultKind → List ℕ
scopes_party list top kind =
    if is_driven_input kind then option_map_or driver_text (first_driver list.names list.modules (scopes_of list.names list.modules top)) [] else []

-- where modules have this fault of their own, or none, and this top
abbrev pub party_by : ModuleList → Option ReadFault → Option (ℕ × ModuleEntry) → List ℕ
party_by list None (Some top) = scopes_party list top.1 (scopes_fault list.names list.modules top.1)
party_by list fault top = []

-- what the fault of a text's modules names as the design of their top: nothing where they have a fault of their own
abbrev pub design_party : List ℕ → ModuleList → List ℕ
design_party text list = party_by list (elaboration_fault text list.modules) (top_of list.modules)
