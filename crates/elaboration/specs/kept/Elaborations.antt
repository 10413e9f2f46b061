-- The design that modules make as it is kept, beside the scopes of the definition.
use Rattle.std.specs.Prelude.{◌≡◌, ◌<◌, ◌^◌, ℕ, List, length, None, Some, slice_get, min, All, ◌+◌, ◌-◌}
use Rattle.std.specs.List.{AllZip}
use Rattle.design.specs.Netlist.{NetEntry}
use Rattle.vtext.specs.declared.net.Net as nets
use Rattle.vtext.specs.Modules.{ModuleEntry, ModuleList}
use Rattle.elaboration.specs.declared.node.NetRun.{NetRun}
use Rattle.elaboration.specs.declared.node.NodeRef.{NodeRef}
use Rattle.elaboration.specs.declared.node.NodeRef.TheVariants.{Nets, Tied}
use Rattle.elaboration.specs.declared.node.Slot.{Slot}
use Rattle.elaboration.specs.kept.Numbered.{PlacedScope, is_own_slot, slot_node}
use Rattle.elaboration.specs.Scopes.{Node, Scope, is_own, nets_of, node_of, scopes_of, tied, wired}
use Rattle.elaboration.specs.Tops.{top_of}
use Rattle.elaboration.specs.Elaborations.{elaboration_fault}

-- What is kept of some nets, among the nets of the design: their places in its order count where there are not too many.
pub record IsRun (nets : List NetEntry) (kept : NetRun) (wires : List NetEntry) : Type 0 where
  pub width : kept.width ≡ length wires
  pub kinds : All (λ net. kept.kind ≡ net.kind) wires
  pub inputs : All (λ net. kept.is_input ≡ net.is_input) wires
  pub places : length nets < 2 ^ 32 → (k : ℕ) (net : NetEntry) → slice_get wires k ≡ Some net → slice_get nets (kept.place + k) ≡ Some net

abbrev pub IsNode : List NetEntry → NodeRef → Node → Type 0
IsNode nets (Nets kept) (wired wires) = IsRun nets kept wires
IsNode nets (Tied kept) (tied value) = kept ≡ value
IsNode nets kept node = ⊥

module _ (names : List (List ℕ)) (modules : List (ℕ × ModuleEntry)) (flat : List NetEntry) where
  pub record IsSlot (scope : Scope) (slot : Slot) (net : ℕ × nets.Net) : Type 0 where
    pub node : IsNode flat (slot_node slot) (node_of names modules scope net)
    pub own : is_own_slot slot ≡ is_own names modules scope net

  pub record IsScope (kept : PlacedScope) (scope : Scope) : Type 0 where
    pub entry : kept.entry ≡ scope.entry
    pub path : kept.path ≡ scope.path
    pub slots : AllZip (IsSlot scope) kept.slots scope.entry.nets

-- A design: the module at its top, with its name, its scopes, and how many nets come with them.
pub record Elaborated : Type 0 where
  pub top : ℕ × ModuleEntry
  pub scopes : List PlacedScope
  pub net_count : ℕ

-- The design that the modules of a text make.
pub record IsElaboration (text : List ℕ) (list : ModuleList) (design : Elaborated) : Type 0 where
  pub faultless : elaboration_fault text list.modules ≡ None
  pub top : top_of list.modules ≡ Some design.top
  pub scopes : AllZip (IsScope list.names list.modules (nets_of list.names list.modules design.top.1)) design.scopes
      (scopes_of list.names list.modules design.top.1)
  pub net_count : design.net_count ≡ min (length (nets_of list.names list.modules design.top.1)) (2 ^ 32 - 1)
