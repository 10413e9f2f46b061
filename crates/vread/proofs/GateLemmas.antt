-- Scopes as they are kept and the scopes of the design side by side: what is wrong with them is the same, and so are their gates.
use Rattle.std.proofs.Common.{◌≡◌, ℕ, ◌<◌, ◌^◌, Bool, ◌&&◌, ◌||◌, List, [], ◌∷◌, ◌++◌, length, map, All, refl, ap, ◌∙◌}
use Rattle.std.specs.List.{list_any}
use Rattle.std.proofs.lemmas.List.Elements.{All-head, All-tail}
use Rattle.design.specs.Netlist as netlists
use Rattle.vtext.specs.declared.gate.Terminal.{Terminal}
use Rattle.vtext.specs.declared.net.Net as nets
use Rattle.vtext.specs.GateNames.{gate_bytes}
use Rattle.vtext.specs.Modules.{GateEntry, ModuleEntry}
use Rattle.vtext.specs.kept.Sound.{IsSoundNet}
use Rattle.elaboration.specs.declared.node.Slot.{Slot}
use Rattle.elaboration.specs.kept.Elaborations.{IsNode, IsScope, IsSlot}
use Rattle.elaboration.specs.kept.Numbered.{PlacedScope, ref_at}
use Rattle.elaboration.specs.Scopes.{Scope, is_own, node_at, own_gate, own_gates}
use Rattle.elaboration.specs.Scopes as scopes
use Rattle.elaboration.specs.kept.SoundScopes.{IsSingleGate, IsSingleNode, IsSoundScope}
use Rattle.vread.specs.LateFaults as late
use Rattle.vread.specs.kept.Parts as parts
use Rattle.vread.specs.kept.Parts.{kept_gate, kept_gates}
use Rattle.vread.proofs.LengthLemmas.{longest_long}
use Rattle.vread.proofs.NodeLemmas.{connection_same, input_same, output_same, tied_same}
use Rattle.vread.proofs.ZipLemmas.{any_misjoined_same, any_of_scope}

pub any_same : {X : Type 0} (p q : X → Bool) → ((x : X) → p x ≡ q x) → (xs : List X) → list_any p xs ≡ list_any q xs
any_same p q same [] = refl
any_same p q same (x ∷ xs) = ap (λ (b : Bool). b || list_any p xs) (same x) ∙ ap (λ (b : Bool). q x || b) (any_same p q same xs)

-- of each item something holds
map_same : {X Y : Type 0} (P : X → Type 0) (f g : X → Y) → ((x : X) → P x → f x ≡ g x) → (xs : List X) → All P xs → map f xs ≡ map g xs
map_same P f g same [] all = refl
map_same P f g same (x ∷ xs) all = ap (λ y. y ∷ map f xs) (same x (All-head P x xs all)) ∙ ap (λ ys. g x ∷ ys) (map_same P f g same xs (All-tail P x xs all))

-- `refs` says what terminals are.
module _ (names : List (List ℕ)) (modules : List (ℕ × ModuleEntry)) (flat : List netlists.NetEntry)
    (refs : (kept : PlacedScope) (scope : Scope) → IsScope names modules flat kept scope → (terminal : Terminal) → IsNode flat (ref_at kept terminal) (node_at names modules scope terminal)) where
  -- What is wrong.

  any_gates : (kept : PlacedScope) (scope : Scope) → IsScope names modules flat kept scope → (p q : GateEntry → Bool) → ((gate : GateEntry) → p gate ≡ q gate) → list_any p kept.entry.gates ≡ list_any q scope.entry.gates
  any_gates kept scope is p q same = ap (λ (m : ModuleEntry). list_any p m.gates) is.entry ∙ any_same p q same scope.entry.gates

  pub port_wrong_same : (kept : PlacedScope) (scope : Scope) → IsScope names modules flat kept scope → parts.is_port_wrong kept ≡ late.is_port_wrong names modules scope
  port_wrong_same kept scope is =
      ap (λ (b : Bool). b || list_any (parts.drives_constant kept) kept.entry.gates) (any_misjoined_same names modules flat kept scope is)
      ∙ ap (λ (b : Bool). list_any (late.is_misjoined names modules scope) scope.entry.nets || b)
      (any_gates kept scope is (parts.drives_constant kept) (late.drives_constant names modules scope)
      (λ gate. tied_same flat (ref_at kept gate.output) (node_at names modules scope gate.output) (refs kept scope is gate.output)))

  pub input_driven_same : (kept : PlacedScope) (scope : Scope) → IsScope names modules flat kept scope → parts.is_input_driven kept ≡ late.is_input_driven names modules scope
  input_driven_same kept scope is =
      any_gates kept scope is (parts.drives_input kept) (late.drives_input names modules scope)
      (λ gate. input_same flat (ref_at kept gate.output) (node_at names modules scope gate.output) (refs kept scope is gate.output))

  -- a path is as long as that of a scope, as far as names over their limit go
  abbrev pub IsAsLong : ℕ → Scope → Type 0
  IsAsLong path scope = (n : ℕ) → parts.is_long path n ≡ parts.is_long (length scope.path) n

  -- a net's longest name is too long exactly where one of its names is
  long_net_same : (path : ℕ) (scope : Scope) → IsAsLong path scope → (slot : Slot) (net : ℕ × nets.Net) → IsSlot names modules flat scope slot net → IsSoundNet names net
      → parts.is_long_net names path slot net ≡ late.is_long_net names modules scope net
  long_net_same path scope as_long slot net is sound =
      ap (λ (b : Bool). b && parts.is_long path (parts.longest names net)) is.own
      ∙ ap (λ (b : Bool). is_own names modules scope net && b) (as_long (parts.longest names net) ∙ longest_long names scope.path net sound.bounds)

  pub long_after_same : (path : ℕ) (kept : PlacedScope) (scope : Scope) → IsAsLong path scope → IsScope names modules flat kept scope → IsSoundScope names scope
      → parts.is_long_after names path kept ≡ late.is_long_named names modules scope
  long_after_same path kept scope as_long is sound =
      ap (λ (b : Bool). b || list_any (parts.is_long_gate names path) kept.entry.gates)
      (any_of_scope names modules flat kept scope is (IsSoundNet names) sound.sound.nets (parts.is_long_net names path) (late.is_long_net names modules scope) (long_net_same path scope as_long))
      ∙ ap (λ (b : Bool). list_any (late.is_long_net names modules scope) scope.entry.nets || b)
      (any_gates kept scope is (parts.is_long_gate names path) (late.is_long_gate names modules scope) (λ gate. as_long (length (gate_bytes names gate))))

  pub long_named_same : (kept : PlacedScope) (scope : Scope) → IsScope names modules flat kept scope → IsSoundScope names scope → parts.is_long_named names kept ≡ late.is_long_named names modules scope
  long_named_same kept scope is sound = long_after_same (length kept.path) kept scope (λ n. ap (λ (p : List ℕ). parts.is_long (length p) n) is.path) is sound

  -- Gates, where there are not too many nets.
  module _ (few : length flat < 2 ^ 32) where
    pub gate_same : (kept : PlacedScope) (scope : Scope) → IsScope names modules flat kept scope → (gate : GateEntry) → IsSingleGate names modules scope gate → kept_gate names flat kept gate ≡ own_gate names modules scope gate
    gate_same kept scope is gate single =
        ap (λ (p : List ℕ). record (kept_gate names flat kept gate) { name = p ++ gate_bytes names gate }) is.path
        ∙ ap (λ (n : List ℕ). record (kept_gate names flat kept gate) { name = scope.path ++ gate_bytes names gate; output = n })
        (output_same flat few names modules (ref_at kept gate.output) (node_at names modules scope gate.output) (refs kept scope is gate.output) single.output)
        ∙ ap (λ cs. record (own_gate names modules scope gate) { inputs = cs })
        (map_same (λ input. IsSingleNode (node_at names modules scope input)) (λ input. parts.connection_of flat (ref_at kept input)) (λ input. scopes.connection_of names modules (node_at names modules scope input))
        (λ input one. connection_same flat few names modules (ref_at kept input) (node_at names modules scope input) (refs kept scope is input) one) gate.inputs single.inputs)

    pub scope_gates_same : (kept : PlacedScope) (scope : Scope) → IsScope names modules flat kept scope → All (IsSingleGate names modules scope) scope.entry.gates → kept_gates names flat kept ≡ own_gates names modules scope
    scope_gates_same kept scope is single =
        ap (λ (m : ModuleEntry). map (kept_gate names flat kept) m.gates) is.entry
        ∙ map_same (IsSingleGate names modules scope) (kept_gate names flat kept) (own_gate names modules scope) (gate_same kept scope is) scope.entry.gates single
