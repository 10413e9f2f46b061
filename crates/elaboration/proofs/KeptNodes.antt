-- What is kept of a terminal in a scope is what it is in the design.
use Rattle.std.proofs.Common.{◌≡◌, ℕ, zero, suc, ◌+◌, ◌^◌, ◌<◌, min, Bool, true, false, cond, nat_eq, List, [], ◌∷◌, get_or, length, Option, Some, None, refl, sym, ap, subst, ◌∙◌, arith, nat_lt}
use Rattle.std.specs.List.{AllZip, slice_get}
use Rattle.std.proofs.lemmas.List.Elements.{All-cons, All-nil}
use Rattle.std.specs.Option.{option_map_or, option_to_list}
use Rattle.std.proofs.lemmas.Bool.Decides.{nat_tests}
use Rattle.std.proofs.lemmas.Option.{get_or_from_slice_get, slice_get_within}
use Rattle.fourstate.specs.declared.value.Value.TheVariants.{Unknown}
use Rattle.design.specs.Netlist.{NetEntry}
use Rattle.vtext.specs.declared.gate.Terminal.{Terminal}
use Rattle.vtext.specs.declared.gate.Terminal.TheVariants as terminals
use Rattle.vtext.specs.declared.net.Net as nets
use Rattle.vtext.specs.Modules.{ModuleEntry}
use Rattle.vtext.specs.Nets.{net_of}
use Rattle.vtext.specs.Ranges.{place_of_bit}
use Rattle.vtext.specs.declared.range.Range.{Range}
use Rattle.elaboration.specs.declared.node.NodeRef.{NodeRef}
use Rattle.elaboration.specs.declared.node.NodeRef.TheVariants.{Nets, Tied}
use Rattle.elaboration.specs.declared.node.Slot.{Slot}
use Rattle.elaboration.specs.kept.Elaborations.{IsNode, IsRun, IsScope, IsSlot}
use Rattle.elaboration.specs.kept.Numbered.{PlacedScope, bit_ref, run_bit, ref_at, slot_for, slot_node}
use Rattle.elaboration.specs.Ports.{range_of}
use Rattle.elaboration.specs.Scopes.{Node, Scope, bit_node, node_at, node_for, node_of, tied, wired}
use Rattle.elaboration.proofs.KeptSlots.{most}

past_end : (xs : List NetEntry) (k : ℕ) → slice_get xs k ≡ None → nat_lt k (length xs) ≡ false
past_end [] k e = grind (arith, nat_tests)
past_end (x ∷ xs) zero e = absurd cc
past_end (x ∷ xs) (suc k) e = let rest : nat_lt k (length xs) ≡ false = past_end xs k e in grind (arith, nat_tests)

module _ (names : List (List ℕ)) (modules : List (ℕ × ModuleEntry)) (flat : List NetEntry) where
  found_case : (scope : Scope) (b : Bool) (n : ℕ) (slot : Slot) (net : ℕ × nets.Net) (slot_rest : Option Slot) (net_rest : Option nets.Net) → nat_eq n net.0 ≡ b → IsSlot names modules flat scope slot net
      → IsNode flat (option_map_or slot_node slot_rest (Tied Unknown)) (option_map_or (λ o. node_of names modules scope (n, o)) net_rest (tied Unknown))
      → IsNode flat (option_map_or slot_node (cond b (Some slot) slot_rest) (Tied Unknown)) (option_map_or (λ o. node_of names modules scope (n, o)) (cond b (Some net.1) net_rest) (tied Unknown))
  found_case scope true n slot net slot_rest net_rest e is others =
      let here : net.0 ≡ n = grind (arith, nat_tests) in
      subst (λ (k : ℕ). IsNode flat (slot_node slot) (node_of names modules scope (k, net.1))) here is.node
  found_case scope false n slot net slot_rest net_rest e is others = others

  found_ok : (scope : Scope) (n : ℕ) (slots : List Slot) (listed : List (ℕ × nets.Net)) → AllZip (IsSlot names modules flat scope) slots listed
      → IsNode flat (option_map_or slot_node (slot_for n listed slots) (Tied Unknown)) (option_map_or (λ o. node_of names modules scope (n, o)) (net_of listed n) (tied Unknown))
  found_ok scope n [] [] zip = refl
  found_ok scope n [] (net ∷ listed) zip = absurd zip
  found_ok scope n (slot ∷ slots) [] zip = absurd zip
  found_ok scope n (slot ∷ slots) (net ∷ listed) zip =
      found_case scope (nat_eq n net.0) n slot net (slot_for n listed slots) (net_of listed n) refl zip.0 (found_ok scope n slots listed zip.1)

  -- the bit of what is kept of a node is that of the node
  bit_ok : (range : Option Range) (i : ℕ) (kept : NodeRef) (node : Node) → IsNode flat kept node → IsNode flat (bit_ref range i kept) (bit_node range i node)
  bit_ok None i kept node is = is
  bit_ok (Some range) i (Tied value) (tied other) is = is
  bit_ok (Some range) i (Tied value) (wired wires) is = absurd is
  bit_ok (Some range) i (Nets run) (tied other) is = absurd is
  bit_ok (Some range) i (Nets run) (wired wires) is = step (slice_get wires (place_of_bit range i)) refl
    where
      step : (found : Option NetEntry) → slice_get wires (place_of_bit range i) ≡ found
          → IsRun flat (run_bit (place_of_bit range i) run) (option_to_list found)
      step None e =
          let past : nat_lt (place_of_bit range i) run.width ≡ false = ap (nat_lt (place_of_bit range i)) is.width ∙ past_end wires (place_of_bit range i) e in
          record {
            width = ap (λ (b : Bool). cond b 1 0) past;
            kinds = All-nil (λ (net : NetEntry). run.kind ≡ net.kind);
            inputs = All-nil (λ (net : NetEntry). run.is_input ≡ net.is_input);
            places = λ few k net there. absurd cc;
          }
      step (Some wire) e =
          let within : place_of_bit range i < length wires = slice_get_within wires (place_of_bit range i) wire e in
          let here : nat_lt (place_of_bit range i) run.width ≡ true = let size = is.width in grind (arith, nat_tests) in
          let same : get_or wires (place_of_bit range i) wire ≡ wire = get_or_from_slice_get wires (place_of_bit range i) wire wire e in
          record {
            width = ap (λ (b : Bool). cond b 1 0) here;
            kinds = All-cons (λ (net : NetEntry). run.kind ≡ net.kind) wire []
                (is.kinds (place_of_bit range i) wire within ∙ ap (λ (net : NetEntry). net.kind) same) (All-nil (λ (net : NetEntry). run.kind ≡ net.kind));
            inputs = All-cons (λ (net : NetEntry). run.is_input ≡ net.is_input) wire []
                (is.inputs (place_of_bit range i) wire within ∙ ap (λ (net : NetEntry). net.is_input) same) (All-nil (λ (net : NetEntry). run.is_input ≡ net.is_input));
            places = λ few k net there. alone few wire k net e there;
          }
        where
          alone : length flat < 2 ^ 32 → (wire : NetEntry) (k : ℕ) (net : NetEntry) → slice_get wires (place_of_bit range i) ≡ Some wire → slice_get (wire ∷ []) k ≡ Some net
              → slice_get flat (min (run.place + place_of_bit range i) most + k) ≡ Some net
          alone few wire zero net e there =
              let found : slice_get flat (run.place + place_of_bit range i) ≡ Some wire = is.places few (place_of_bit range i) wire e in
              let within : run.place + place_of_bit range i < length flat = slice_get_within flat (run.place + place_of_bit range i) wire found in
              let on : min (run.place + place_of_bit range i) most + 0 ≡ run.place + place_of_bit range i = omega (arith, within, few) in
              ap (slice_get flat) on ∙ found ∙ there
          alone few wire (suc k) net e there = absurd cc

  pub ref_ok : (kept : PlacedScope) (scope : Scope) → IsScope names modules flat kept scope → (terminal : Terminal) → IsNode flat (ref_at kept terminal) (node_at names modules scope terminal)
  ref_ok kept scope is (terminals.Constant value) = refl
  ref_ok kept scope is (terminals.Net n) =
      subst (λ (m : ModuleEntry). IsNode flat (option_map_or slot_node (slot_for n m.nets kept.slots) (Tied Unknown)) (node_at names modules scope (terminals.Net n))) (sym is.entry)
      (found_ok scope n kept.slots scope.entry.nets is.slots)
  ref_ok kept scope is (terminals.Bit n i) =
      subst (λ (m : ModuleEntry). IsNode flat (bit_ref (range_of m.nets n) i (option_map_or slot_node (slot_for n m.nets kept.slots) (Tied Unknown))) (node_at names modules scope (terminals.Bit n i))) (sym is.entry)
      (bit_ok (range_of scope.entry.nets n) i (option_map_or slot_node (slot_for n scope.entry.nets kept.slots) (Tied Unknown)) (node_for names modules scope n)
      (found_ok scope n kept.slots scope.entry.nets is.slots))
