-- Scopes as they are kept and the scopes of the design side by side: their nets are the same.
use Rattle.std.proofs.Common.{◌≡◌, ℕ, Bool, true, false, ◌&&◌, ◌||◌, not, List, [], ◌∷◌, ◌++◌, map, All, Option, Some, None, is_none, unwrap_or, refl, ap, ◌∙◌}
use Rattle.std.specs.Prelude.{cond, filter, flat_map}
use Rattle.std.specs.List.{AllZip, list_any}
use Rattle.std.specs.Option.{option_map_or}
use Rattle.std.proofs.lemmas.List.Elements.{All-head, All-tail}
use Rattle.fourstate.specs.declared.net.NetKind.{NetKind}
use Rattle.design.specs.Netlist as netlists
use Rattle.vtext.specs.declared.net.Net as nets
use Rattle.vtext.specs.declared.range.Range.{Range}
use Rattle.vtext.specs.Bits.{bit_bytes}
use Rattle.vtext.specs.Modules.{ModuleEntry}
use Rattle.vtext.specs.Names.{name_at}
use Rattle.vtext.specs.Nets.{net_kind}
use Rattle.vtext.specs.Ranges.{indexes}
use Rattle.elaboration.specs.declared.node.NetRun.{NetRun}
use Rattle.elaboration.specs.declared.node.NodeRef.{NodeRef}
use Rattle.elaboration.specs.declared.node.NodeRef.TheVariants.{Nets, Tied}
use Rattle.elaboration.specs.declared.node.Slot.{Slot}
use Rattle.elaboration.specs.kept.Elaborations.{IsNode, IsScope, IsSlot}
use Rattle.elaboration.specs.kept.Numbered.{PlacedScope, slot_node}
use Rattle.elaboration.specs.Scopes.{Node, Scope, flat_names, is_own, node_of, own_bits, own_net, own_nets, wired}
use Rattle.vread.specs.LateFaults as late
use Rattle.vread.specs.kept.Parts as parts
use Rattle.vread.specs.kept.Parts.{any_slot, kept_nets, slots_nets}
use Rattle.vread.proofs.NodeLemmas.{clashes_same}

-- Two lists place by place.

pub any_zip : {A B : Type 0} (R : A → B → Type 0) (p : A → Bool) (q : B → Bool) → ((x : A) (y : B) → R x y → p x ≡ q y) → (xs : List A) (ys : List B) → AllZip R xs ys → list_any p xs ≡ list_any q ys
any_zip R p q same [] [] zip = refl
any_zip R p q same [] (y ∷ ys) zip = absurd zip
any_zip R p q same (x ∷ xs) [] zip = absurd zip
any_zip R p q same (x ∷ xs) (y ∷ ys) zip = ap (λ (b : Bool). b || list_any p xs) (same x y zip.0) ∙ ap (λ (b : Bool). q y || b) (any_zip R p q same xs ys zip.1)

pub flat_zip : {A B C : Type 0} (R : A → B → Type 0) (f : A → List C) (g : B → List C) → ((x : A) (y : B) → R x y → f x ≡ g y) → (xs : List A) (ys : List B) → AllZip R xs ys → flat_map f xs ≡ flat_map g ys
flat_zip R f g same [] [] zip = refl
flat_zip R f g same [] (y ∷ ys) zip = absurd zip
flat_zip R f g same (x ∷ xs) [] zip = absurd zip
flat_zip R f g same (x ∷ xs) (y ∷ ys) zip = ap (λ l. l ++ flat_map f xs) (same x y zip.0) ∙ ap (λ l. g y ++ l) (flat_zip R f g same xs ys zip.1)

-- what holds of each item on the right, beside what holds of pairs
pub zip_both : {A B : Type 0} (R : A → B → Type 0) (P : B → Type 0) (xs : List A) (ys : List B) → AllZip R xs ys → All P ys → AllZip (λ x y. R x y × P y) xs ys
zip_both R P [] [] zip all = tt
zip_both R P [] (y ∷ ys) zip all = absurd zip
zip_both R P (x ∷ xs) [] zip all = absurd zip
zip_both R P (x ∷ xs) (y ∷ ys) zip all = ((zip.0, All-head P y ys all), zip_both R P xs ys zip.1 (All-tail P y ys all))

-- Below, `names` is the table of names, `modules` are those of the text, and `flat` are the nets of the design.
module _ (names : List (List ℕ)) (modules : List (ℕ × ModuleEntry)) (flat : List netlists.NetEntry) where
  -- whether one of the nets of a scope passes; of each of them something holds
  any_slots : (scope : Scope) (P : ℕ × nets.Net → Type 0) (p : Slot → ℕ × nets.Net → Bool) (q : ℕ × nets.Net → Bool)
      → ((slot : Slot) (net : ℕ × nets.Net) → IsSlot names modules flat scope slot net → P net → p slot net ≡ q net)
      → (slots : List Slot) (listed : List (ℕ × nets.Net)) → AllZip (IsSlot names modules flat scope) slots listed → All P listed → any_slot p slots listed ≡ list_any q listed
  any_slots scope P p q same [] [] zip all = refl
  any_slots scope P p q same [] (net ∷ listed) zip all = absurd zip
  any_slots scope P p q same (slot ∷ slots) [] zip all = absurd zip
  any_slots scope P p q same (slot ∷ slots) (net ∷ listed) zip all =
      ap (λ (b : Bool). b || any_slot p slots listed) (same slot net zip.0 (All-head P net listed all))
      ∙ ap (λ (b : Bool). q net || b) (any_slots scope P p q same slots listed zip.1 (All-tail P net listed all))

  -- the same of a scope whose module is known
  pub any_of_scope : (kept : PlacedScope) (scope : Scope) → IsScope names modules flat kept scope → (P : ℕ × nets.Net → Type 0) → All P scope.entry.nets → (p : Slot → ℕ × nets.Net → Bool) (q : ℕ × nets.Net → Bool)
      → ((slot : Slot) (net : ℕ × nets.Net) → IsSlot names modules flat scope slot net → P net → p slot net ≡ q net) → any_slot p kept.slots kept.entry.nets ≡ list_any q scope.entry.nets
  any_of_scope kept scope is P all p q same =
      ap (λ (m : ModuleEntry). any_slot p kept.slots m.nets) is.entry ∙ any_slots scope P p q same kept.slots scope.entry.nets is.slots all

  misjoined_same : (scope : Scope) (slot : Slot) (net : ℕ × nets.Net) → IsSlot names modules flat scope slot net → parts.is_misjoined slot net ≡ late.is_misjoined names modules scope net
  misjoined_same scope slot net is =
      ap (λ (b : Bool). not b && parts.clashes (net_kind net.1) (slot_node slot)) is.own
      ∙ ap (λ (b : Bool). not (is_own names modules scope net) && b) (clashes_same flat (net_kind net.1) (slot_node slot) (node_of names modules scope net) is.node)

  pub any_misjoined_same : (kept : PlacedScope) (scope : Scope) → IsScope names modules flat kept scope
      → any_slot parts.is_misjoined kept.slots kept.entry.nets ≡ list_any (late.is_misjoined names modules scope) scope.entry.nets
  any_misjoined_same kept scope is =
      any_of_scope kept scope is (λ net. Unit {0}) (λ k d within. tt) parts.is_misjoined (late.is_misjoined names modules scope) (λ slot net slot_is said. misjoined_same scope slot net slot_is)

  -- The nets that come with a scope.

  -- nets of these names, of a run that is of their kind
  run_brings : (path : List ℕ) (run : NetRun) (scope : Scope) (net : nets.Net) → path ≡ scope.path → (given : List (List ℕ))
      → All (λ made. run.kind ≡ made.kind) (map (own_net names modules scope net) given) → All (λ made. run.is_input ≡ made.is_input) (map (own_net names modules scope net) given)
      → map (parts.run_net names path run) given ≡ map (own_net names modules scope net) given
  run_brings path run scope net is_path [] kinds inputs = refl
  run_brings path run scope net is_path (name ∷ given) kinds inputs =
      let first = own_net names modules scope net name in
      let more = map (own_net names modules scope net) given in
      ap (λ (made : netlists.NetEntry). made ∷ map (parts.run_net names path run) given)
      (ap (λ (p : List ℕ). netlists.new_net (p ++ name) run.kind run.is_input) is_path
      ∙ ap (λ (k : NetKind). netlists.new_net (scope.path ++ name) k run.is_input) (All-head (λ (made : netlists.NetEntry). run.kind ≡ made.kind) first more kinds)
      ∙ ap (λ (b : Bool). netlists.new_net (scope.path ++ name) (net_kind net) b) (All-head (λ (made : netlists.NetEntry). run.is_input ≡ made.is_input) first more inputs))
      ∙ ap (λ (l : List netlists.NetEntry). first ∷ l)
      (run_brings path run scope net is_path given (All-tail (λ (made : netlists.NetEntry). run.kind ≡ made.kind) first more kinds)
      (All-tail (λ (made : netlists.NetEntry). run.is_input ≡ made.is_input) first more inputs))

  bits_mapped : (path : List ℕ) (run : NetRun) (base : List ℕ) (places : List ℕ) → map (λ i. parts.run_net names path run (bit_bytes base i)) places ≡ map (parts.run_net names path run) (map (bit_bytes base) places)
  bits_mapped path run base [] = refl
  bits_mapped path run base (i ∷ places) = ap (λ (l : List netlists.NetEntry). parts.run_net names path run (bit_bytes base i) ∷ l) (bits_mapped path run base places)

  -- the nets of a run have the names of a net's bits
  run_named : (path : List ℕ) (run : NetRun) (n : ℕ) (range : Option Range)
      → parts.run_nets names path run n range
      ≡ map (parts.run_net names path run) (option_map_or (λ r. map (bit_bytes (name_at names n)) (indexes r)) range (name_at names n ∷ []))
  run_named path run n None = refl
  run_named path run n (Some range) = bits_mapped path run (name_at names n) (indexes range)

  -- what a slot brings is what its net brings
  brought : (kept : PlacedScope) (scope : Scope) (net : ℕ × nets.Net) (given : Option Node) (node : NodeRef) → kept.path ≡ scope.path
      → IsNode flat node (unwrap_or given (wired (own_bits names modules scope net)))
      → cond (is_none given) (parts.node_nets names kept.path node net) [] ≡ cond (is_none given) (own_bits names modules scope net) []
  brought kept scope net (Some n) node path is = refl
  brought kept scope net None (Nets run) path is =
      run_named kept.path run net.0 net.1.range ∙ run_brings kept.path run scope net.1 path (flat_names names net) is.kinds is.inputs
  brought kept scope net None (Tied value) path is = absurd is

  kept_first : (b : Bool) (net : ℕ × nets.Net) (f : ℕ × nets.Net → List netlists.NetEntry) (rest : List (ℕ × nets.Net)) → cond b (f net) [] ++ flat_map f rest ≡ flat_map f (cond b (net ∷ rest) rest)
  kept_first true net f rest = refl
  kept_first false net f rest = refl

  slots_bring : (kept : PlacedScope) (scope : Scope) → kept.path ≡ scope.path → (slots : List Slot) (listed : List (ℕ × nets.Net)) → AllZip (IsSlot names modules flat scope) slots listed
      → slots_nets names kept.path slots listed ≡ flat_map (own_bits names modules scope) (filter (is_own names modules scope) listed)
  slots_bring kept scope path [] [] zip = refl
  slots_bring kept scope path [] (net ∷ listed) zip = absurd zip
  slots_bring kept scope path (slot ∷ slots) [] zip = absurd zip
  slots_bring kept scope path (slot ∷ slots) (net ∷ listed) zip =
      let more = flat_map (own_bits names modules scope) (filter (is_own names modules scope) listed) in
      ap (λ (l : List netlists.NetEntry). parts.slot_nets names kept.path slot net ++ l) (slots_bring kept scope path slots listed zip.1)
      ∙ ap (λ (b : Bool). cond b (parts.node_nets names kept.path (slot_node slot) net) [] ++ more) zip.0.own
      ∙ ap (λ (l : List netlists.NetEntry). l ++ more) (brought kept scope net (scope.given net.0) (slot_node slot) path zip.0.node)
      ∙ kept_first (is_own names modules scope net) net (own_bits names modules scope) (filter (is_own names modules scope) listed)

  pub scope_nets_same : (kept : PlacedScope) (scope : Scope) → IsScope names modules flat kept scope → kept_nets names kept ≡ own_nets names modules scope
  scope_nets_same kept scope is =
      ap (λ (m : ModuleEntry). slots_nets names kept.path kept.slots m.nets) is.entry ∙ slots_bring kept scope is.path kept.slots scope.entry.nets is.slots
