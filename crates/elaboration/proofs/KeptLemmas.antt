-- Scopes as they are kept are those of the design.
use Rattle.std.proofs.Common.{◌≡◌, ◌≢◌, ℕ, zero, suc, ◌+◌, ◌<◌, ◌≤◌, min, Bool, true, cond, nat_eq, List, [], ◌∷◌, ◌++◌, length, map, replicate, Option, Some, None, All, refl, sym, ap, subst, ◌∙◌, arith, append_assoc, length-append}
use Rattle.std.specs.Prelude.{codes, option_and_then, option_map, position, flat_map, fold}
use Rattle.std.specs.List.{AllZip, slice_get}
use Rattle.std.specs.Map.{lookup}
use Rattle.std.specs.Option.{option_map_or}
use Rattle.std.proofs.lemmas.Bool.Decides.{nat_tests}
use Rattle.std.proofs.lemmas.Option.{get_or_from_slice_get, slice_get_within}
use Rattle.design.specs.Netlist.{NetEntry}
use Rattle.vtext.specs.declared.gate.Terminal.{Terminal}
use Rattle.vtext.specs.declared.module_instance.PortConnection.{PortConnection}
use Rattle.vtext.specs.declared.net.Net as nets
use Rattle.vtext.specs.Modules.{InstanceEntry, ModuleEntry}
use Rattle.vtext.specs.Names.{name_at}
use Rattle.elaboration.specs.declared.node.Slot.{Slot}
use Rattle.elaboration.specs.declared.limits.TheConstants.{MAX_DEPTH}
use Rattle.elaboration.specs.kept.Elaborations.{IsScope, IsSlot}
use Rattle.elaboration.specs.kept.Numbered.{AreDistinct, PlacedScope, SoFar, Start, inner_start, joints_from, kept_scopes, none, place_after, placed, ref_at, slots_from, top_start, with_below, with_instance, with_scope}
use Rattle.elaboration.specs.Ports.{joined_from, joined_to}
use Rattle.elaboration.specs.Scopes.{Scope, inner, nets_of, node_at, own_nets, scopes_below, scopes_of, top_scope}
use Rattle.elaboration.proofs.PairLemmas.{differ, flat_append, found_holds, pairs_head, pairs_tail, position_first}
use Rattle.elaboration.proofs.KeptNodes.{ref_ok}
use Rattle.elaboration.proofs.KeptSlots.{At, count_two, IsGiven, IsStart, most, slots_ok}

-- Numbers and lists.

same_number : (a : ℕ) → nat_eq a a ≡ true
same_number a = grind (arith, nat_tests)

zip_append : {A B : Type 0} (R : A → B → Type 0) (xs : List A) (ys : List B) (vs : List A) (ws : List B) → AllZip R xs ys → AllZip R vs ws → AllZip R (xs ++ vs) (ys ++ ws)
zip_append R [] [] vs ws first second = second
zip_append R [] (y ∷ ys) vs ws first second = absurd first
zip_append R (x ∷ xs) [] vs ws first second = absurd first
zip_append R (x ∷ xs) (y ∷ ys) vs ws first second = (first.0, zip_append R xs ys vs ws first.1 second)

append_nil : {X : Type 0} (xs : List X) → xs ++ [] ≡ xs
append_nil [] = refl
append_nil (x ∷ xs) = ap (λ ys. x ∷ ys) (append_nil xs)

count_on : (place more all top : ℕ) → all ≡ suc more → min (min (place + 1) top + more) top ≡ min (place + all) top
count_on place more all top e = omega arith

-- the place of an item whose number no other has
place_of_item : (listed : List (ℕ × nets.Net)) (k : ℕ) (net : ℕ × nets.Net) → AreDistinct listed → slice_get listed k ≡ Some net → position (λ o. nat_eq net.0 o.0) listed ≡ Some k
place_of_item [] k net distinct e = absurd (cc)
place_of_item (x ∷ xs) zero net distinct e =
    let same : x ≡ net = cc in
    position_first (λ (o : ℕ × nets.Net). nat_eq net.0 o.0) x xs
    ∙ ap (λ (b : Bool). cond b (Some 0) (option_map suc (position (λ (o : ℕ × nets.Net). nat_eq net.0 o.0) xs)))
    (ap (λ (o : ℕ × nets.Net). nat_eq net.0 o.0) same ∙ same_number net.0)
place_of_item (x ∷ xs) (suc k) net distinct e =
    let within : k < length xs = slice_get_within xs k net e in
    let apart : net.0 ≢ x.0 = λ same. pairs_head (λ (a b : ℕ × nets.Net). a.0 ≢ b.0) x xs distinct k net within
    (sym same ∙ ap (λ (o : ℕ × nets.Net). o.0) (sym (get_or_from_slice_get xs k net net e))) in
    position_first (λ (o : ℕ × nets.Net). nat_eq net.0 o.0) x xs
    ∙ ap (λ (b : Bool). cond b (Some 0) (option_map suc (position (λ (o : ℕ × nets.Net). nat_eq net.0 o.0) xs))) (differ net.0 x.0 apart)
    ∙ ap (option_map suc) (place_of_item xs k net (pairs_tail (λ (a b : ℕ × nets.Net). a.0 ≢ b.0) x xs distinct) e)

module _ (names : List (List ℕ)) (modules : List (ℕ × ModuleEntry)) (flat : List NetEntry) where
  -- the scopes that come after others
  record Made (before after : SoFar) (scopes : List Scope) (rest : List NetEntry) : Type 0 where
    news : List PlacedScope
    list : after.list ≡ before.list ++ news
    each : AllZip (IsScope names modules flat) news scopes
    next : At names modules flat after.count rest
    count : after.count ≡ min (before.count + length (flat_map (own_nets names modules) scopes)) most

  pub scope_ok : (so_far : SoFar) (start : Start) (scope : Scope) (rest : List NetEntry) → so_far.count ≤ most → IsStart names modules flat start scope → At names modules flat so_far.count (own_nets names modules scope ++ rest)
      → IsScope names modules flat (placed so_far.count start) scope × At names modules flat (with_scope so_far start).count rest × ((with_scope so_far start).count ≡ min (so_far.count + length (own_nets names modules scope)) most)
  scope_ok so_far start scope rest small is at =
      let zip : AllZip (λ g net. IsGiven names modules flat g (scope.given net.0)) start.given scope.entry.nets = is.given in
      let made = slots_ok names modules flat scope so_far.count scope.entry.nets start.given rest small zip at in
      let counted : place_after so_far.count start.entry.nets start.given ≡ place_after so_far.count scope.entry.nets start.given =
      ap (λ (m : ModuleEntry). place_after so_far.count m.nets start.given) is.entry in
      let same : slots_from start.top so_far.count start.entry.nets start.given ≡ slots_from scope.top so_far.count scope.entry.nets start.given =
      ap (λ (t : Bool). slots_from t so_far.count start.entry.nets start.given) is.top ∙ ap (λ (m : ModuleEntry). slots_from scope.top so_far.count m.nets start.given) is.entry in (
        record { entry = is.entry; path = is.path; slots = subst (λ (ss : List Slot). AllZip (IsSlot names modules flat scope) ss scope.entry.nets) (sym same) made.slots },
        subst (λ (n : ℕ). At names modules flat n rest) (sym counted) made.next,
        counted ∙ made.count,
      )

  -- Instances.

  given_of : (kept : PlacedScope) (scope : Scope) → IsScope names modules flat kept scope → (terminal : Option Terminal) → IsGiven names modules flat (option_map (ref_at kept) terminal) (option_map (node_at names modules scope) terminal)
  given_of kept scope is None = tt
  given_of kept scope is (Some terminal) = ref_ok names modules flat kept scope is terminal

  given_from : (kept : PlacedScope) (scope : Scope) → IsScope names modules flat kept scope → (m : ModuleEntry) → AreDistinct m.nets → (connections : List PortConnection) (k : ℕ) (listed : List (ℕ × nets.Net))
      → ((j : ℕ) (net : ℕ × nets.Net) → slice_get listed j ≡ Some net → slice_get m.nets (k + j) ≡ Some net)
      → AllZip (λ g net. IsGiven names modules flat g (option_map (node_at names modules scope) (joined_to m connections net.0))) (map (option_map (ref_at kept)) (joints_from connections 0 k listed)) listed
  given_from kept scope is m distinct connections k [] part = tt
  given_from kept scope is m distinct connections k (net ∷ listed) part =
      let zero_on : k + 0 ≡ k = omega arith in
      let there : slice_get m.nets k ≡ Some net = ap (slice_get m.nets) (sym zero_on) ∙ part 0 net refl in
      let joined : joined_from connections 0 k net.0 ≡ joined_to m connections net.0 =
      ap (λ (o : Option ℕ). option_and_then (λ place. joined_from connections 0 place net.0) o) (sym (place_of_item m.nets k net distinct there)) in (
        subst (λ (t : Option Terminal). IsGiven names modules flat (option_map (ref_at kept) (joined_from connections 0 k net.0)) (option_map (node_at names modules scope) t)) joined
            (given_of kept scope is (joined_from connections 0 k net.0)),
        given_from kept scope is m distinct connections (suc k) listed
            (λ j other e. let on : suc k + j ≡ k + suc j = omega arith in ap (slice_get m.nets) on ∙ part (suc j) other e),
      )

  pub start_ok : (kept : PlacedScope) (scope : Scope) → IsScope names modules flat kept scope → (i : InstanceEntry) (m : ModuleEntry) → AreDistinct m.nets → IsStart names modules flat (inner_start names kept i m) (inner names modules scope i m)
  start_ok kept scope is i m distinct = record {
    entry = refl;
    path = ap (λ (p : List ℕ). p ++ name_at names i.name ++ codes ".") is.path;
    top = refl;
    given = given_from kept scope is m distinct i.connections 0 m.nets (λ j net e. let on : 0 + j ≡ j = omega arith in ap (slice_get m.nets) on ∙ e);
  }

  -- All below a scope.

  abbrev flat_nets : List Scope → List NetEntry
  flat_nets scopes = flat_map (own_nets names modules) scopes

  made_none : (so_far : SoFar) (rest : List NetEntry) → so_far.count ≤ most → At names modules flat so_far.count rest → Made so_far so_far [] rest
  made_none so_far rest small at = record { news = []; list = sym (append_nil so_far.list); each = tt; next = at; count = omega arith }

  made_two : (a b c : SoFar) (xs ys : List Scope) (rest : List NetEntry) → Made a b xs (flat_nets ys ++ rest) → Made b c ys rest → Made a c (xs ++ ys) rest
  made_two a b c xs ys rest first second = record {
    news = first.news ++ second.news;
    list = second.list ∙ ap (λ l. l ++ second.news) first.list ∙ append_assoc a.list first.news second.news;
    each = zip_append (IsScope names modules flat) first.news xs second.news ys first.each second.each;
    next = second.next;
    count = second.count ∙ ap (λ n. min (n + length (flat_nets ys)) most) first.count
        ∙ count_two a.count (length (flat_nets xs)) (length (flat_nets ys)) (length (flat_nets (xs ++ ys))) most
        (ap length (flat_append (own_nets names modules) xs ys) ∙ length-append (flat_nets xs) (flat_nets ys));
  }

  abbrev below_instance : ℕ → Scope → InstanceEntry → List Scope
  below_instance levels scope i = option_map_or (λ m. scopes_below names modules levels (inner names modules scope i m)) (lookup (nat_eq i.«module») modules) []

  abbrev below : ℕ → Scope → List Scope
  below zero scope = []
  below (suc levels) scope = flat_map (below_instance levels scope) scope.entry.instances

  all_is : (levels : ℕ) (scope : Scope) → scopes_below names modules levels scope ≡ scope ∷ below levels scope
  all_is zero scope = refl
  all_is (suc levels) scope = refl

  abbrev BelowOk : ℕ → Type 0
  BelowOk levels = (kept : PlacedScope) (scope : Scope) (so_far : SoFar) (rest : List NetEntry) → so_far.count ≤ most → IsScope names modules flat kept scope
      → At names modules flat so_far.count (flat_nets (below levels scope) ++ rest) → Made so_far (with_below names modules levels kept so_far) (below levels scope) rest

  -- at the top no port is connected
  pub none_given : (top : ModuleEntry) (listed : List (ℕ × nets.Net)) → AllZip (λ g net. IsGiven names modules flat g ((top_scope names modules top).given net.0)) (replicate (length listed) None) listed
  none_given top [] = tt
  none_given top (net ∷ listed) = (tt, none_given top listed)

  module _ (all_distinct : All (λ m. AreDistinct m.1.nets) modules) where
    -- a scope and those below it
    scopes_made : (levels : ℕ) → BelowOk levels → (so_far : SoFar) (start : Start) (scope : Scope) (rest : List NetEntry) → so_far.count ≤ most → IsStart names modules flat start scope
        → At names modules flat so_far.count (flat_nets (scopes_below names modules levels scope) ++ rest)
        → Made so_far (with_below names modules levels (placed so_far.count start) (with_scope so_far start)) (scopes_below names modules levels scope) rest
    scopes_made levels others so_far start scope rest small is at =
        let all = all_is levels scope in
        let at_all : At names modules flat so_far.count (own_nets names modules scope ++ (flat_nets (below levels scope) ++ rest)) =
        subst (λ (ns : List NetEntry). At names modules flat so_far.count ns)
        (ap (λ (ss : List Scope). flat_nets ss ++ rest) all ∙ append_assoc (own_nets names modules scope) (flat_nets (below levels scope)) rest) at in
        let first = scope_ok so_far start scope (flat_nets (below levels scope) ++ rest) small is at_all in
        let low : (with_scope so_far start).count ≤ most = omega (arith, first.2) in
        let one : Made so_far (with_scope so_far start) (scope ∷ []) (flat_nets (below levels scope) ++ rest) = record {
          news = placed so_far.count start ∷ [];
          list = refl;
          each = (first.0, tt);
          next = first.1;
          count = first.2 ∙ ap (λ (ns : List NetEntry). min (so_far.count + length ns) most) (sym (append_nil (own_nets names modules scope)));
        } in
        let rest_made = others (placed so_far.count start) scope (with_scope so_far start) rest low first.0 first.1 in
        subst (λ (ss : List Scope). Made so_far (with_below names modules levels (placed so_far.count start) (with_scope so_far start)) ss rest) (sym all)
        (made_two so_far (with_scope so_far start) (with_below names modules levels (placed so_far.count start) (with_scope so_far start)) (scope ∷ []) (below levels scope) rest one rest_made)

    -- one instance, of a module that the text has or has not
    instance_case : (levels : ℕ) → BelowOk levels → (kept : PlacedScope) (scope : Scope) → IsScope names modules flat kept scope → (i : InstanceEntry) (so_far : SoFar) (rest : List NetEntry) (found : Option ModuleEntry)
        → found ≡ lookup (nat_eq i.«module») modules → so_far.count ≤ most
        → At names modules flat so_far.count (flat_nets (option_map_or (λ m. scopes_below names modules levels (inner names modules scope i m)) found []) ++ rest)
        → Made so_far (option_map_or (λ m. with_below names modules levels (placed so_far.count (inner_start names kept i m)) (with_scope so_far (inner_start names kept i m))) found so_far)
        (option_map_or (λ m. scopes_below names modules levels (inner names modules scope i m)) found []) rest
    instance_case levels others kept scope is i so_far rest None e small at = made_none so_far rest small at
    instance_case levels others kept scope is i so_far rest (Some m) e small at =
        scopes_made levels others so_far (inner_start names kept i m) (inner names modules scope i m) rest small
        (start_ok kept scope is i m (found_holds (λ (o : ModuleEntry). AreDistinct o.nets) (nat_eq i.«module») modules m all_distinct e)) at

    instances_ok : (levels : ℕ) → BelowOk levels → (kept : PlacedScope) (scope : Scope) → IsScope names modules flat kept scope → (instances : List InstanceEntry) (so_far : SoFar) (rest : List NetEntry) → so_far.count ≤ most
        → At names modules flat so_far.count (flat_nets (flat_map (below_instance levels scope) instances) ++ rest)
        → Made so_far (fold (with_instance names modules levels kept) so_far instances) (flat_map (below_instance levels scope) instances) rest
    instances_ok levels others kept scope is [] so_far rest small at = made_none so_far rest small at
    instances_ok levels others kept scope is (i ∷ instances) so_far rest small at =
        let mine = below_instance levels scope i in
        let more = flat_map (below_instance levels scope) instances in
        let at_mine : At names modules flat so_far.count (flat_nets mine ++ (flat_nets more ++ rest)) =
        subst (λ (ns : List NetEntry). At names modules flat so_far.count ns)
        (ap (λ (ns : List NetEntry). ns ++ rest) (flat_append (own_nets names modules) mine more) ∙ append_assoc (flat_nets mine) (flat_nets more) rest) at in
        let first = instance_case levels others kept scope is i so_far (flat_nets more ++ rest) (lookup (nat_eq i.«module») modules) refl small at_mine in
        let low : (with_instance names modules levels kept so_far i).count ≤ most = omega (arith, first.count) in
        made_two so_far (with_instance names modules levels kept so_far i) (fold (with_instance names modules levels kept) (with_instance names modules levels kept so_far i) instances) mine more rest first
        (instances_ok levels others kept scope is instances (with_instance names modules levels kept so_far i) rest low first.next)

    below_ok : (levels : ℕ) → BelowOk levels
    below_ok zero kept scope so_far rest small is at = made_none so_far rest small at
    below_ok (suc levels) kept scope so_far rest small is at =
        subst (λ (m : ModuleEntry). Made so_far (fold (with_instance names modules levels kept) so_far m.instances) (below (suc levels) scope) rest) (sym is.entry)
        (instances_ok levels (below_ok levels) kept scope is scope.entry.instances so_far rest small at)

    -- The scopes of the design.

    top_made : (top : ModuleEntry) → flat ≡ nets_of names modules top → Made none (kept_scopes names modules top) (scopes_of names modules top) []
    unfolding kept_scopes scopes_of
    top_made top e =
        let start : IsStart names modules flat (top_start top) (top_scope names modules top) = record { entry = refl; path = refl; top = refl; given = none_given top top.nets } in
        scopes_made MAX_DEPTH (below_ok MAX_DEPTH) none (top_start top) (top_scope names modules top) [] (omega arith) start
        (record {
          stand = λ few k net there.
              let on : 0 + k ≡ k = omega arith in
              ap (slice_get flat) on ∙ ap (λ (ns : List NetEntry). slice_get ns k) (e ∙ sym (append_nil (flat_nets (scopes_below names modules MAX_DEPTH (top_scope names modules top))))) ∙ there;
        })

    pub kept_ok : (top : ModuleEntry) → flat ≡ nets_of names modules top → AllZip (IsScope names modules flat) (kept_scopes names modules top).list (scopes_of names modules top)
    kept_ok top e =
        let made = top_made top e in
        subst (λ (l : List PlacedScope). AllZip (IsScope names modules flat) l (scopes_of names modules top)) (sym made.list) made.each

    pub count_ok : (top : ModuleEntry) → flat ≡ nets_of names modules top → (kept_scopes names modules top).count ≡ min (length (nets_of names modules top)) most
    count_ok top e =
        let made = top_made top e in
        let on : 0 + length (nets_of names modules top) ≡ length (nets_of names modules top) = omega arith in
        made.count ∙ ap (λ n. min n most) on
