-- What nets are, one after another.
use Rattle.std.proofs.Common.{◌≡◌, ℕ, suc, ◌+◌, ◌<◌, Bool, true, false, cond, nat_eq, List, [], ◌∷◌, ◌++◌, length, map, drop, get_or, Option, Some, None, refl, sym, ap, ◌∙◌, append_assoc}
use Rattle.std.specs.Prelude.{option_and_then, option_map}
use Rattle.std.specs.List.{slice_get}
use Rattle.std.proofs.lemmas.List.{at_drop_more}
use Rattle.vtext.specs.declared.net.Net as nets
use Rattle.vtext.specs.kept.Nets.{place_of}
use Rattle.elaboration.specs.declared.node.NodeRef.{NodeRef}
use Rattle.elaboration.specs.declared.node.Slot.{Slot}
use Rattle.elaboration.specs.kept.Numbered.{next_place, place_after, slot_for, slot_of, slots_from}
use Rattle.elaboration.proofs.PairLemmas.{position_first}

-- What is found by the place of a name.

get_on : (slot : Slot) (slots : List Slot) (place : Option ℕ) → option_and_then (slice_get (slot ∷ slots)) (option_map suc place) ≡ option_and_then (slice_get slots) place
get_on slot slots None = refl
get_on slot slots (Some p) = refl

get_first : (b : Bool) (slot : Slot) (slots : List Slot) (place : Option ℕ)
    → option_and_then (slice_get (slot ∷ slots)) (cond b (Some 0) (option_map suc place)) ≡ cond b (Some slot) (option_and_then (slice_get slots) place)
get_first true slot slots place = refl
get_first false slot slots place = get_on slot slots place

none_got : (place : Option ℕ) → option_and_then (slice_get {X = Slot} []) place ≡ None
none_got None = refl
none_got (Some p) = refl

pub slot_found : (n : ℕ) (nets : List (ℕ × nets.Net)) (slots : List Slot) → option_and_then (slice_get slots) (place_of nets n) ≡ slot_for n nets slots
slot_found n [] slots = refl
slot_found n (net ∷ more) [] = none_got (place_of (net ∷ more) n)
slot_found n (net ∷ more) (slot ∷ slots) =
    ap (option_and_then (slice_get (slot ∷ slots))) (position_first (nat_eq n) net.0 (map (λ (o : ℕ × nets.Net). o.0) more))
    ∙ get_first (nat_eq n net.0) slot slots (place_of more n)
    ∙ ap (λ (o : Option Slot). cond (nat_eq n net.0) (Some slot) o) (slot_found n more slots)

-- One slot more.

pub next_slot : (top : Bool) (listed : List (ℕ × nets.Net)) (given : List (Option NodeRef)) (i : ℕ) (net : ℕ × nets.Net) (node : Option NodeRef) (place : ℕ) (items : List Slot)
    → i < length listed → i < length given → net ≡ get_or listed i net → node ≡ get_or given i node
    → (items ++ slot_of top place net.1 node ∷ []) ++ slots_from top (next_place place net.1 node) (drop (i + 1) listed) (drop (i + 1) given) ≡ items ++ slots_from top place (drop i listed) (drop i given)
next_slot top listed given i net node place items in_nets in_given is_net is_node =
    append_assoc items (slot_of top place net.1 node ∷ []) (slots_from top (next_place place net.1 node) (drop (i + 1) listed) (drop (i + 1) given))
    ∙ ap (λ ss. items ++ ss) (sym (
    at_drop_more (λ ns. slots_from top place ns (drop i given)) listed i net in_nets
    ∙ ap (λ (n : ℕ × nets.Net). slots_from top place (n ∷ drop (i + 1) listed) (drop i given)) (sym is_net)
    ∙ at_drop_more (λ gs. slots_from top place (net ∷ drop (i + 1) listed) gs) given i node in_given
    ∙ ap (λ (g : Option NodeRef). slots_from top place (net ∷ drop (i + 1) listed) (g ∷ drop (i + 1) given)) (sym is_node)
    ))

pub place_next : (listed : List (ℕ × nets.Net)) (given : List (Option NodeRef)) (i : ℕ) (net : ℕ × nets.Net) (node : Option NodeRef) (place : ℕ)
    → i < length listed → i < length given → net ≡ get_or listed i net → node ≡ get_or given i node
    → place_after (next_place place net.1 node) (drop (i + 1) listed) (drop (i + 1) given) ≡ place_after place (drop i listed) (drop i given)
place_next listed given i net node place in_nets in_given is_net is_node =
    sym (
    at_drop_more (λ ns. place_after place ns (drop i given)) listed i net in_nets
    ∙ ap (λ (n : ℕ × nets.Net). place_after place (n ∷ drop (i + 1) listed) (drop i given)) (sym is_net)
    ∙ at_drop_more (λ gs. place_after place (net ∷ drop (i + 1) listed) gs) given i node in_given
    ∙ ap (λ (g : Option NodeRef). place_after place (net ∷ drop (i + 1) listed) (g ∷ drop (i + 1) given)) (sym is_node)
    )
