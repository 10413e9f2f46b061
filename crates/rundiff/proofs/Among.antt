-- Places among places, which are kept in order.
use Rattle.std.proofs.Common.{◌≡◌, ℕ, suc, ◌<◌, ◌≤◌, All, ◌∙◌, ap, sym, refl, List, [], ◌∷◌, ◌++◌, Bool, true, false, Option, Some, None, nat_cmp, AllPairs, nat_eq, ◌||◌, ◌&&◌, ◌==◌}
use Rattle.std.specs.List.{Contains, filter, position_from}
use Rattle.std.specs.List.Sorted.{IsStrictlySortedBy}
use Rattle.std.specs.Option.{option_map_or}
use Rattle.std.proofs.lemmas.Map.Keys.{below_from_sorted}
use Rattle.std.proofs.lemmas.Bool.{or_right}
use Rattle.std.proofs.lemmas.List.Folds.{list_any-append}
use Rattle.std.proofs.lemmas.List.Elements.{All-head}
use Rattle.catalog.proofs.ListLemmas.{AllPairs-tail, position_find}
use Rattle.design.specs.Names.{same_name}
use Rattle.design.specs.Netlist.{Netlist}
use Rattle.design.proofs.NameLemmas.{name_is}
use Rattle.scratch.specs.kept.Places.{AreRising, has}
use Rattle.scratch.proofs.Among.{has_filter, same_among as same_members}
use Rattle.scratch.proofs.Keyed.{same_test}
use Rattle.scratch.proofs.Driven.{earlier}
use Rattle.rundiff.specs.kept.Fronts.{ArePlaces}
use Rattle.rundiff.proofs.Lists.{pairs_head}
use Rattle.rundiff.specs.kept.Places.{blank_net, is_among, is_live, net_at}

-- the two ways to say that a place is among places
pub among_has : (xs : List ℕ) (p : ℕ) → is_among xs p ≡ has p xs
among_has [] p = refl
among_has (x ∷ xs) p = ap (λ (b : Bool). b || is_among xs p) (same_test x p) ∙ ap (λ (b : Bool). nat_eq p x || b) (among_has xs p)

-- the places that pass
pub among_filter : (test : ℕ → Bool) (xs : List ℕ) (p : ℕ) → is_among (filter test xs) p ≡ (is_among xs p && test p)
among_filter test xs p = among_has (filter test xs) p ∙ has_filter test p xs ∙ ap (λ (b : Bool). b && test p) (sym (among_has xs p))

-- lists with the same elements
pub same_among : (xs ys : List ℕ) → ((x : ℕ) → Contains xs x → Contains ys x) → ((x : ℕ) → Contains ys x → Contains xs x) → (p : ℕ) → is_among xs p ≡ is_among ys p
same_among xs ys there back p = among_has xs p ∙ same_members xs ys there back p ∙ sym (among_has ys p)

-- places in order
pub in_order : (places : List ℕ) (test : ℕ → Bool) → IsStrictlySortedBy nat_cmp places → ((p : ℕ) → is_among places p ≡ test p) → ArePlaces places test
in_order places test sorted all = record { rising = λ i j d order within. below_from_sorted places i j d sorted order within; all = all }

both_live : (f g h : ℕ → Bool) → ((p : ℕ) → f p ≡ true → g p ≡ true → h p ≡ true) → (o : Option ℕ) → option_map_or f o false ≡ true → option_map_or g o false ≡ true → option_map_or h o false ≡ true
both_live f g h more None on too = on
both_live f g h more (Some p) on too = more p on too

-- the net of a name is at places of both kinds
pub live_both : (d : Netlist) (f g h : ℕ → Bool) → ((p : ℕ) → f p ≡ true → g p ≡ true → h p ≡ true) → (name : List ℕ) → is_live d f name ≡ true → is_live d g name ≡ true → is_live d h name ≡ true
live_both d f g h more name on too = both_live f g h more (position_from (λ n. same_name n.name name) 0 d.nets) on too

-- the places of two lists, of which the second was noted
pub either_among : (xs ys : List ℕ) (p : ℕ) → is_among (xs ++ ys) p ≡ (is_among xs p || has p ys)
either_among xs ys p = list_any-append (λ q. q == p) xs ys ∙ ap (λ (b : Bool). is_among xs p || b) (among_has ys p)

-- a place that is noted is among those that are taken
pub taken_among : (taken was those : List ℕ) → taken ≡ was ++ those → (p : ℕ) → has p those ≡ true → is_among taken p ≡ true
taken_among taken was those is p there = ap (λ (l : List ℕ). is_among l p) is ∙ either_among was those p ∙ or_right (is_among was p) (has p those) there

gained : (f g h : ℕ → Bool) → ((p : ℕ) → f p ≡ (h p || g p)) → (o : Option ℕ) → option_map_or f o false ≡ true → option_map_or g o false ≡ false → option_map_or h o false ≡ true
gained f g h adds None on off = absurd (cc)
gained f g h adds (Some p) on off = earlier (h p) (g p) (sym (adds p) ∙ on) off

-- a name that became live is that of a net that became live
pub live_gained : (d : Netlist) (f g h : ℕ → Bool) → ((p : ℕ) → f p ≡ (h p || g p)) → (name : List ℕ) → is_live d f name ≡ true → is_live d g name ≡ false → is_live d h name ≡ true
live_gained d f g h adds name on off = gained f g h adds (position_from (λ n. same_name n.name name) 0 d.nets) on off

by_position : (d : Netlist) (f : ℕ → Bool) (name : List ℕ) (o : Option ℕ) → position_from (λ n. same_name n.name name) 0 d.nets ≡ o → option_map_or f o false ≡ true →
    (p : ℕ) × (f p ≡ true) × ((net_at d p).name ≡ name)
by_position d f name None is on = absurd (cc)
by_position d f name (Some q) is on = (q, on, name_is (net_at d q).name name (position_find (λ n. same_name n.name name) q d.nets blank_net is).1)

-- a live name is that of a live net
pub live_net : (d : Netlist) (f : ℕ → Bool) (name : List ℕ) → is_live d f name ≡ true → (p : ℕ) × (f p ≡ true) × ((net_at d p).name ≡ name)
live_net d f name on = by_position d f name (position_from (λ n. same_name n.name name) 0 d.nets) refl on

-- places in order, from a on
pub rises : (a : ℕ) (ps : List ℕ) → AllPairs (λ p q. p < q) ps → All (λ p. a ≤ p) ps → AreRising a ps
rises a [] rising low = tt
rises a (p ∷ ps) rising low =
    (All-head (λ p. a ≤ p) p ps low, rises (suc p) ps (AllPairs-tail (λ p q. p < q) p ps rising) (pairs_head (λ p q. p < q) p ps rising))
