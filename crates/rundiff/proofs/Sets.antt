-- Sets of places, and lists in their order.
use Rattle.std.proofs.Common.{◌≡◌, ℕ, ◌∙◌, ap, sym, refl, subst, List, [], ◌∷◌, Bool, true, false, cond, nat_cmp, is_eq, ◌||◌, ◌==◌}
use Rattle.std.specs.BTreeSet.{BTreeSet, contains}
use Rattle.std.specs.List.{list_any}
use Rattle.std.specs.List.Sorted.{IsStrictlySortedBy}
use Rattle.std.proofs.lemmas.Map.Keys.{below_from_sorted}
use Rattle.std.proofs.Math.Bool.{or_assoc, or_comm}
use Rattle.event_queue.proofs.Moments.{same_moment}
use Rattle.scratch.proofs.Keyed.{same_test}
use Rattle.rundiff.specs.kept.Fronts.{ArePlaces}
use Rattle.rundiff.specs.kept.Places.{is_among}

pub test_is : (p q : ℕ) → (q == p) ≡ is_eq (nat_cmp p q)
test_is p q = same_test q p ∙ sym (same_moment p q)

pub among_keys : (keys : List ℕ) (p : ℕ) → is_among keys p ≡ list_any (λ q. is_eq (nat_cmp p q)) keys
among_keys [] p = refl
among_keys (q ∷ keys) p = ap (λ (b : Bool). b || is_among keys p) (test_is p q) ∙ ap (λ (b : Bool). is_eq (nat_cmp p q) || b) (among_keys keys p)

-- the keys of a set are its places in order
pub set_places : (s : BTreeSet ℕ) (places : List ℕ) → places ≡ s.keys → IsStrictlySortedBy nat_cmp s.keys → ArePlaces places (contains nat_cmp s)
set_places s places same sorted =
    let those : ArePlaces s.keys (contains nat_cmp s) = record {
      rising = λ i j d order within. below_from_sorted s.keys i j d sorted order within;
      all = λ p. among_keys s.keys p;
    } in
    subst (λ (l : List ℕ). ArePlaces l (contains nat_cmp s)) (sym same) those

pub cond_or : (a b : Bool) → cond a true b ≡ (a || b)
cond_or true b = refl
cond_or false b = refl

-- one place more among those that are live
pub live_step : (a b c : Bool) → (b || (a || c)) ≡ ((a || b) || c)
live_step a b c = sym (or_assoc b a c) ∙ ap (λ (d : Bool). d || c) (or_comm b a)

-- a place more in a set
pub held_more : (a b c : Bool) → cond b true (a || c) ≡ ((a || b) || c)
held_more a b c = cond_or b (a || c) ∙ live_step a b c
