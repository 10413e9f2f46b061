-- Elements that pass, looked up at places in order.
use Rattle.std.proofs.Common.{◌≡◌, refl, slice_get, unwrap_or, ℕ, ◌<◌, ◌∙◌, ap, sym, List, Bool, true, false, map, length, Option, arith, ⊎_elim, filter, map-id, slice_index_or, ◌&&◌, AllPairs}
use Rattle.std.specs.Option.{option_map_or}
use Rattle.std.proofs.Math.Bool.{and-false}
use Rattle.std.proofs.lemmas.Bool.{cases_lt, false_from_ne_true}
use Rattle.std.proofs.lemmas.List.Kept.{AllPairs-filter}
use Rattle.std.proofs.lemmas.Option.{slice_get-get_or, slice_get_past, unwrap_or-slice_get}
use Rattle.scratch.specs.kept.Places.{has, passing as places_of}
use Rattle.scratch.proofs.Among.{has_filter}
use Rattle.scratch.proofs.Lists.{map_alike}
use Rattle.scratch.proofs.Passing.{are_passing}
use Rattle.scratch.proofs.Places.{by_places}
use Rattle.rundiff.specs.kept.Fronts.{ArePlaces}
use Rattle.rundiff.specs.kept.Places.{is_among}
use Rattle.rundiff.proofs.Among.{among_filter, among_has, rises}

both_on : (a b : Bool) → (b ≡ true → a ≡ true) → (a && b) ≡ b
both_on a true says = rw (says refl) refl
both_on a false says = and-false a

-- of those that are held, the ones that pass are all that pass
pub passing : {X : Type 0} (xs : List X) (d : X) (test : X → Bool) (ps : List ℕ) → AllPairs (λ p q. p < q) ps → ((p : ℕ) → is_among ps p ≡ true → p < length xs) →
    ((p : ℕ) → p < length xs → test (slice_index_or xs p d) ≡ true → is_among ps p ≡ true) →
    filter test xs ≡ map (λ p. slice_index_or xs p d) (filter (λ p. test (slice_index_or xs p d)) ps)
passing {X} xs d test ps rising high covers =
    let those : kept ≡ places_of test 0 xs = are_passing test kept xs (rises 0 kept (AllPairs-filter (λ p q. p < q) passes ps rising) (λ i e within. omega arith)) here in
    sym (map-id (filter test xs)) ∙ sym (by_places test (λ x. x) d 0 xs xs (sym (map-id xs)))
    ∙ map_alike (λ p. unwrap_or (slice_get xs p) d) look (λ p. unwrap_or-slice_get xs p d) (places_of test 0 xs) ∙ ap (map look) (sym those)
  where
    look : ℕ → X
    look p = slice_index_or xs p d

    passes : ℕ → Bool
    passes p = test (look p)

    kept : List ℕ
    kept = filter passes ps

    here : (p : ℕ) → has p kept ≡ option_map_or test (slice_get xs p) false
    here p =
        has_filter passes p ps
        ∙ ⊎_elim
        (λ low. both_on (has p ps) (passes p) (λ on. sym (among_has ps p) ∙ covers p low on) ∙ sym (ap (λ (o : Option X). option_map_or test o false) (slice_get-get_or xs p d low)))
        (λ past.
        let none : has p ps ≡ false = false_from_ne_true (has p ps) (λ on. let low = high p (among_has ps p ∙ on) in omega arith) in
        rw (none, slice_get_past xs p past) refl)
        (cases_lt p (length xs))

-- places that pass, in order
pub filter_places : (ps : List ℕ) (held test : ℕ → Bool) → ArePlaces ps held → ArePlaces (filter test ps) (λ p. held p && test p)
filter_places ps held test are =
    record {
      rising = AllPairs-filter (λ p q. p < q) test ps are.rising;
      all = λ p. among_filter test ps p ∙ ap (λ (b : Bool). b && test p) (are.all p);
    }
