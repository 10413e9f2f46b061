-- Differences in order: by moments, and those of one moment by numbers.
use Rattle.std.proofs.Common.{◌≡◌, ◌==◌, ◌<◌, ◌≤◌, ◌+◌, ◌-◌, ℕ, zero, suc, nat_lt, cond, List, [], ◌∷◌, ◌++◌, Bool, true, false, refl, ap, append-nil, arith, sym, subst, ◌∙◌, inl, inr, AllPairs, length, ◌&&◌}
use Rattle.std.specs.List.{AllByRecursion, filter, flat_map, slice_index_or, sum_by}
use Rattle.std.specs.List.Sorted.{IsPermutation}
use Rattle.std.specs.Ordering.{is_lt, nat_cmp, ordering_then}
use Rattle.std.proofs.lemmas.Bool.{and_from, and_parts, cases_lt, cases_order, eq-eqb, eqb-true, lt-ltb, le-ltb, ne_eqb}
use Rattle.std.proofs.lemmas.List.Concat.{flat_map-append}
use Rattle.std.proofs.lemmas.List.Sorted.{sum_by-IsPermutation}
use Rattle.std.proofs.lemmas.List.Sums.{sum_by-cons}
use Rattle.waveform.specs.Timelines.{moments}
use Rattle.differences.specs.declared.room.Difference.{Difference}
use Rattle.differences.specs.kept.Order.{GoesFirst}

-- each goes before all later ones
abbrev pub AreInOrder : List Difference → Type 0
AreInOrder [] = Unit {0}
AreInOrder (x ∷ xs) = AllByRecursion (GoesFirst x) xs × AreInOrder xs

-- numbers rise
abbrev pub AreNumbered : List Difference → Type 0
AreNumbered [] = Unit {0}
AreNumbered (x ∷ xs) = AllByRecursion (λ y. x.number < y.number) xs × AreNumbered xs

each_by : (P : Difference → Type 0) (xs : List Difference) → ((i : ℕ) (d : Difference) → i < length xs → P (slice_index_or xs i d)) → AllByRecursion P xs
each_by P [] each = tt
each_by P (x ∷ xs) each = (each 0 x (omega arith), each_by P xs (λ i d within. each (suc i) d (omega arith)))

pub in_order_from : (xs : List Difference) → AllPairs GoesFirst xs → AreInOrder xs
in_order_from [] pairs = tt
in_order_from (x ∷ xs) pairs = (
  each_by (GoesFirst x) xs (λ i d within. pairs 0 (suc i) d (omega arith) (omega arith)),
  in_order_from xs (λ i j d before within. pairs (suc i) (suc j) d (omega arith) (omega arith)),
)

-- Those before a moment, and at it.

abbrev pub is_at : ℕ → Difference → Bool
is_at t x = x.moment == t

abbrev pub is_before : ℕ → Difference → Bool
is_before t x = nat_lt x.moment t

keep : (p : Difference → Bool) (x : Difference) (xs : List Difference) → p x ≡ true → filter p (x ∷ xs) ≡ x ∷ filter p xs
keep p x xs is = rw is refl

skip : (p : Difference → Bool) (x : Difference) (xs : List Difference) → p x ≡ false → filter p (x ∷ xs) ≡ filter p xs
skip p x xs is = rw is refl

none_before : (t : ℕ) (x : Difference) (xs : List Difference) → t ≤ x.moment → AllByRecursion (GoesFirst x) xs → filter (is_before t) xs ≡ []
none_before t x [] le all = refl
none_before t x (y ∷ ys) le all =
    let first = all.0 in
    let m = first.moments in
    skip (is_before t) y ys (le-ltb y.moment t (omega arith)) ∙ none_before t x ys le all.1

-- those before the next moment are those before this one, and those at it
split_next : (t : ℕ) (xs : List Difference) → AreInOrder xs → filter (is_before (suc t)) xs ≡ filter (is_before t) xs ++ filter (is_at t) xs
split_next t [] order = refl
split_next t (x ∷ xs) order =
    let rest = split_next t xs order.1 in
    elim (cases_order x.moment t) [
      | inl at ↦
          let none : filter (is_before t) xs ≡ [] = none_before t x xs (omega arith) order.0 in
          let all : filter (is_before (suc t)) (x ∷ xs) ≡ x ∷ filter (is_before (suc t)) xs = keep (is_before (suc t)) x xs (lt-ltb x.moment (suc t) (omega arith)) in
          let old : filter (is_before t) (x ∷ xs) ≡ filter (is_before t) xs = skip (is_before t) x xs (le-ltb x.moment t (omega arith)) in
          let new : filter (is_at t) (x ∷ xs) ≡ x ∷ filter (is_at t) xs = keep (is_at t) x xs (eq-eqb x.moment t at) in
          let mine : filter (is_before (suc t)) xs ≡ filter (is_at t) xs = rw none at rest in
          rw (all, old, new, none, mine) refl
      | inr other ↦ elim other [
        | inl lt ↦
            let all : filter (is_before (suc t)) (x ∷ xs) ≡ x ∷ filter (is_before (suc t)) xs = keep (is_before (suc t)) x xs (lt-ltb x.moment (suc t) (omega arith)) in
            let old : filter (is_before t) (x ∷ xs) ≡ x ∷ filter (is_before t) xs = keep (is_before t) x xs (lt-ltb x.moment t lt) in
            let new : filter (is_at t) (x ∷ xs) ≡ filter (is_at t) xs = skip (is_at t) x xs (ne_eqb x.moment t (λ e. omega arith)) in
            rw (all, old, new, rest) refl
        | inr gt ↦
            let all : filter (is_before (suc t)) (x ∷ xs) ≡ filter (is_before (suc t)) xs = skip (is_before (suc t)) x xs (le-ltb x.moment (suc t) (omega arith)) in
            let old : filter (is_before t) (x ∷ xs) ≡ filter (is_before t) xs = skip (is_before t) x xs (le-ltb x.moment t (omega arith)) in
            let new : filter (is_at t) (x ∷ xs) ≡ filter (is_at t) xs = skip (is_at t) x xs (ne_eqb x.moment t (λ e. omega arith)) in
            rw (all, old, new) rest
      ]
    ]

none_at_all : (xs : List Difference) → filter (is_before 0) xs ≡ []
none_at_all [] = refl
none_at_all (x ∷ xs) = skip (is_before 0) x xs (le-ltb x.moment 0 (omega arith)) ∙ none_at_all xs

pub all_before : (t : ℕ) (xs : List Difference) → AllByRecursion (λ x. x.moment < t) xs → filter (is_before t) xs ≡ xs
all_before t [] all = refl
all_before t (x ∷ xs) all = keep (is_before t) x xs (lt-ltb x.moment t all.0) ∙ ap (λ ws. x ∷ ws) (all_before t xs all.1)

-- Lists in order with the same elements.

-- each sum over one is that over the other
abbrev pub SameSums : List Difference → List Difference → Type 0
SameSums xs ys = (f : Difference → ℕ) → sum_by f xs ≡ sum_by f ys

same_from_permutation : (xs ys : List Difference) → IsPermutation xs ys → SameSums ys xs
same_from_permutation xs ys moved f = sum_by-IsPermutation f xs ys moved

sum_filtered : (p : Difference → Bool) (f : Difference → ℕ) (xs : List Difference) → sum_by f (filter p xs) ≡ sum_by (λ x. cond (p x) (f x) 0) xs
sum_filtered p f [] = refl
sum_filtered p f (x ∷ xs) =
    let g : Difference → ℕ = λ y. cond (p y) (f y) 0 in
    let rest : sum_by f (filter p xs) ≡ sum_by g xs = sum_filtered p f xs in
    let sum : sum_by g (x ∷ xs) ≡ g x + sum_by g xs = sum_by-cons g x xs in
    elim (p x) as (λ b. p x ≡ b → sum_by f (filter p (x ∷ xs)) ≡ sum_by g (x ∷ xs)) [
      | true ↦ λ h.
          let here : g x ≡ f x = rw h refl in
          let kept : sum_by f (x ∷ filter p xs) ≡ f x + sum_by f (filter p xs) = sum_by-cons f x (filter p xs) in
          ap (sum_by f) (keep p x xs h) ∙ kept ∙ (let e : f x + sum_by f (filter p xs) ≡ g x + sum_by g xs = cc in e) ∙ sym sum
      | false ↦ λ h.
          let here : g x ≡ 0 = rw h refl in
          let none : sum_by g xs ≡ g x + sum_by g xs = omega (arith, here) in
          ap (sum_by f) (skip p x xs h) ∙ rest ∙ none ∙ sym sum
    ] refl

same_filtered : (p : Difference → Bool) (xs ys : List Difference) → SameSums xs ys → SameSums (filter p xs) (filter p ys)
same_filtered p xs ys same f = sum_filtered p f xs ∙ same (λ x. cond (p x) (f x) 0) ∙ sym (sum_filtered p f ys)

abbrev is_that : Difference → Difference → Bool
is_that x y = y.moment == x.moment && y.number == x.number

abbrev one_at : Difference → Difference → ℕ
one_at x y = cond (is_that x y) 1 0

same_parts : (m n p q : ℕ) → m ≡ p → n ≡ q → ◌≡◌ {A = Difference} (record { moment = m; number = n }) (record { moment = p; number = q })
same_parts m n p q e f = cc

same_difference : (x y : Difference) → is_that x y ≡ true → y ≡ x
same_difference x y h =
    let both = and_parts (y.moment == x.moment) (y.number == x.number) h in
    same_parts y.moment y.number x.moment x.number (eqb-true y.moment x.moment both.0) (eqb-true y.number x.number both.1)

is_itself : (x : Difference) → is_that x x ≡ true
is_itself x = and_from (x.moment == x.moment) (x.number == x.number) (eq-eqb x.moment x.moment refl) (eq-eqb x.number x.number refl)

-- what is counted is there
reached : (P : Difference → Type 0) (x : Difference) (ys : List Difference) → AllByRecursion P ys → 0 < sum_by (one_at x) ys → P x
reached P x [] all some = absurd (omega arith)
reached P x (y ∷ ys) all some =
    elim (is_that x y) as (λ b. is_that x y ≡ b → P x) [
      | true ↦ λ h. subst P (same_difference x y h) all.0
      | false ↦ λ h.
          let none : one_at x y ≡ 0 = rw h refl in
          let sum : sum_by (one_at x) (y ∷ ys) ≡ one_at x y + sum_by (one_at x) ys = sum_by-cons (one_at x) y ys in
          reached P x ys all.1 (omega (arith, none, sum))
    ] refl

counted : (x : Difference) (xs : List Difference) → 0 < sum_by (one_at x) (x ∷ xs)
counted x xs =
    let one : one_at x x ≡ 1 = rw (is_itself x) refl in
    let sum : sum_by (one_at x) (x ∷ xs) ≡ one_at x x + sum_by (one_at x) xs = sum_by-cons (one_at x) x xs in
    omega (arith, one, sum)

goes_before_itself : (x : Difference) → GoesFirst x x
goes_before_itself x = record { moments = omega arith; numbers = λ e. omega arith }

least_first : (x y : Difference) (xs ys : List Difference) → AllByRecursion (GoesFirst y) ys → SameSums (x ∷ xs) (y ∷ ys) → GoesFirst y x
least_first x y xs ys all same =
    reached (GoesFirst y) x (y ∷ ys) (goes_before_itself y, all) (subst (λ (n : ℕ). 0 < n) (same (one_at x)) (counted x xs))

same_place : (x y : Difference) → GoesFirst x y → GoesFirst y x → x ≡ y
same_place x y before behind =
    let m1 = before.moments in
    let m2 = behind.moments in
    let m : x.moment ≡ y.moment = omega arith in
    let n1 = before.numbers m in
    let n2 = behind.numbers (sym m) in
    let n : x.number ≡ y.number = omega arith in
    same_parts x.moment x.number y.moment y.number m n

same_rest : (x y : Difference) (xs ys : List Difference) → x ≡ y → SameSums (x ∷ xs) (y ∷ ys) → SameSums xs ys
same_rest x y xs ys first same f =
    let mine : sum_by f (x ∷ xs) ≡ f x + sum_by f xs = sum_by-cons f x xs in
    let its : sum_by f (y ∷ ys) ≡ f y + sum_by f ys = sum_by-cons f y ys in
    let both : sum_by f (x ∷ xs) ≡ sum_by f (y ∷ ys) = same f in
    let at : f x ≡ f y = ap f first in
    omega (arith, mine, its, both, at)

-- there is one list in order with these sums
one_list : (xs ys : List Difference) → AreInOrder xs → AreInOrder ys → SameSums xs ys → xs ≡ ys
one_list [] [] ox oy same = refl
one_list [] (y ∷ ys) ox oy same =
    let count : Difference → ℕ = λ _. 1 in
    let sum : sum_by count (y ∷ ys) ≡ 1 + sum_by count ys = sum_by-cons count y ys in
    let none : 0 ≡ sum_by count (y ∷ ys) = same count in
    absurd (omega (arith, sum, none))
one_list (x ∷ xs) [] ox oy same =
    let count : Difference → ℕ = λ _. 1 in
    let sum : sum_by count (x ∷ xs) ≡ 1 + sum_by count xs = sum_by-cons count x xs in
    let none : sum_by count (x ∷ xs) ≡ 0 = same count in
    absurd (omega (arith, sum, none))
one_list (x ∷ xs) (y ∷ ys) ox oy same =
    let first : x ≡ y = same_place x y (least_first y x ys xs ox.0 (λ f. sym (same f))) (least_first x y xs ys oy.0 same) in
    let rest : xs ≡ ys = one_list xs ys ox.1 oy.1 (λ f. same_rest x y xs ys first same f) in
    cc

-- Differences that are numbered in order.

filter_each : (P : Difference → Type 0) (p : Difference → Bool) (xs : List Difference) → AllByRecursion P xs → AllByRecursion P (filter p xs)
filter_each P p [] all = tt
filter_each P p (x ∷ xs) all =
    elim (p x) as (λ b. p x ≡ b → AllByRecursion P (filter p (x ∷ xs))) [
      | true ↦ λ h. subst (AllByRecursion P) (sym (keep p x xs h)) (all.0, filter_each P p xs all.1)
      | false ↦ λ h. subst (AllByRecursion P) (sym (skip p x xs h)) (filter_each P p xs all.1)
    ] refl

filter_in_order : (p : Difference → Bool) (xs : List Difference) → AreInOrder xs → AreInOrder (filter p xs)
filter_in_order p [] order = tt
filter_in_order p (x ∷ xs) order =
    elim (p x) as (λ b. p x ≡ b → AreInOrder (filter p (x ∷ xs))) [
      | true ↦ λ h. subst AreInOrder (sym (keep p x xs h)) (filter_each (GoesFirst x) p xs order.0, filter_in_order p xs order.1)
      | false ↦ λ h. subst AreInOrder (sym (skip p x xs h)) (filter_in_order p xs order.1)
    ] refl

first_at : (t : ℕ) (x : Difference) (xs : List Difference) → x.moment ≡ t → AllByRecursion (λ y. x.number < y.number) xs → AllByRecursion (GoesFirst x) (filter (is_at t) xs)
first_at t x [] at all = tt
first_at t x (y ∷ ys) at all =
    elim (is_at t y) as (λ b. is_at t y ≡ b → AllByRecursion (GoesFirst x) (filter (is_at t) (y ∷ ys))) [
      | true ↦ λ h.
          let there = eqb-true y.moment t h in
          let lower : x.number < y.number = all.0 in
          subst (AllByRecursion (GoesFirst x)) (sym (keep (is_at t) y ys h)) (record { moments = omega arith; numbers = λ e. omega arith }, first_at t x ys at all.1)
      | false ↦ λ h. subst (AllByRecursion (GoesFirst x)) (sym (skip (is_at t) y ys h)) (first_at t x ys at all.1)
    ] refl

at_in_order : (t : ℕ) (xs : List Difference) → AreNumbered xs → AreInOrder (filter (is_at t) xs)
at_in_order t [] numbered = tt
at_in_order t (x ∷ xs) numbered =
    elim (is_at t x) as (λ b. is_at t x ≡ b → AreInOrder (filter (is_at t) (x ∷ xs))) [
      | true ↦ λ h. subst AreInOrder (sym (keep (is_at t) x xs h)) (first_at t x xs (eqb-true x.moment t h) numbered.0, at_in_order t xs numbered.1)
      | false ↦ λ h. subst AreInOrder (sym (skip (is_at t) x xs h)) (at_in_order t xs numbered.1)
    ] refl

gathered : (sorted found : List Difference) (n : ℕ) → AreInOrder sorted → AreNumbered found → SameSums sorted found
    → filter (is_before n) sorted ≡ flat_map (λ t. filter (is_at t) found) (moments n)
gathered sorted found zero order numbered same = none_at_all sorted
gathered sorted found (suc n) order numbered same =
    let f : ℕ → List Difference = λ t. filter (is_at t) found in
    let before : filter (is_before n) sorted ≡ flat_map f (moments n) = gathered sorted found n order numbered same in
    let here : filter (is_at n) sorted ≡ f n = one_list (filter (is_at n) sorted) (f n) (filter_in_order (is_at n) sorted order) (at_in_order n found numbered) (same_filtered (is_at n) sorted found same) in
    split_next n sorted order ∙ rw (before, here, flat_map-append f (moments n) (n ∷ []), append-nil (f n)) refl

-- differences in order are those at each moment, in the order in which they were found
pub in_order_is : (sorted found : List Difference) (n : ℕ) → AllPairs GoesFirst sorted → IsPermutation found sorted → AreNumbered found → AllByRecursion (λ x. x.moment < n) sorted
    → sorted ≡ flat_map (λ t. filter (is_at t) found) (moments n)
in_order_is sorted found n order moved numbered early =
    sym (all_before n sorted early) ∙ gathered sorted found n (in_order_from sorted order) numbered (same_from_permutation found sorted moved)

-- From neighbours in order.

less_moment : (x y : Difference) → x.moment < y.moment → is_lt (ordering_then (nat_cmp x.moment y.moment) (nat_cmp x.number y.number)) ≡ true
less_moment x y lt = let h : nat_lt x.moment y.moment ≡ true = lt-ltb x.moment y.moment lt in rw h refl

less_number : (x y : Difference) → x.moment ≡ y.moment → x.number < y.number → is_lt (ordering_then (nat_cmp x.moment y.moment) (nat_cmp x.number y.number)) ≡ true
less_number x y at lt =
    let h : nat_lt x.moment y.moment ≡ false = le-ltb x.moment y.moment (omega arith) in
    let e : (x.moment == y.moment) ≡ true = eq-eqb x.moment y.moment at in
    let n : nat_lt x.number y.number ≡ true = lt-ltb x.number y.number lt in
    rw (h, e, n) refl

-- what is not less than another goes behind it, or is that one
pub not_before : (x y : Difference) → is_lt (ordering_then (nat_cmp x.moment y.moment) (nat_cmp x.number y.number)) ≡ false → GoesFirst y x
not_before x y h =
    elim (cases_lt x.moment y.moment) [
      | inl lt ↦ absurd (let less = less_moment x y lt in cc)
      | inr le ↦ record {
        moments = le;
        numbers = λ at. elim (cases_lt x.number y.number) [
          | inl lt ↦ absurd (let less = less_number x y (sym at) lt in cc)
          | inr low ↦ low
        ];
      }
    ]

goes_on : (x y z : Difference) → GoesFirst x y → GoesFirst y z → GoesFirst x z
goes_on x y z first second =
    let m1 = first.moments in
    let m2 = second.moments in
    record {
      moments = omega arith;
      numbers = λ at.
          let e1 : x.moment ≡ y.moment = omega arith in
          let e2 : y.moment ≡ z.moment = omega arith in
          let n1 = first.numbers e1 in
          let n2 = second.numbers e2 in
          omega arith;
    }

far_in_order : (xs : List Difference) → ((k : ℕ) (d : Difference) → k + 1 < length xs → GoesFirst (slice_index_or xs k d) (slice_index_or xs (k + 1) d))
    → (i n : ℕ) (d : Difference) → i + suc n < length xs → GoesFirst (slice_index_or xs i d) (slice_index_or xs (i + suc n) d)
far_in_order xs step i zero d within = step i d within
far_in_order xs step i (suc n) d within =
    let e : i + suc n + 1 ≡ i + suc (suc n) = omega arith in
    let near : GoesFirst (slice_index_or xs (i + suc n) d) (slice_index_or xs (i + suc (suc n)) d)
    = subst (λ (k : ℕ). GoesFirst (slice_index_or xs (i + suc n) d) (slice_index_or xs k d)) e (step (i + suc n) d (omega arith)) in
    goes_on (slice_index_or xs i d) (slice_index_or xs (i + suc n) d) (slice_index_or xs (i + suc (suc n)) d) (far_in_order xs step i n d (omega arith)) near

pub in_order_by_steps : (xs : List Difference) → ((k : ℕ) (d : Difference) → k + 1 < length xs → GoesFirst (slice_index_or xs k d) (slice_index_or xs (k + 1) d)) → AllPairs GoesFirst xs
in_order_by_steps xs step i j d before within =
    let e : i + suc (j - i - 1) ≡ j = omega arith in
    subst (λ (k : ℕ). GoesFirst (slice_index_or xs i d) (slice_index_or xs k d)) e (far_in_order xs step i (j - i - 1) d (omega arith))
