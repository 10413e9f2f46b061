-- Differences in the order in which they are found.
use Rattle.std.proofs.Common.{◌≡◌, ◌==◌, ◌<◌, ◌≤◌, ◌+◌, ℕ, suc, cond, List, [], ◌∷◌, ◌++◌, Bool, true, false, Option, Some, None, refl, ap, append_assoc, append-nil, arith, sym, subst, ◌∙◌, length, length-append, take}
use Rattle.std.specs.List.{AllByRecursion, filter, flat_map, slice_get, slice_index_or}
use Rattle.std.proofs.lemmas.Bool.{eqb-true}
use Rattle.std.proofs.lemmas.List.{length-take-le}
use Rattle.std.proofs.lemmas.List.Concat.{flat_map-append}
use Rattle.std.proofs.lemmas.List.Elements.{filter-append}
use Rattle.differences.specs.declared.room.Difference.{Difference}
use Rattle.differences.specs.Differences.{difference_line, is_moment}
use Rattle.differences.specs.kept.Found.{difference_of, differences_in, line_of}
use Rattle.differences.proofs.NameLemmas.{got_within, take_one_more}
use Rattle.differences.proofs.OrderLemmas.{AreNumbered, is_at}

-- All differences of a list.

pub join_each : (P : Difference → Type 0) (xs ys : List Difference) → AllByRecursion P xs → AllByRecursion P ys → AllByRecursion P (xs ++ ys)
join_each P [] ys all more = more
join_each P (x ∷ xs) ys all more = (all.0, join_each P xs ys all.1 more)

pub weaken_each : (P Q : Difference → Type 0) (xs : List Difference) → ((x : Difference) → P x → Q x) → AllByRecursion P xs → AllByRecursion Q xs
weaken_each P Q [] step all = tt
weaken_each P Q (x ∷ xs) step all = (step x all.0, weaken_each P Q xs step all.1)

one_each : (P : Difference → Type 0) (number : ℕ) (o : Option ℕ) → ((t : ℕ) → o ≡ Some t → P (record { moment = t; number = number })) → AllByRecursion P (difference_of number o)
one_each P number None each = tt
one_each P number (Some t) each = (each t refl, tt)

-- numbers from one on, and below another one
abbrev pub IsBetween : (low high : ℕ) → Difference → Type 0
IsBetween low high x = (low ≤ x.number) × (x.number < high)

pub between : (first : List ℕ → Option ℕ) (number : ℕ) (names : List (List ℕ)) → AllByRecursion (IsBetween number (number + length names)) (differences_in first number names)
between first number [] = tt
between first number (name ∷ names) =
    let high = number + length (name ∷ names) in
    join_each (IsBetween number high) (difference_of number (first name)) (differences_in first (suc number) names)
    (one_each (IsBetween number high) number (first name) (λ t is. (omega arith, omega arith)))
    (weaken_each (IsBetween (suc number) (suc number + length names)) (IsBetween number high) (differences_in first (suc number) names) (λ x all. (omega (arith, all.0), omega (arith, all.1))) (between first (suc number) names))

-- moments before one that all first moments are before
pub early : (first : List ℕ → Option ℕ) (end number : ℕ) (names : List (List ℕ)) → ((name : List ℕ) (t : ℕ) → first name ≡ Some t → t < end)
    → AllByRecursion (λ x. x.moment < end) (differences_in first number names)
early first end number [] low = tt
early first end number (name ∷ names) low =
    join_each (λ x. x.moment < end) (difference_of number (first name)) (differences_in first (suc number) names)
    (one_each (λ x. x.moment < end) number (first name) (low name)) (early first end (suc number) names low)

-- Numbers rise.

joined_rise : (bound : ℕ) (xs ys : List Difference) → AreNumbered xs → AreNumbered ys → AllByRecursion (λ x. x.number < bound) xs → AllByRecursion (λ y. bound ≤ y.number) ys → AreNumbered (xs ++ ys)
joined_rise bound [] ys rise more low high = more
joined_rise bound (x ∷ xs) ys rise more low high = (
  join_each (λ y. x.number < y.number) xs ys rise.0
      (weaken_each (λ y. bound ≤ y.number) (λ y. x.number < y.number) ys (λ y le. let lt : x.number < bound = low.0 in omega arith) high),
  joined_rise bound xs ys rise.1 more low.1 high,
)

pub join_numbered : (low mid high : ℕ) (xs ys : List Difference) → AreNumbered xs → AreNumbered ys → AllByRecursion (IsBetween low mid) xs → AllByRecursion (IsBetween mid high) ys → AreNumbered (xs ++ ys)
join_numbered low mid high xs ys rise more under over =
    joined_rise mid xs ys rise more
    (weaken_each (IsBetween low mid) (λ x. x.number < mid) xs (λ x both. both.1) under)
    (weaken_each (IsBetween mid high) (λ y. mid ≤ y.number) ys (λ y both. both.0) over)

one_numbered : (number : ℕ) (o : Option ℕ) → AreNumbered (difference_of number o)
one_numbered number None = tt
one_numbered number (Some t) = (tt, tt)

pub numbered : (first : List ℕ → Option ℕ) (number : ℕ) (names : List (List ℕ)) → AreNumbered (differences_in first number names)
numbered first number [] = tt
numbered first number (name ∷ names) =
    join_numbered number (suc number) (suc number + length names) (difference_of number (first name)) (differences_in first (suc number) names)
    (one_numbered number (first name)) (numbered first (suc number) names)
    (one_each (IsBetween number (suc number)) number (first name) (λ t is. (omega arith, omega arith)))
    (between first (suc number) names)

-- How many there are.

one_long : (number : ℕ) (o : Option ℕ) → length (difference_of number o) ≤ 1
one_long number None = omega arith
one_long number (Some t) = omega arith

pub found_long : (first : List ℕ → Option ℕ) (number : ℕ) (names : List (List ℕ)) → length (differences_in first number names) ≤ length names
found_long first number [] = omega arith
found_long first number (name ∷ names) =
    let one = one_long number (first name) in
    let rest = found_long first (suc number) names in
    let sum = length-append (difference_of number (first name)) (differences_in first (suc number) names) in
    omega arith

-- One name more.

pub one_name_more : (first : List ℕ → Option ℕ) (number : ℕ) (names : List (List ℕ)) (name : List ℕ)
    → differences_in first number (names ++ name ∷ []) ≡ differences_in first number names ++ difference_of (number + length names) (first name)
one_name_more first number [] name = let e : number + 0 ≡ number = omega arith in rw e (append-nil (difference_of number (first name)))
one_name_more first number (x ∷ names) name =
    let e : suc number + length names ≡ number + suc (length names) = omega arith in
    let rest : differences_in first (suc number) (names ++ name ∷ []) ≡ differences_in first (suc number) names ++ difference_of (number + suc (length names)) (first name)
    = subst (λ (n : ℕ). differences_in first (suc number) (names ++ name ∷ []) ≡ differences_in first (suc number) names ++ difference_of n (first name)) e (one_name_more first (suc number) names name) in
    ap (λ ws. difference_of number (first x) ++ ws) rest
    ∙ sym (append_assoc (difference_of number (first x)) (differences_in first (suc number) names) (difference_of (number + suc (length names)) (first name)))

-- Their lines at a moment.

-- the names have these numbers, from a number on, in a list of all
abbrev pub StandAt : (all : List (List ℕ)) → (number : ℕ) → (names : List (List ℕ)) → Type 0
StandAt all number names = (k : ℕ) → k < length names → slice_index_or all (number + k) [] ≡ slice_index_or names k []

stand_behind : (all : List (List ℕ)) (number : ℕ) (name : List ℕ) (names : List (List ℕ)) → StandAt all number (name ∷ names) → StandAt all (suc number) names
stand_behind all number name names stand k lt =
    let e : suc number + k ≡ number + suc k = omega arith in
    subst (λ (n : ℕ). slice_index_or all n [] ≡ slice_index_or names k []) (sym e) (stand (suc k) (omega arith))

stand_here : (all : List (List ℕ)) (number : ℕ) (name : List ℕ) (names : List (List ℕ)) → StandAt all number (name ∷ names) → slice_index_or all number [] ≡ name
stand_here all number name names stand =
    let e : number + 0 ≡ number = omega arith in
    subst (λ (n : ℕ). slice_index_or all n [] ≡ name) e (stand 0 (omega arith))

-- the lines of the names whose first moment is t
abbrev pub lines_at : ℕ → (List ℕ → Option ℕ) → List (List ℕ) → List ℕ
lines_at t first names = flat_map (λ name. difference_line name t) (filter (λ name. is_moment t (first name)) names)

-- the lines of the differences at t
abbrev pub found_lines : (all : List (List ℕ)) → ℕ → List Difference → List ℕ
found_lines all t found = flat_map (line_of all) (filter (is_at t) found)

pub found_lines-append : (all : List (List ℕ)) (t : ℕ) (xs ys : List Difference) → found_lines all t (xs ++ ys) ≡ found_lines all t xs ++ found_lines all t ys
found_lines-append all t xs ys = ap (flat_map (line_of all)) (filter-append (is_at t) xs ys) ∙ flat_map-append (line_of all) (filter (is_at t) xs) (filter (is_at t) ys)

one_line : (all : List (List ℕ)) (t number : ℕ) (name : List ℕ) (o : Option ℕ) → slice_index_or all number [] ≡ name
    → found_lines all t (difference_of number o) ≡ flat_map (λ n. difference_line n t) (cond (is_moment t o) (name ∷ []) [])
one_line all t number name None is = refl
one_line all t number name (Some u) is =
    elim (u == t) as (λ b. (u == t) ≡ b → found_lines all t (difference_of number (Some u)) ≡ flat_map (λ n. difference_line n t) (cond (u == t) (name ∷ []) [])) [
      | true ↦ λ h. let at = eqb-true u t h in rw (h, is, at) refl
      | false ↦ λ h. rw h refl
    ] refl

filter_first : (p : List ℕ → Bool) (name : List ℕ) (names : List (List ℕ)) → filter p (name ∷ names) ≡ cond (p name) (name ∷ []) [] ++ filter p names
filter_first p name names =
    elim (p name) as (λ b. cond b (name ∷ filter p names) (filter p names) ≡ cond b (name ∷ []) [] ++ filter p names) [ true ↦ refl | false ↦ refl ]

pub lines_found : (all : List (List ℕ)) (t : ℕ) (first : List ℕ → Option ℕ) (number : ℕ) (names : List (List ℕ)) → StandAt all number names
    → found_lines all t (differences_in first number names) ≡ lines_at t first names
lines_found all t first number [] stand = refl
lines_found all t first number (name ∷ names) stand =
    let line : List ℕ → List ℕ = λ n. difference_line n t in
    let test : List ℕ → Bool = λ n. is_moment t (first n) in
    let here : found_lines all t (difference_of number (first name)) ≡ flat_map line (cond (test name) (name ∷ []) []) = one_line all t number name (first name) (stand_here all number name names stand) in
    let rest : found_lines all t (differences_in first (suc number) names) ≡ flat_map line (filter test names) = lines_found all t first (suc number) names (stand_behind all number name names stand) in
    found_lines-append all t (difference_of number (first name)) (differences_in first (suc number) names)
    ∙ rw (here, rest) (sym (ap (flat_map line) (filter_first test name names) ∙ flat_map-append line (cond (test name) (name ∷ []) []) (filter test names)))

-- one more of the names of a list
pub found_next : (first : List ℕ → Option ℕ) (number : ℕ) (names : List (List ℕ)) (i : ℕ) (name : List ℕ) (o : Option ℕ) → slice_get names i ≡ Some name → first name ≡ o
    → differences_in first number (take (i + 1) names) ≡ differences_in first number (take i names) ++ difference_of (number + i) o
found_next first number names i name o at is =
    let within = got_within names i name at in
    let long : length (take i names) ≡ i = length-take-le i names (omega arith) in
    ap (differences_in first number) (take_one_more names i name at) ∙ one_name_more first number (take i names) name
    ∙ ap (λ (n : ℕ). differences_in first number (take i names) ++ difference_of (number + n) (first name)) long
    ∙ ap (λ (p : Option ℕ). differences_in first number (take i names) ++ difference_of (number + i) p) is
