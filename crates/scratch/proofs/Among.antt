-- Places among places.
use Rattle.std.proofs.Common.{◌≡◌, ◌<◌, ◌≤◌, ◌∙◌, sym, ap, refl, Bool, true, false, cond, ℕ, zero, suc, ◌+◌, List, [], ◌∷◌, ◌++◌, length, take, get_or, Some, slice_get, arith, ◌⊎◌, inl, inr, All}
use Rattle.std.specs.Cmp.{both_ways, nat_eq_equiv}
use Rattle.std.specs.List.{Contains, filter, list_any}
use Rattle.std.specs.Prelude.{nat_eq, ◌||◌, ◌&&◌}
use Rattle.std.proofs.lemmas.Bool.Decides.{nat_tests}
use Rattle.std.proofs.lemmas.List.Folds.{list_any-append}
use Rattle.std.proofs.lemmas.Map.Views.{All-from_any, Contains-from_any, list_any-from_Contains, exact_unsigned_eq}
use Rattle.std.proofs.lemmas.Option.{slice_get-get_or}
use Rattle.std.proofs.lemmas.Bool.{eqb-true, or_parts}
use Rattle.std.proofs.Math.Bool.{or-false, or_assoc, and-false}
use Rattle.scratch.specs.kept.Places.{AreRising, has}
use Rattle.scratch.proofs.Lists.{take_next}

pub nat_itself : (k : ℕ) → nat_eq k k ≡ true
nat_itself k = grind (arith, nat_tests)

pub nat_apart : (k j : ℕ) → k < j → nat_eq k j ≡ false
nat_apart k j h = grind (arith, nat_tests)

pub nat_beyond : (k j : ℕ) → j < k → nat_eq k j ≡ false
nat_beyond k j h = grind (arith, nat_tests)

-- What a test finds in a list.

abbrev pub Found : {X : Type 0} → (X → Bool) → List X → Type 0
Found {X} test xs = (k : ℕ) × (x : X) × (slice_get xs k ≡ Some x) × (test x ≡ true)

found_by : {X : Type 0} (test : X → Bool) (w : X) (xs : List X) (b : Bool) → test w ≡ b → (list_any test xs ≡ true → Found test xs) → (b || list_any test xs) ≡ true → Found test (w ∷ xs)
found_by test w xs true is later h = (0, w, refl, is)
found_by test w xs false is later h = let f = later h in (suc f.0, f.1, f.2, f.3)

pub any_from : {X : Type 0} (test : X → Bool) (xs : List X) → list_any test xs ≡ true → Found test xs
any_from test [] h = absurd (cc)
any_from test (w ∷ xs) h = found_by test w xs (test w) refl (any_from test xs) h

pub has_at : (k : ℕ) (ks : List ℕ) → has k ks ≡ true → (i : ℕ) × (slice_get ks i ≡ Some k)
has_at k ks h = let f = any_from (nat_eq k) ks h in (f.0, f.2 ∙ ap (λ x. Some x) (sym (eqb-true k f.1 f.3)))

has_filter_by : (p : ℕ → Bool) (k j : ℕ) (ks : List ℕ) (b : Bool) → p j ≡ b → (c : Bool) → nat_eq k j ≡ c → has k (filter p ks) ≡ (has k ks && p k) →
    has k (cond b (j ∷ filter p ks) (filter p ks)) ≡ ((c || has k ks) && p k)
has_filter_by p k j ks true is true same rest =
    let e : k ≡ j = eqb-true k j same in
    ap (λ (x : Bool). x || has k (filter p ks)) same ∙ sym (ap p e ∙ is)
has_filter_by p k j ks true is false same rest = ap (λ (x : Bool). x || has k (filter p ks)) same ∙ rest
has_filter_by p k j ks false is true same rest =
    let e : k ≡ j = eqb-true k j same in
    let none : p k ≡ false = ap p e ∙ is in
    rest ∙ ap (λ (x : Bool). has k ks && x) none ∙ and-false (has k ks) ∙ sym none
has_filter_by p k j ks false is false same rest = rest

pub has_filter : (p : ℕ → Bool) (k : ℕ) (ks : List ℕ) → has k (filter p ks) ≡ (has k ks && p k)
has_filter p k [] = refl
has_filter p k (j ∷ ks) = has_filter_by p k j ks (p j) refl (nat_eq k j) refl (has_filter p k ks)

-- places are in range where only places in range are among them
pub in_range : (ks : List ℕ) (n : ℕ) → ((k : ℕ) → has k ks ≡ true → k < n) → All (λ k. k < n) ks
in_range ks n h = All-from_any nat_eq_equiv (λ k. k < n) ks h

-- one place more
pub has_more : (k p : ℕ) (ks : List ℕ) → has k (ks ++ p ∷ []) ≡ (has k ks || nat_eq k p)
has_more k p ks = list_any-append (nat_eq k) ks (p ∷ []) ∙ ap (λ (b : Bool). has k ks || b) (or-false (nat_eq k p))

pub has_next : (k : ℕ) (ks : List ℕ) (i : ℕ) → i < length ks → has k (take (i + 1) ks) ≡ (has k (take i ks) || nat_eq k (get_or ks i 0))
has_next k ks i low = ap (has k) (take_next ks i (get_or ks i 0) (slice_get-get_or ks i 0 low)) ∙ has_more k (get_or ks i 0) (take i ks)

-- a place that is in neither of two lists
pub in_neither : (k : ℕ) (xs ys : List ℕ) → has k (xs ++ ys) ≡ false → (has k xs ≡ false) × (has k ys ≡ false)
in_neither k xs ys off = or_parts (has k xs) (has k ys) (sym (list_any-append (nat_eq k) xs ys) ∙ off)

pub any_more : {X : Type 0} (f : X → Bool) (xs : List X) (i : ℕ) (x : X) → slice_get xs i ≡ Some x → list_any f (take (i + 1) xs) ≡ (list_any f (take i xs) || f x)
any_more f xs i x at =
    ap (list_any f) (take_next xs i x at) ∙ list_any-append f (take i xs) (x ∷ []) ∙ ap (λ (b : Bool). list_any f (take i xs) || b) (or-false (f x))

-- a set to which the places of one element more are added
pub bits_more : {X : Type 0} (k : ℕ) (f : X → List ℕ) (xs : List X) (i : ℕ) (x : X) (first prev now : Bool) → slice_get xs i ≡ Some x → now ≡ (prev || has k (f x)) →
    prev ≡ (first || list_any (λ y. has k (f y)) (take i xs)) → now ≡ (first || list_any (λ y. has k (f y)) (take (i + 1) xs))
bits_more k f xs i x first prev now at is before =
    is ∙ ap (λ (b : Bool). b || has k (f x)) before ∙ or_assoc first (list_any (λ y. has k (f y)) (take i xs)) (has k (f x))
    ∙ ap (λ (b : Bool). first || b) (sym (any_more (λ y. has k (f y)) xs i x at))

-- Rising places.

-- no place below a is among places that rise from a on
pub absent : (k a : ℕ) (ks : List ℕ) → AreRising a ks → k < a → has k ks ≡ false
absent k a [] r h = refl
absent k a (j ∷ ks) r h =
    let low = r.0 in
    ap (λ (b : Bool). b || has k ks) (nat_apart k j (omega arith)) ∙ absent k (suc j) ks r.1 (omega arith)

pub rising_from : (a b : ℕ) (ks : List ℕ) → b ≤ a → AreRising a ks → AreRising b ks
rising_from a b [] h r = tt
rising_from a b (k ∷ ks) h r = let low = r.0 in (omega arith, r.1)

from_first : (a : ℕ) (ks : List ℕ) (i k : ℕ) → AreRising a ks → slice_get ks i ≡ Some k → a ≤ k
from_first a [] i k r at = absurd (cc)
from_first a (j ∷ ks) zero k r at = let e : j ≡ k = cc in let low = r.0 in omega arith
from_first a (j ∷ ks) (suc i) k r at = let low = r.0 in let later = from_first (suc j) ks i k r.1 at in omega arith

-- a place is not among those before it
pub once : (a : ℕ) (ks : List ℕ) (i k : ℕ) → AreRising a ks → slice_get ks i ≡ Some k → has k (take i ks) ≡ false
once a [] i k r at = absurd (cc)
once a (j ∷ ks) zero k r at = refl
once a (j ∷ ks) (suc i) k r at =
    let later = from_first (suc j) ks i k r.1 at in
    ap (λ (b : Bool). b || has k (take i ks)) (nat_beyond k j (omega arith)) ∙ once (suc j) ks i k r.1 at

same_rest : (a b c : Bool) → a ≡ false → (a || b) ≡ (a || c) → b ≡ c
same_rest true b c h e = cc
same_rest false b c h e = e

more_of : (k : ℕ) (ks js : List ℕ) → AreRising (suc k) ks → AreRising (suc k) js → ((m : ℕ) → has m (k ∷ ks) ≡ has m (k ∷ js)) → (m : ℕ) (b : Bool) → nat_eq m k ≡ b → has m ks ≡ has m js
more_of k ks js r s h m true e =
    let same : m ≡ k = eqb-true m k e in
    rw same (absent k (suc k) ks r (omega arith) ∙ sym (absent k (suc k) js s (omega arith)))
more_of k ks js r s h m false e = same_rest (nat_eq m k) (has m ks) (has m js) e (h m)

differ : (k j : ℕ) (ks js : List ℕ) → AreRising (suc j) js → ((m : ℕ) → has m (k ∷ ks) ≡ has m (j ∷ js)) → k < j → false ≡ true
differ k j ks js s h low =
    let there : has k (k ∷ ks) ≡ true = ap (λ (b : Bool). b || has k ks) (nat_itself k) in
    let not_there : has k (j ∷ js) ≡ false = absent k j (j ∷ js) (omega arith, s) low in
    sym not_there ∙ sym (h k) ∙ there

same_first : (k j : ℕ) (ks js : List ℕ) → AreRising (suc k) ks → AreRising (suc j) js → ((m : ℕ) → has m (k ∷ ks) ≡ has m (j ∷ js)) → (k < j) ⊎ ((j < k) ⊎ (k ≡ j)) → k ≡ j
same_first k j ks js r s h (inl low) = absurd (let e = differ k j ks js s h low in cc)
same_first k j ks js r s h (inr (inl low)) = absurd (let e = differ j k js ks r (λ m. sym (h m)) low in cc)
same_first k j ks js r s h (inr (inr e)) = e

-- rising places are known by what is among them
pub same_members : (a b : ℕ) (ks js : List ℕ) → AreRising a ks → AreRising b js → ((k : ℕ) → has k ks ≡ has k js) → ks ≡ js
same_members a b [] [] r s h = refl
same_members a b [] (j ∷ js) r s h = absurd (let e = h j in let there : has j (j ∷ js) ≡ true = ap (λ (b : Bool). b || has j js) (nat_itself j) in cc)
same_members a b (k ∷ ks) [] r s h = absurd (let e = h k in let there : has k (k ∷ ks) ≡ true = ap (λ (b : Bool). b || has k ks) (nat_itself k) in cc)
same_members a b (k ∷ ks) (j ∷ js) r s h =
    let e : k ≡ j = same_first k j ks js r.1 s.1 h (search arith) in
    let s' : AreRising (suc k) js = rw e s.1 in
    let h' : (m : ℕ) → has m (k ∷ ks) ≡ has m (k ∷ js) = λ m. h m ∙ ap (λ z. has m (z ∷ js)) (sym e) in
    ap (λ l. k ∷ l) (same_members (suc k) (suc k) ks js r.1 s' (λ m. more_of k ks js r.1 s' h' m (nat_eq m k) refl)) ∙ ap (λ m. m ∷ js) e

-- lists with the same members
pub same_among : (xs ys : List ℕ) → ((x : ℕ) → Contains xs x → Contains ys x) → ((x : ℕ) → Contains ys x → Contains xs x) → (m : ℕ) → has m xs ≡ has m ys
same_among xs ys there back m =
    both_ways (has m xs) (has m ys)
    (λ h. list_any-from_Contains nat_eq_equiv m ys (there m (Contains-from_any exact_unsigned_eq m xs h)))
    (λ h. list_any-from_Contains nat_eq_equiv m xs (back m (Contains-from_any exact_unsigned_eq m ys h)))
