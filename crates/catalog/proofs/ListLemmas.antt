-- Lists: the first element that passes.
use Rattle.std.proofs.Common.{◌≡◌, ℕ, zero, suc, ◌+◌, ◌<◌, Bool, true, false, cond, List, [], ◌∷◌, length, get_or, Some, None, slice_get, AllPairs, sym, refl, ap, subst, ◌∙◌, arith}
use Rattle.std.proofs.lemmas.Option.{slice_get-get_or}
use Rattle.std.specs.List.{find, position_from}

-- The first element that passes.

position_from_start : {X : Type 0} (t : X → Bool) (k i : ℕ) (xs : List X) (d : X) → position_from t k xs ≡ Some i → (j : ℕ) × (k + j ≡ i) × (j < length xs) × (find t xs ≡ Some (get_or xs j d)) × (t (get_or xs j d) ≡ true)
position_from_start t k i [] d h = cc
position_from_start {X} t k i (x ∷ xs) d h = step (t x) refl (λ e. position_from_start t (k + 1) i xs d e) h
  where
    step : (b : Bool) → t x ≡ b → (position_from t (k + 1) xs ≡ Some i → (j : ℕ) × (k + 1 + j ≡ i) × (j < length xs) × (find t xs ≡ Some (get_or xs j d)) × (t (get_or xs j d) ≡ true)) → cond b (Some k) (position_from t (k + 1) xs) ≡ Some i →
        (j : ℕ) × (k + j ≡ i) × (j < suc (length xs)) × (cond b (Some x) (find t xs) ≡ Some (get_or (x ∷ xs) j d)) × (t (get_or (x ∷ xs) j d) ≡ true)
    step true at later e = let same : k ≡ i = cc in (0, omega arith, omega arith, refl, at)
    step false at later e = let found = later e in (suc found.0, omega (arith, found.1), omega (arith, found.2), found.3, found.4)

pub position_within : {X : Type 0} (t : X → Bool) (i : ℕ) (xs : List X) → position_from t 0 xs ≡ Some i → i < length xs
position_within t i [] h = cc
position_within {X} t i (x ∷ xs) h = let found = position_from_start t 0 i (x ∷ xs) x h in omega (arith, found.1, found.2)

-- the first element that passes stands at the position
pub position_find : {X : Type 0} (t : X → Bool) (i : ℕ) (xs : List X) (d : X) → position_from t 0 xs ≡ Some i → (find t xs ≡ Some (get_or xs i d)) × (t (get_or xs i d) ≡ true)
position_find {X} t i xs d h =
    let found = position_from_start t 0 i xs d h in
    let same : found.0 ≡ i = omega (arith, found.1) in
    let P : ℕ → Type 0 = λ j. (find t xs ≡ Some (get_or xs j d)) × (t (get_or xs j d) ≡ true) in
    subst P same (found.3, found.4)

pub position_slice_get : {X : Type 0} (t : X → Bool) (i : ℕ) (xs : List X) → position_from t 0 xs ≡ Some i → slice_get xs i ≡ find t xs
position_slice_get t i [] h = cc
position_slice_get t i (x ∷ xs) h = slice_get-get_or (x ∷ xs) i x (position_within t i (x ∷ xs) h) ∙ sym (position_find t i (x ∷ xs) x h).0

pub position_none : {X : Type 0} (t : X → Bool) (k : ℕ) (xs : List X) → position_from t k xs ≡ None → find t xs ≡ None
position_none t k [] h = refl
position_none {X} t k (x ∷ xs) h = step (t x) (λ e. position_none t (k + 1) xs e) h
  where
    step : (b : Bool) → (position_from t (k + 1) xs ≡ None → find t xs ≡ None) → cond b (Some k) (position_from t (k + 1) xs) ≡ None → cond b (Some x) (find t xs) ≡ None
    step true later e = cc
    step false later e = later e

pub find_none_at : {X : Type 0} (t : X → Bool) (xs : List X) → find t xs ≡ None → (k : ℕ) (d : X) → k < length xs → t (get_or xs k d) ≡ false
find_none_at t [] h k d within = absurd (omega arith)
find_none_at {X} t (x ∷ xs) h k d within = step (t x) refl (λ e. find_none_at t xs e) h k within
  where
    step : (b : Bool) → t x ≡ b → (find t xs ≡ None → (j : ℕ) (e : X) → j < length xs → t (get_or xs j e) ≡ false) → cond b (Some x) (find t xs) ≡ None → (j : ℕ) → j < suc (length xs) → t (get_or (x ∷ xs) j d) ≡ false
    step true at later e j low = cc
    step false at later e zero low = at
    step false at later e (suc j) low = later e j d (omega arith)

pub find_none_from : {X : Type 0} (t : X → Bool) (xs : List X) → ((k : ℕ) (d : X) → k < length xs → t (get_or xs k d) ≡ false) → find t xs ≡ None
find_none_from t [] h = refl
find_none_from t (x ∷ xs) h = rw (h zero x (omega arith)) (find_none_from t xs (λ k d within. h (suc k) d (omega arith)))

-- what the element of each place that passes is, the found one is
pub find_passes : {X : Type 0} (t : X → Bool) (xs : List X) (x : X) → find t xs ≡ Some x → t x ≡ true
find_passes t [] x h = cc
find_passes {X} t (y ∷ xs) x h = step (t y) refl (λ e. find_passes t xs x e) h
  where
    step : (b : Bool) → t y ≡ b → (find t xs ≡ Some x → t x ≡ true) → cond b (Some y) (find t xs) ≡ Some x → t x ≡ true
    step true at later e = let same : y ≡ x = cc in ap t (sym same) ∙ at
    step false at later e = later e

-- where the first element that passes stands
pub find_at : {X : Type 0} (t : X → Bool) (xs : List X) (x : X) → find t xs ≡ Some x → (k : ℕ) × (k < length xs) × (get_or xs k x ≡ x)
find_at t [] x h = cc
find_at {X} t (y ∷ xs) x h = step (t y) (λ e. find_at t xs x e) h
  where
    step : (b : Bool) → (find t xs ≡ Some x → (k : ℕ) × (k < length xs) × (get_or xs k x ≡ x)) → cond b (Some y) (find t xs) ≡ Some x → (k : ℕ) × (k < suc (length xs)) × (get_or (y ∷ xs) k x ≡ x)
    step true later e = let same : y ≡ x = cc in (0, omega arith, same)
    step false later e = let found = later e in (suc found.0, omega (arith, found.1), found.2)

pub AllPairs-tail : {X : Type 0} (R : X → X → Type 0) (x : X) (xs : List X) → AllPairs R (x ∷ xs) → AllPairs R xs
AllPairs-tail R x xs h = λ i j d below within. h (suc i) (suc j) d (omega arith) (omega arith)

-- the first element that passes, as it was read
pub find_read : {X : Type 0} (t : X → Bool) (xs : List X) (i : ℕ) (x : X) → position_from t 0 xs ≡ Some i → x ≡ get_or xs i x → find t xs ≡ Some x
find_read t xs i x h read = (position_find t i xs x h).0 ∙ ap Some (sym read)

pub slice_get_some : {X : Type 0} (xs : List X) (i : ℕ) → i < length xs → (x : X) × (slice_get xs i ≡ Some x)
slice_get_some [] i within = absurd (omega arith)
slice_get_some (x ∷ xs) zero within = (x, refl)
slice_get_some (x ∷ xs) (suc i) within = slice_get_some xs i (omega arith)
