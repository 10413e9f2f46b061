-- Lists: the last element, and those that a test takes.
use Rattle.std.proofs.Common.{◌≡◌, ℕ, suc, zero, ◌-◌, ◌<◌, ◌≤◌, ◌∙◌, sym, ap, Bool, true, false, not, cond, Option, Some, None, List, [], ◌∷◌, ◌++◌, map, length, get_or, take, drop, refl, arith}
use Rattle.std.specs.Prelude.{slice_get, option_map, IfSome, ◌&&◌}
use Rattle.std.specs.List.{filter, find, last_or, All}
use Rattle.std.specs.List.Sorted.{IsPartitionPoint}
use Rattle.std.proofs.lemmas.Bool.{cond-true, cond-false}
use Rattle.std.proofs.lemmas.List.Elements.{All-head, All-tail}

pub last_or-append : {A : Type 0} (o : Option A) (xs ys : List A) → last_or o (xs ++ ys) ≡ last_or (last_or o xs) ys
last_or-append o [] ys = refl
last_or-append o (x ∷ xs) ys = last_or-append (Some x) xs ys

last_of_some : {A B : Type 0} (f : A → B) (x : A) (xs : List A) → last_or (Some (f x)) (map f xs) ≡ option_map f (slice_get (x ∷ xs) (length xs))
last_of_some f x [] = refl
last_of_some f x (y ∷ ys) = last_of_some f y ys

-- the last element of a list that is read through f, by its place
pub last_or-map : {A B : Type 0} (f : A → B) (xs : List A) → last_or None (map f xs) ≡ option_map f (slice_get xs (length xs - 1))
last_or-map f [] = refl
last_or-map f (x ∷ xs) =
    let place : suc (length xs) - 1 ≡ length xs = omega arith in
    rw place (last_of_some f x xs)

last_read_of : {A B : Type 0} (f : A → B) (y : A) (ys : List A) (x : A) → x ≡ get_or (y ∷ ys) (length ys) x → last_or (Some (f y)) (map f ys) ≡ Some (f x)
last_read_of f y [] x read = ap (λ z. Some (f z)) (sym read)
last_read_of f y (z ∷ zs) x read = last_read_of f z zs x read

-- the element read at the last place is the last one
pub last_read : {A B : Type 0} (f : A → B) (xs : List A) (x : A) → 0 < length xs → x ≡ get_or xs (length xs - 1) x → last_or None (map f xs) ≡ Some (f x)
last_read f [] x some read = absurd (omega arith)
last_read f (y ∷ ys) x some read =
    let place : suc (length ys) - 1 ≡ length ys = omega arith in
    last_read_of f y ys x (rw place at read)

-- the last element of a list that begins with x is some element of which P holds, if P holds of all
pub some_last : {A : Type 0} (P : A → Type 0) (x : A) (xs : List A) → P x → All P xs → (y : A) × (last_or (Some x) xs ≡ Some y) × P y
some_last P x [] one all = (x, refl, one)
some_last P x (y ∷ ys) one all = some_last P y ys (All-head P y ys all) (All-tail P y ys all)

-- a test takes the first element
pub taken : {A : Type 0} (p : A → Bool) (x : A) (xs : List A) → p x ≡ true → filter p (x ∷ xs) ≡ x ∷ filter p xs
taken p x xs e = cond-true (p x) (x ∷ filter p xs) (filter p xs) e

-- a test leaves the first element out
pub left_out : {A : Type 0} (p : A → Bool) (x : A) (xs : List A) → p x ≡ false → filter p (x ∷ xs) ≡ filter p xs
left_out p x xs e = cond-false (p x) (x ∷ filter p xs) (filter p xs) e

-- a test takes all
pub filter-all : {A : Type 0} (p : A → Bool) (xs : List A) → All (λ x. p x ≡ true) xs → filter p xs ≡ xs
filter-all p [] all = refl
filter-all p (x ∷ xs) all =
    taken p x xs (All-head (λ y. p y ≡ true) x xs all) ∙ ap (λ ys. x ∷ ys) (filter-all p xs (All-tail (λ y. p y ≡ true) x xs all))

-- a test takes none
pub filter-none : {A : Type 0} (p : A → Bool) (xs : List A) → All (λ x. p x ≡ false) xs → filter p xs ≡ []
filter-none p [] all = refl
filter-none p (x ∷ xs) all =
    left_out p x xs (All-head (λ y. p y ≡ false) x xs all) ∙ filter-none p xs (All-tail (λ y. p y ≡ false) x xs all)

filter_map_by : {A B : Type 0} (f : A → B) (p : B → Bool) (x : A) (xs : List A) (b : Bool) → filter p (map f xs) ≡ map f (filter (λ y. p (f y)) xs) →
    cond b (f x ∷ filter p (map f xs)) (filter p (map f xs)) ≡ map f (cond b (x ∷ filter (λ y. p (f y)) xs) (filter (λ y. p (f y)) xs))
filter_map_by f p x xs true rest = ap (λ ys. f x ∷ ys) rest
filter_map_by f p x xs false rest = rest

-- read through f, what a test takes is what the test of what is read takes
pub filter-map : {A B : Type 0} (f : A → B) (p : B → Bool) (xs : List A) → filter p (map f xs) ≡ map f (filter (λ x. p (f x)) xs)
filter-map f p [] = refl
filter-map f p (x ∷ xs) = filter_map_by f p x xs (p (f x)) (filter-map f p xs)

-- two tests that agree take the same
pub filter-same : {A : Type 0} (p q : A → Bool) → ((x : A) → p x ≡ q x) → (xs : List A) → filter p xs ≡ filter q xs
filter-same p q same [] = refl
filter-same p q same (x ∷ xs) = rw (same x, filter-same p q same xs) refl

-- where the elements before a place are those that pass, a test takes the elements before the place
pub filter-front : {A : Type 0} (p : A → Bool) (xs : List A) (i : ℕ) → i ≤ length xs →
    IsPartitionPoint (λ x. p x ≡ true) (λ x. p x ≡ false) xs i → filter p xs ≡ take i xs
filter-front p [] zero within point = refl
filter-front p [] (suc i) within point = refl
filter-front p (x ∷ xs) zero within point =
    filter-none p (x ∷ xs) (λ k d low. point.1 k d (omega arith) low)
filter-front p (x ∷ xs) (suc i) within point =
    taken p x xs (point.0 0 x (omega arith) (omega arith))
    ∙ ap (λ ys. x ∷ ys) (filter-front p xs i (omega arith) (λ k d low high. point.0 (suc k) d (omega arith) (omega arith), λ k d low high. point.1 (suc k) d (omega arith) (omega arith)))

-- and the others are the elements from the place on
pub filter-back : {A : Type 0} (p q : A → Bool) → ((x : A) → q x ≡ not (p x)) → (xs : List A) (i : ℕ) → i ≤ length xs →
    IsPartitionPoint (λ x. p x ≡ true) (λ x. p x ≡ false) xs i → filter q xs ≡ drop i xs
filter-back p q other [] zero within point = refl
filter-back p q other [] (suc i) within point = refl
filter-back p q other (x ∷ xs) zero within point =
    filter-all q (x ∷ xs) (λ k d low. other (get_or (x ∷ xs) k d) ∙ ap not (point.1 k d (omega arith) low))
filter-back p q other (x ∷ xs) (suc i) within point =
    left_out q x xs (other x ∙ ap not (point.0 0 x (omega arith) (omega arith)))
    ∙ filter-back p q other xs i (omega arith) (λ k d low high. point.0 (suc k) d (omega arith) (omega arith), λ k d low high. point.1 (suc k) d (omega arith) (omega arith))

found_by : {A : Type 0} (p : A → Bool) (x : A) (xs : List A) (b : Bool) → find p xs ≡ slice_get (filter p xs) 0 →
    cond b (Some x) (find p xs) ≡ slice_get (cond b (x ∷ filter p xs) (filter p xs)) 0
found_by p x xs true rest = refl
found_by p x xs false rest = rest

-- the first element that passes is the first that a test takes
pub find_is : {A : Type 0} (p : A → Bool) (xs : List A) → find p xs ≡ slice_get (filter p xs) 0
find_is p [] = refl
find_is p (x ∷ xs) = found_by p x xs (p x) (find_is p xs)

found_among : {A : Type 0} (p q : A → Bool) (x : A) (xs : List A) (b : Bool) → find (λ y. p y && q y) xs ≡ find q (filter p xs) →
    cond (b && q x) (Some x) (find (λ y. p y && q y) xs) ≡ find q (cond b (x ∷ filter p xs) (filter p xs))
found_among p q x xs true rest = ap (cond (q x) (Some x)) rest
found_among p q x xs false rest = rest

-- the first element that passes both tests is the first that passes the second among those that pass the first
pub find-and : {A : Type 0} (p q : A → Bool) (xs : List A) → find (λ x. p x && q x) xs ≡ find q (filter p xs)
find-and p q [] = refl
find-and p q (x ∷ xs) = found_among p q x xs (p x) (find-and p q xs)

-- a list that has a last element is not empty
pub some_entry : {X : Type 0} (xs : List X) (d : X) → last_or None xs ≡ Some d → 0 < length xs
some_entry [] d e = absurd (cc)
some_entry (x ∷ xs) d e = omega arith

filter_twice : {A : Type 0} (p q : A → Bool) → ((y : A) → p y ≡ true → q y ≡ true) → (x : A) (xs : List A) (b c : Bool) → p x ≡ b → q x ≡ c →
    filter p (filter q xs) ≡ filter p xs → filter p (filter q (x ∷ xs)) ≡ filter p (x ∷ xs)
filter_twice p q weaker x xs true true e h rest =
    ap (filter p) (taken q x xs h) ∙ taken p x (filter q xs) e ∙ ap (λ ys. x ∷ ys) rest ∙ sym (taken p x xs e)
filter_twice p q weaker x xs true false e h rest = let also : q x ≡ true = weaker x e in absurd (cc)
filter_twice p q weaker x xs false true e h rest =
    ap (filter p) (taken q x xs h) ∙ left_out p x (filter q xs) e ∙ rest ∙ sym (left_out p x xs e)
filter_twice p q weaker x xs false false e h rest =
    ap (filter p) (left_out q x xs h) ∙ rest ∙ sym (left_out p x xs e)

-- a test takes the same of a list as of those that a weaker test takes
pub filter-filter : {A : Type 0} (p q : A → Bool) → ((x : A) → p x ≡ true → q x ≡ true) → (xs : List A) → filter p (filter q xs) ≡ filter p xs
filter-filter p q weaker [] = refl
filter-filter p q weaker (x ∷ xs) = filter_twice p q weaker x xs (p x) (q x) refl refl (filter-filter p q weaker xs)

found_with : {A : Type 0} (P : A → Type 0) (p : A → Bool) (x : A) (xs : List A) (b : Bool) → p x ≡ b → P x → IfSome (find p xs) P → IfSome (find p (x ∷ xs)) P
found_with P p x xs true e here later = rw e here
found_with P p x xs false e here later = rw e later

-- what holds of each element holds of one that is found
pub found_holds : {A : Type 0} (P : A → Type 0) (p : A → Bool) (xs : List A) → All P xs → IfSome (find p xs) P
found_holds P p [] all = tt
found_holds P p (x ∷ xs) all = found_with P p x xs (p x) refl (All-head P x xs all) (found_holds P p xs (All-tail P x xs all))

-- and of the last one
pub last_holds : {A : Type 0} (P : A → Type 0) (before : Option A) (xs : List A) → IfSome before P → All P xs → IfSome (last_or before xs) P
last_holds P before [] one all = one
last_holds P before (x ∷ xs) one all = last_holds P (Some x) xs (All-head P x xs all) (All-tail P x xs all)
