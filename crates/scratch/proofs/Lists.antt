-- Lists: side by side, and as they grow; and answers of calls.
use Rattle.std.proofs.Common.{◌≡◌, ◌<◌, ◌≤◌, ap, refl, ℕ, zero, suc, ◌+◌, List, [], ◌∷◌, ◌++◌, map, take, length, Option, Some, None, IfSome, subst, slice_get, add-one, arith, Result, Ok, Err, OnOk, ◌∙◌}
use Rattle.std.specs.List.{zip}
use Rattle.std.proofs.lemmas.List.{take_more}
use Rattle.std.proofs.lemmas.Option.{slice_get_within, get_or_from_slice_get}

pub zip_whole : {A B : Type 0} (xs : List A) (ys : List B) (i : ℕ) → length xs ≤ i → take i (zip xs ys) ≡ zip xs ys
zip_whole [] ys zero past = refl
zip_whole [] ys (suc i) past = refl
zip_whole (w ∷ xs) [] zero past = refl
zip_whole (w ∷ xs) [] (suc i) past = refl
zip_whole (w ∷ xs) (z ∷ ys) zero past = absurd (omega arith)
zip_whole (w ∷ xs) (z ∷ ys) (suc i) past = ap (λ l. (w, z) ∷ l) (zip_whole xs ys i (omega arith))

-- a map over two lists made from one
pub map_zip : {A B C D : Type 0} (f : A → B) (h : A → C) (k : B → C → D) (xs : List A) → map (λ p. k p.0 p.1) (zip (map f xs) (map h xs)) ≡ map (λ x. k (f x) (h x)) xs
map_zip f h k [] = refl
map_zip f h k (x ∷ xs) = ap (λ l. k (f x) (h x) ∷ l) (map_zip f h k xs)

-- one pair more
pub zip_next : {A B : Type 0} (xs : List A) (ys : List B) (i : ℕ) (x : A) (y : B) → slice_get xs i ≡ Some x → slice_get ys i ≡ Some y →
    take (i + 1) (zip xs ys) ≡ take i (zip xs ys) ++ (x, y) ∷ []
zip_next [] ys i x y atx aty = absurd (cc)
zip_next (w ∷ xs) [] i x y atx aty = absurd (cc)
zip_next (w ∷ xs) (z ∷ ys) zero x y atx aty = cc
zip_next (w ∷ xs) (z ∷ ys) (suc i) x y atx aty = rw add-one (ap (λ l. (w, z) ∷ l) (rw add-one at (zip_next xs ys i x y atx aty)))

-- Lists as they grow.

pub map_alike : {A B : Type 0} (f g : A → B) → ((x : A) → f x ≡ g x) → (xs : List A) → map f xs ≡ map g xs
map_alike f g alike [] = refl
map_alike f g alike (x ∷ xs) = rw (alike x) (ap (λ l. g x ∷ l) (map_alike f g alike xs))

-- one element more
pub take_next : {A : Type 0} (xs : List A) (i : ℕ) (x : A) → slice_get xs i ≡ Some x → take (i + 1) xs ≡ take i xs ++ x ∷ []
take_next xs i x at = take_more xs i x (slice_get_within xs i x at) ∙ ap (λ y. take i xs ++ y ∷ []) (get_or_from_slice_get xs i x x at)

-- a list for each element so far
pub same_for_each : {A B : Type 0} (b : B) (xs : List A) (i : ℕ) → i < length xs → map (λ _. b) (take (i + 1) xs) ≡ map (λ _. b) (take i xs) ++ b ∷ []
same_for_each b [] i below = absurd (omega arith)
same_for_each b (x ∷ xs) zero below = refl
same_for_each b (x ∷ xs) (suc i) below = rw add-one (ap (λ l. b ∷ l) (rw add-one at (same_for_each b xs i (omega arith))))

-- lists with the same elements, each put into an option
pub same_put : {A : Type 0} (xs ys : List A) → map (λ x. Some x) xs ≡ map (λ y. Some y) ys → xs ≡ ys
same_put [] [] e = refl
same_put [] (y ∷ ys) e = cc
same_put (x ∷ xs) [] e = cc
same_put {A} (x ∷ xs) (y ∷ ys) e =
    let first : x ≡ y = cc in
    let rest : map (λ z. Some z) xs ≡ map (λ z. Some z) ys = cc in
    let tails : xs ≡ ys = same_put xs ys rest in
    λ i. first i ∷ tails i

-- what holds of what is there holds if there is one, and the other way round
pub if_there : {X : Type 0} (o : Option X) (x : X) (P : X → Type 0) → o ≡ Some x → P x → IfSome o P
if_there o x P e p = rw e p

pub of_there : {X : Type 0} (o : Option X) (x : X) (P : X → Type 0) → o ≡ Some x → IfSome o P → P x
of_there None x P e p = cc
of_there (Some y) x P e p = let same : y ≡ x = cc in subst P same p

-- what holds anyway holds on an `Ok`
pub on_ok : {A E P : Type 0} (r : Result A E) → P → OnOk r P
on_ok (Ok x) p = p
on_ok (Err e) p = tt

-- what follows from two things that an `Ok` tells
pub both_ok : {A E P Q R : Type 0} (r : Result A E) → OnOk r P → OnOk r Q → (P → Q → R) → OnOk r R
both_ok (Ok x) p q follows = follows p q
both_ok (Err e) p q follows = tt
