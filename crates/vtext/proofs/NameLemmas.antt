-- Names and their texts: what is found in a list of texts is found in the list of their bytes.
use Rattle.std.proofs.Common.{◌≡◌, ℕ, ◌+◌, ◌++◌, Bool, true, false, not, cond, ◌||◌, List, [], ◌∷◌, map, refl, ap}
use Rattle.std.proofs.lemmas.List.{length-map, map-append}
use Rattle.std.specs.List.{position, position_or_len, list_any}
use Rattle.std.specs.Str.{bytes_eq}
use Rattle.indexmap.specs.IndexSet.{insert_key}
use Rattle.vtext.specs.Names.{with_name}

pub first_mapped : {A B : Type 0} (f : A → B) (p : B → Bool) (xs : List A) → position_or_len p (map f xs) ≡ position_or_len (λ x. p (f x)) xs
first_mapped f p [] = refl
first_mapped f p (x ∷ xs) = ap (λ n. cond (not (p (f x))) (1 + n) 0) (first_mapped f p xs)

pub any_mapped : {A B : Type 0} (f : A → B) (p : B → Bool) (xs : List A) → list_any p (map f xs) ≡ list_any (λ x. p (f x)) xs
any_mapped f p [] = refl
any_mapped f p (x ∷ xs) = ap (λ b. p (f x) || b) (any_mapped f p xs)

pub texts_found : {A B : Type 0} (f : A → B) (p : B → Bool) (xs : List A) → position p (map f xs) ≡ position (λ x. p (f x)) xs
texts_found f p xs = rw (first_mapped f p xs, length-map) refl

-- A name more.

name_stays : {A : Type 0} (f : A → List ℕ) (xs : List A) (x : A) (there : Bool) → map f (cond there xs (xs ++ x ∷ [])) ≡ cond there (map f xs) (map f xs ++ f x ∷ [])
name_stays f xs x true = refl
name_stays f xs x false = map-append f xs (x ∷ [])

pub text_added : {A : Type 0} (f : A → List ℕ) (xs : List A) (x : A) (name : List ℕ) → f x ≡ name → map f (insert_key (λ a b. bytes_eq (f a) (f b)) xs x) ≡ with_name (map f xs) name
text_added f xs x name e = rw (← e, any_mapped f (bytes_eq (f x)) xs) (name_stays f xs x (list_any (λ y. bytes_eq (f x) (f y)) xs))
