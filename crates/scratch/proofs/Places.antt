-- Places in a list: what stands at the place of an element, and what a walk by places gives.
use Rattle.std.proofs.Common.{◌≡◌, ap, refl, Bool, true, false, ℕ, zero, suc, ◌+◌, List, [], ◌∷◌, map, drop, Some, slice_get, unwrap_or, add-one}
use Rattle.std.specs.List.{filter, find, position_from, enumerate_from}
use Rattle.std.specs.Option.{option_map_or}

-- the element that a drop leaves in front
pub front_of_drop : {A : Type 0} (k : ℕ) (ys : List A) (y : A) (zs : List A) → drop k ys ≡ y ∷ zs → slice_get ys k ≡ Some y
front_of_drop zero [] y zs e = cc
front_of_drop zero (w ∷ ys) y zs e = cc
front_of_drop (suc k) [] y zs e = cc
front_of_drop (suc k) (w ∷ ys) y zs e = front_of_drop k ys y zs e

-- and what it leaves behind that
pub rest_of_drop : {A : Type 0} (k : ℕ) (ys : List A) (y : A) (zs : List A) → drop k ys ≡ y ∷ zs → drop (k + 1) ys ≡ zs
rest_of_drop zero [] y zs e = cc
rest_of_drop zero (w ∷ ys) y zs e = cc
rest_of_drop (suc k) [] y zs e = cc
rest_of_drop (suc k) (w ∷ ys) y zs e = rw add-one (rw add-one at (rest_of_drop k ys y zs e))

module _ {A B : Type 0} (p : A → Bool) (f : A → B) (d : B) where
  at_place_by : (k : ℕ) (x : A) (xs : List A) (ys : List B) (b : Bool) → p x ≡ b → drop k ys ≡ f x ∷ map f xs →
      option_map_or (λ i. unwrap_or (slice_get ys i) d) (position_from p (k + 1) xs) d ≡ option_map_or f (find p xs) d →
      option_map_or (λ i. unwrap_or (slice_get ys i) d) (position_from p k (x ∷ xs)) d ≡ option_map_or f (find p (x ∷ xs)) d
  at_place_by k x xs ys true t e later = rw (t, front_of_drop k ys (f x) (map f xs) e) refl
  at_place_by k x xs ys false t e later = rw t later

  -- the value at the place of the first element that passes
  pub at_place : (k : ℕ) (xs : List A) (ys : List B) → drop k ys ≡ map f xs →
      option_map_or (λ i. unwrap_or (slice_get ys i) d) (position_from p k xs) d ≡ option_map_or f (find p xs) d
  at_place k [] ys e = refl
  at_place k (x ∷ xs) ys e = at_place_by k x xs ys (p x) refl e (at_place (k + 1) xs ys (rest_of_drop k ys (f x) (map f xs) e))

  by_places_by : (k : ℕ) (x : A) (xs : List A) (ys : List B) (b : Bool) → p x ≡ b → drop k ys ≡ f x ∷ map f xs →
      map (λ i. unwrap_or (slice_get ys i) d) (map (λ q. q.0) (filter (λ q. p q.1) (enumerate_from (k + 1) xs))) ≡ map f (filter p xs) →
      map (λ i. unwrap_or (slice_get ys i) d) (map (λ q. q.0) (filter (λ q. p q.1) (enumerate_from k (x ∷ xs)))) ≡ map f (filter p (x ∷ xs))
  by_places_by k x xs ys true t e later = rw (t, front_of_drop k ys (f x) (map f xs) e) (ap (λ l. f x ∷ l) later)
  by_places_by k x xs ys false t e later = rw t later

  -- the values at the places of the elements that pass
  pub by_places : (k : ℕ) (xs : List A) (ys : List B) → drop k ys ≡ map f xs →
      map (λ i. unwrap_or (slice_get ys i) d) (map (λ q. q.0) (filter (λ q. p q.1) (enumerate_from k xs))) ≡ map f (filter p xs)
  by_places k [] ys e = refl
  by_places k (x ∷ xs) ys e = by_places_by k x xs ys (p x) refl e (by_places (k + 1) xs ys (rest_of_drop k ys (f x) (map f xs) e))
