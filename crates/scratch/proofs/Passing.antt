-- The places of the elements that pass a test, and what stands there.
use Rattle.std.proofs.Common.{◌≡◌, ◌<◌, ◌∙◌, sym, ap, subst, refl, Bool, true, false, ℕ, zero, suc, ◌+◌, List, [], ◌∷◌, ◌++◌, map, drop, take, length, Option, Some, None, slice_get, add-one, arith}
use Rattle.std.specs.Prelude.{◌||◌}
use Rattle.std.specs.List.{filter, range_with_len}
use Rattle.std.specs.Option.{option_map, option_map_or}
use Rattle.std.proofs.lemmas.List.{length-map, map-append}
use Rattle.std.proofs.lemmas.Option.{slice_get-map, slice_get_within}
use Rattle.scratch.specs.kept.Places.{AreRising, has, passing}
use Rattle.scratch.proofs.Among.{absent, nat_beyond, nat_itself, rising_from, same_members}
use Rattle.scratch.proofs.Lists.{take_next}
use Rattle.scratch.proofs.Moments.{map_twice}
use Rattle.scratch.proofs.Places.{front_of_drop, rest_of_drop}

module _ {X : Type 0} (test : X → Bool) where
  rises_by : (a : ℕ) (x : X) (xs : List X) (b : Bool) → test x ≡ b → AreRising (a + 1) (passing test (a + 1) xs) → AreRising a (passing test a (x ∷ xs))
  rises_by a x xs true t later = let e : a + 1 ≡ suc a = omega arith in rw t (omega arith, subst (λ z. AreRising z (passing test (a + 1) xs)) e later)
  rises_by a x xs false t later = rw t (rising_from (a + 1) a (passing test (a + 1) xs) (omega arith) later)

  pub passing_rises : (a : ℕ) (xs : List X) → AreRising a (passing test a xs)
  passing_rises a [] = tt
  passing_rises a (x ∷ xs) = rises_by a x xs (test x) refl (passing_rises (a + 1) xs)

  has_first : (a : ℕ) (x : X) (xs : List X) (b : Bool) → test x ≡ b → has a (passing test a (x ∷ xs)) ≡ b
  has_first a x xs true t = rw t (ap (λ (c : Bool). c || has a (passing test (a + 1) xs)) (nat_itself a))
  has_first a x xs false t = rw t (absent a (a + 1) (passing test (a + 1) xs) (passing_rises (a + 1) xs) (omega arith))

  has_later : (a k : ℕ) (x : X) (xs : List X) (b : Bool) → test x ≡ b → a < k → has k (passing test a (x ∷ xs)) ≡ has k (passing test (a + 1) xs)
  has_later a k x xs true t low = rw t (ap (λ (c : Bool). c || has k (passing test (a + 1) xs)) (nat_beyond k a low))
  has_later a k x xs false t low = rw t refl

  has_from : (a k : ℕ) (xs : List X) → has (a + k) (passing test a xs) ≡ option_map_or test (slice_get xs k) false
  has_from a k [] = refl
  has_from a zero (x ∷ xs) =
      let e : a + 0 ≡ a = omega arith in
      rw e (has_first a x xs (test x) refl)
  has_from a (suc k) (x ∷ xs) =
      let e : a + suc k ≡ a + 1 + k = omega arith in
      has_later a (a + suc k) x xs (test x) refl (omega arith) ∙ ap (λ m. has m (passing test (a + 1) xs)) e ∙ has_from (a + 1) k xs

  -- a place is among them where its element passes
  pub has_place : (xs : List X) (k : ℕ) → has k (passing test 0 xs) ≡ option_map_or test (slice_get xs k) false
  has_place xs k = let e : 0 + k ≡ k = omega arith in ap (λ m. has m (passing test 0 xs)) (sym e) ∙ has_from 0 k xs

  -- rising places are those of the elements that pass, if just those are among them
  pub are_passing : (ks : List ℕ) (xs : List X) → AreRising 0 ks → ((k : ℕ) → has k ks ≡ option_map_or test (slice_get xs k) false) → ks ≡ passing test 0 xs
  are_passing ks xs r h = same_members 0 0 ks (passing test 0 xs) r (passing_rises 0 xs) (λ k. h k ∙ sym (has_place xs k))

  in_by : (o : Option X) → option_map_or test o false ≡ true → (x : X) × (o ≡ Some x)
  in_by None h = absurd (cc)
  in_by (Some x) h = (x, refl)

  -- an element that passes is there
  pub in_list : (xs : List X) (k : ℕ) → option_map_or test (slice_get xs k) false ≡ true → k < length xs
  in_list xs k h = let f = in_by (slice_get xs k) h in slice_get_within xs k f.0 f.1

module _ {X Y : Type 0} (test : X → Bool) (f : X → Y) where
  slices_by : (a : ℕ) (x : X) (xs : List X) (ys : List Y) (b : Bool) → test x ≡ b → drop a ys ≡ f x ∷ map f xs →
      map (slice_get ys) (passing test (a + 1) xs) ≡ map (λ z. Some (f z)) (filter test xs) →
      map (slice_get ys) (passing test a (x ∷ xs)) ≡ map (λ z. Some (f z)) (filter test (x ∷ xs))
  slices_by a x xs ys true t e later = rw (t, front_of_drop a ys (f x) (map f xs) e) (ap (λ l. Some (f x) ∷ l) later)
  slices_by a x xs ys false t e later = rw t later

  -- what is at the places of the elements that pass
  pub slices : (a : ℕ) (xs : List X) (ys : List Y) → drop a ys ≡ map f xs → map (slice_get ys) (passing test a xs) ≡ map (λ z. Some (f z)) (filter test xs)
  slices a [] ys e = refl
  slices a (x ∷ xs) ys e = slices_by a x xs ys (test x) refl e (slices (a + 1) xs ys (rest_of_drop a ys (f x) (map f xs) e))

  module _ (xs : List X) (ks : List ℕ) (ys : List Y) (places : ks ≡ passing test 0 xs) (values : ys ≡ map f (filter test xs)) where
    paired : map (slice_get (map f xs)) ks ≡ map (λ y. Some y) ys
    paired = ap (map (slice_get (map f xs))) places ∙ slices 0 xs (map f xs) refl ∙ sym (map_twice f (λ y. Some y) (filter test xs)) ∙ ap (map (λ y. Some y)) (sym values)

    -- a value beside a place is what is there
    pub value_at_place : (i k : ℕ) (y : Y) → slice_get ks i ≡ Some k → slice_get ys i ≡ Some y → slice_get (map f xs) k ≡ Some y
    value_at_place i k y here there =
        let left : slice_get (map (slice_get (map f xs)) ks) i ≡ Some (slice_get (map f xs) k) = slice_get-map (slice_get (map f xs)) ks i ∙ ap (option_map (slice_get (map f xs))) here in
        let right : slice_get (map (λ y. Some y) ys) i ≡ Some (Some y) = slice_get-map (λ y. Some y) ys i ∙ ap (option_map (λ y. Some y)) there in
        let both : Some (slice_get (map f xs) k) ≡ Some (Some y) = sym left ∙ ap (λ l. slice_get l i) paired ∙ right in
        cc

    pub as_many_values : length ys ≡ length ks
    as_many_values = sym (length-map ys (λ y. Some y)) ∙ ap length (sym paired) ∙ length-map ks (slice_get (map f xs))

-- one place more is read
pub read_more : {Y : Type 0} (values : List Y) (places : List ℕ) (i p : ℕ) (y : Y) (prev now : List Y) → slice_get places i ≡ Some p → slice_get values p ≡ Some y → now ≡ prev ++ y ∷ [] →
    map (λ z. Some z) prev ≡ map (slice_get values) (take i places) → map (λ z. Some z) now ≡ map (slice_get values) (take (i + 1) places)
read_more values places i p y prev now at there is before =
    ap (map (λ z. Some z)) is ∙ map-append (λ z. Some z) prev (y ∷ []) ∙ ap (λ l. l ++ Some y ∷ []) before ∙ ap (λ o. map (slice_get values) (take i places) ++ o ∷ []) (sym there)
    ∙ sym (map-append (slice_get values) (take i places) (p ∷ [])) ∙ ap (map (slice_get values)) (sym (take_next places i p at))

-- where every element passes, the places are all there are
pub all_places : {X : Type 0} (a : ℕ) (xs : List X) → passing (λ _. true) a xs ≡ range_with_len a (length xs)
all_places a [] = refl
all_places a (x ∷ xs) = ap (λ l. a ∷ l) (all_places (a + 1) xs)

range_from : (a n : ℕ) → range_with_len a (suc n) ≡ range_with_len a n ++ (a + n) ∷ []
range_from a zero = let e : a + 0 ≡ a = omega arith in rw e refl
range_from a (suc n) =
    let e : a + suc n ≡ a + 1 + n = omega arith in
    ap (λ l. a ∷ l) (range_from (a + 1) n) ∙ ap (λ m. a ∷ range_with_len (a + 1) n ++ m ∷ []) (sym e)

pub one_place_more : (n : ℕ) → range_with_len 0 (n + 1) ≡ range_with_len 0 n ++ n ∷ []
one_place_more n = let e : 0 + n ≡ n = omega arith in rw add-one (range_from 0 n ∙ ap (λ m. range_with_len 0 n ++ m ∷ []) e)
