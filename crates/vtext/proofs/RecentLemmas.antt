-- A name is found where its text stands, since no two texts are the same.
use Rattle.std.proofs.Common.{◌≡◌, ◌<◌, ℕ, Bool, true, false, ltb, cond, List, Some, None, get_or, length, map, refl, sym, ap, ◌∙◌, arith}
use Rattle.std.specs.List.{IsDistinct, position_or_len, slice_get}
use Rattle.std.specs.Str.{bytes_eq}
use Rattle.std.proofs.lemmas.Bool.{true≢false}
use Rattle.std.proofs.lemmas.Bool.Decides.{nat_tests}
use Rattle.std.proofs.lemmas.List.Sums.{position_or_len_is}
use Rattle.std.proofs.lemmas.Map.Keys.{apart_from_distinct}
use Rattle.std.proofs.lemmas.Option.{get_or_from_slice_get, slice_get_within}
use Rattle.std.proofs.lemmas.Slice.Eq.{bytes_eq-Decides}
use Rattle.vtext.specs.Names.{number_of}
use Rattle.vtext.proofs.NameLemmas.{texts_found}
use Rattle.vtext.proofs.NumberLemmas.{is_itself}

module _ {A : Type 0} (f : A → List ℕ) (xs : List A) (i : ℕ) (x : A) where
  -- the texts before are others
  earlier : IsDistinct (λ a b. bytes_eq (f a) (f b)) xs → slice_get xs i ≡ Some x → (k : ℕ) → k < i → bytes_eq (f x) (f (get_or xs k x)) ≡ false
  earlier apart there k low = by (bytes_eq (f x) (f (get_or xs k x))) refl
    where
      by : (b : Bool) → bytes_eq (f x) (f (get_or xs k x)) ≡ b → b ≡ false
      by false is = refl
      by true is =
          let same : f x ≡ f (get_or xs k x) = (bytes_eq-Decides (f x) (f (get_or xs k x))).0 is in
          let here : get_or xs i x ≡ x = get_or_from_slice_get xs i x x there in
          let other : bytes_eq (f (get_or xs k x)) (f (get_or xs i x)) ≡ false = apart_from_distinct (λ a b. bytes_eq (f a) (f b)) xs k i x apart low (slice_get_within xs i x there) in
          let equal : bytes_eq (f (get_or xs k x)) (f (get_or xs i x)) ≡ true
          = ap (λ y. bytes_eq (f (get_or xs k x)) (f y)) here ∙ ap (λ (bytes : List ℕ). bytes_eq bytes (f x)) (sym same) ∙ is_itself (f x) in
          absurd (true≢false (sym equal ∙ other))

  pub text_stands : (name : List ℕ) → IsDistinct (λ a b. bytes_eq (f a) (f b)) xs → slice_get xs i ≡ Some x → f x ≡ name → number_of (map f xs) name ≡ Some i
  text_stands name apart there named =
      let within : i < length xs = slice_get_within xs i x there in
      let here : bytes_eq (f x) (f (get_or xs i x)) ≡ true = ap (λ y. bytes_eq (f x) (f y)) (get_or_from_slice_get xs i x x there) ∙ is_itself (f x) in
      let at : position_or_len (λ y. bytes_eq (f x) (f y)) xs ≡ i
      = position_or_len_is (λ y. bytes_eq (f x) (f y)) xs i x (omega arith) (λ k low. earlier apart there k low) (λ _. here) in
      let low : ltb i (length xs) ≡ true = grind (arith, nat_tests) in
      ap (λ (bytes : List ℕ). number_of (map f xs) bytes) (sym named) ∙ texts_found f (bytes_eq (f x)) xs
      ∙ ap (λ k. cond (ltb k (length xs)) (Some k) None) at ∙ ap (λ b. cond b (Some i) None) low
