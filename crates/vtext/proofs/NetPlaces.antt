-- The place of a net in its module's order.
use Rattle.std.proofs.Common.{◌≡◌, ◌<◌, Bool, true, false, cond, ℕ, zero, suc, nat_eq, nat_lt, List, [], ◌∷◌, get_or, length, map, Option, Some, None, refl, sym, subst, ap, ◌∙◌, arith}
use Rattle.std.specs.Prelude.{IfSome, option_map}
use Rattle.std.specs.List.{AllByRecursion, IsDistinct, position, position_or_len, slice_get}
use Rattle.std.specs.Map.{lookup}
use Rattle.std.proofs.lemmas.Bool.{eqb-false, eqb-true}
use Rattle.std.proofs.lemmas.Bool.Decides.{nat_tests}
use Rattle.std.proofs.lemmas.Grind.{common_steps}
use Rattle.std.proofs.lemmas.List.Quantifiers.{position-Some}
use Rattle.std.proofs.lemmas.List.Sums.{position_or_len_is}
use Rattle.std.proofs.lemmas.Map.Keys.{IsDistinct-head, IsDistinct-tail}
use Rattle.std.proofs.lemmas.Option.{get_or_from_slice_get, slice_get-map, slice_get_within}

-- what stands at the place of a number is the number, with what is looked up for it
module _ {V : Type 0} (n : ℕ) (entries : List (ℕ × V)) (place : ℕ) where
  at_place : position (nat_eq n) (map (λ e. e.0) entries) ≡ Some place → slice_get (map (λ e. e.1) entries) place ≡ lookup (nat_eq n) entries
      → slice_get entries place ≡ option_map (λ v. (n, v)) (lookup (nat_eq n) entries)
  at_place first value = by (slice_get entries place) refl
    where
      by : (o : Option (ℕ × V)) → slice_get entries place ≡ o → slice_get entries place ≡ option_map (λ v. (n, v)) (lookup (nat_eq n) entries)
      by (Some e) is =
          let keys : slice_get (map (λ e. e.0) entries) place ≡ Some e.0 = slice_get-map (λ e. e.0) entries place ∙ ap (option_map (λ e. e.0)) is in
          let values : slice_get (map (λ e. e.1) entries) place ≡ Some e.1 = slice_get-map (λ e. e.1) entries place ∙ ap (option_map (λ e. e.1)) is in
          let key : n ≡ e.0 = eqb-true n e.0 (sym (ap (nat_eq n) (get_or_from_slice_get (map (λ e. e.0) entries) place e.0 n keys)) ∙ (position-Some (nat_eq n) (map (λ e. e.0) entries) place n first).1) in
          is ∙ ap (λ k. Some (k, e.1)) (sym key) ∙ ap (option_map (λ v. (n, v))) (sym values ∙ value)
      by None is = is ∙ ap (option_map (λ v. (n, v))) (sym (slice_get-map (λ e. e.1) entries place ∙ ap (option_map (λ e. e.1)) is) ∙ value)

pub at_places : {V : Type 0} (n : ℕ) (entries : List (ℕ × V)) (found : Option ℕ) → found ≡ position (nat_eq n) (map (λ e. e.0) entries)
    → IfSome found (λ place. slice_get (map (λ e. e.1) entries) place ≡ lookup (nat_eq n) entries)
    → IfSome found (λ place. slice_get entries place ≡ option_map (λ v. (n, v)) (lookup (nat_eq n) entries))
at_places n entries (Some place) first value = at_place n entries place (sym first) value
at_places n entries None first value = tt

-- Where no two keys are the same, a key stands first where it stands.

all_at : {X : Type 0} (P : X → Type 0) (xs : List X) (i : ℕ) (x : X) → AllByRecursion P xs → slice_get xs i ≡ Some x → P x
all_at P [] i x all there = absurd (cc)
all_at P (y ∷ xs) zero x all there = let same : y ≡ x = cc in subst P same all.0
all_at P (y ∷ xs) (suc i) x all there = all_at P xs i x all.1 there

flipped : (n x : ℕ) (b : Bool) → nat_eq n x ≡ b → nat_eq x n ≡ false → b ≡ false
flipped n x true is apart = let same : n ≡ x = eqb-true n x is in absurd (eqb-false x n apart (sym same))
flipped n x false is apart = refl

earlier : (n : ℕ) (keys : List ℕ) (i k d : ℕ) → IsDistinct nat_eq keys → slice_get keys i ≡ Some n → k < i → nat_eq n (get_or keys k d) ≡ false
earlier n [] i k d apart there low = absurd (cc)
earlier n (x ∷ keys) zero k d apart there low = absurd (omega arith)
earlier n (x ∷ keys) (suc i) zero d apart there low = flipped n x (nat_eq n x) refl (all_at (λ y. nat_eq x y ≡ false) keys i n (IsDistinct-head nat_eq x keys apart) there)
earlier n (x ∷ keys) (suc i) (suc k) d apart there low = earlier n keys i k d (IsDistinct-tail nat_eq x keys apart) there (omega arith)

pub stands_first : (n : ℕ) (keys : List ℕ) (i : ℕ) → IsDistinct nat_eq keys → slice_get keys i ≡ Some n → position (nat_eq n) keys ≡ Some i
stands_first n keys i apart there =
    let within : i < length keys = slice_get_within keys i n there in
    let here : nat_eq n (get_or keys i n) ≡ true = ap (nat_eq n) (get_or_from_slice_get keys i n n there) ∙ (let own : nat_eq n n ≡ true = grind (arith, nat_tests) in own) in
    let at : position_or_len (nat_eq n) keys ≡ i = position_or_len_is (nat_eq n) keys i n (omega arith) (λ k low. earlier n keys i k n apart there low) (λ _. here) in
    let low : nat_lt i (length keys) ≡ true = grind (arith, common_steps) in
    ap (λ k. cond (nat_lt k (length keys)) (Some k) None) at ∙ ap (λ b. cond b (Some i) None) low
