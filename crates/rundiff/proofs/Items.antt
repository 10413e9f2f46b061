-- An item more in a map by place.
use Rattle.std.proofs.Common.{◌≡◌, ◌∙◌, ◌<◌, ◌≤◌, ◌+◌, ap, sym, subst, refl, ℕ, zero, suc, Bool, true, false, cond, List, [], ◌∷◌, ◌++◌, Option, Some, None, length, take, nat_eq, All, arith}
use Rattle.std.specs.Prelude.{IfSome, nat_lt, slice_get, ◌==◌}
use Rattle.std.proofs.lemmas.Bool.Decides.{nat_tests}
use Rattle.std.proofs.lemmas.List.{length_push}
use Rattle.std.proofs.lemmas.List.Elements.{All-push, All-weaker}
use Rattle.std.proofs.lemmas.Bool.{eqb-true, false_from_ne_true}
use Rattle.catalog.proofs.ListLemmas.{slice_get_some}
use Rattle.design.proofs.ByNameLemmas.{all_at}
use Rattle.scratch.proofs.Among.{any_from, nat_itself}
use Rattle.scratch.proofs.Lists.{of_there, take_next}
use Rattle.rundiff.specs.kept.PlaceMaps.{item_at, owned}
use Rattle.rundiff.specs.kept.Places.{is_among}

-- what holds at each of some places
pub among_all : (P : ℕ → Type 0) (xs : List ℕ) → All P xs → (q : ℕ) → is_among xs q ≡ true → P q
among_all P xs all q on = let f = any_from (λ x. x == q) xs on in subst P (eqb-true f.1 q f.3) (all_at P xs f.0 f.1 all f.2)

pub is_past : (i n : ℕ) → false ≡ nat_lt i n → n ≤ i
is_past i n h = grind (arith, nat_tests)

module _ {X : Type 0} where
  last_there : (items : List (ℕ × Option X)) (e : ℕ × Option X) → slice_get (items ++ e ∷ []) (length items) ≡ Some e
  last_there [] e = refl
  last_there (x ∷ items) e = last_there items e

  of_other : (items : List (ℕ × Option X)) (p : ℕ) (o : Option X) (q : ℕ) → (p == q) ≡ false → (k : ℕ) → owned q (slice_get (items ++ (p, o) ∷ []) k) ≡ owned q (slice_get items k)
  of_other [] p o q off zero = ap (λ (b : Bool). cond b o None) off
  of_other [] p o q off (suc k) = refl
  of_other (x ∷ items) p o q off zero = refl
  of_other (x ∷ items) p o q off (suc k) = of_other items p o q off k

  other_item : (items : List (ℕ × Option X)) (p : ℕ) (o : Option X) (q : ℕ) → (p == q) ≡ false → (n : ℕ) → item_at (items ++ (p, o) ∷ []) q n ≡ item_at items q n
  other_item items p o q off zero = refl
  other_item items p o q off (suc k) = of_other items p o q off k

  -- the place has it
  pub item_added : (now items : List (ℕ × Option X)) (p : ℕ) (x : X) (n : ℕ) → now ≡ items ++ (p, Some x) ∷ [] → n ≡ length now → item_at now p n ≡ Some x
  item_added now items p x n is number =
      let many : n ≡ suc (length items) = let more = ap (λ (l : List (ℕ × Option X)). length l) is ∙ length_push items (p, Some x) in omega (arith, number, more) in
      rw (many, is, last_there items (p, Some x), nat_itself p) refl

  -- another place has what it had
  pub others_stay : (now items : List (ℕ × Option X)) (p : ℕ) (x : X) (q n m : ℕ) → nat_eq p q ≡ false → now ≡ items ++ (p, Some x) ∷ [] → n ≡ m → item_at now q n ≡ item_at items q m
  others_stay now items p x q n m off is number =
      ap (item_at now q) number ∙ ap (λ (l : List (ℕ × Option X)). item_at l q m) is ∙ other_item items p (Some x) q off m

  -- the place of an item, where it is below an end, is among those that are found
  abbrev pub IsFound : ℕ → List ℕ → ℕ × Option X → Type 0
  IsFound count found item = item.0 < count → is_among found item.0 ≡ true

  -- a place of no item has nothing
  pub none_kept : (items : List (ℕ × Option X)) (found : List ℕ) (count : ℕ) → All (IsFound count found) items → (p : ℕ) → p < count → is_among found p ≡ false → (n : ℕ) → item_at items p n ≡ None
  none_kept items found count all p low off zero = refl
  none_kept items found count all p low off (suc k) =
      elim (slice_get items k) as (λ o. slice_get items k ≡ o → owned p o ≡ None) [
        | None ↦ λ is. refl
        | Some item ↦ λ is.
            let apart = false_from_ne_true (item.0 == p) (λ same.
            let here = subst (λ (q : ℕ). q < count → is_among found q ≡ true) (eqb-true item.0 p same) (all_at (IsFound count found) items k item all is) low in cc) in
            ap (λ (b : Bool). cond b item.1 None) apart
      ] refl

  -- the place of one item more is added
  pub one_more : (items : List (ℕ × Option X)) (count : ℕ) (found more : List ℕ) (i : ℕ) → i < length items → ((p : ℕ) → is_among found p ≡ true → is_among more p ≡ true) →
      All (IsFound count found) (take i items) → IfSome (slice_get items i) (IsFound count more) → All (IsFound count more) (take (i + 1) items)
  one_more items count found more i low grows before here =
      let one = slice_get_some items i low in let Q : ℕ × Option X → Type 0 = IsFound count more in
      subst (All Q) (sym (take_next items i one.0 one.1))
      (All-push Q (take i items) one.0 (All-weaker (IsFound count found) Q (λ e holds less. grows e.0 (holds less)) (take i items) before) (of_there (slice_get items i) one.0 Q one.1 here))
