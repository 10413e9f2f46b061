-- Loops over places, each of which is put once.
use Rattle.std.proofs.Common.{◌≡◌, ℕ, ◌+◌, ◌<◌, ◌∙◌, ap, sym, refl, subst, List, [], ◌∷◌, ◌++◌, Bool, true, false, take, length, Some, arith}
use Rattle.std.specs.Prelude.{slice_get, slice_index_or, nat_eq, ◌||◌, ◌==◌, AllPairs}
use Rattle.std.proofs.lemmas.Bool.{eqb-true, or_left, or_parts, or_right}
use Rattle.std.proofs.Math.Bool.{or-false}
use Rattle.std.proofs.lemmas.Map.Keys.{any_passes_from_place}
use Rattle.std.proofs.lemmas.List.Folds.{list_any-append}
use Rattle.std.proofs.lemmas.Option.{slice_get-get_or}
use Rattle.scratch.proofs.Driven.{earlier, either}
use Rattle.scratch.proofs.Among.{any_more, nat_itself, once}
use Rattle.rundiff.specs.kept.Places.{is_among}
use Rattle.rundiff.proofs.Among.{among_has, rises}

-- one place more
pub among_more : (xs : List ℕ) (i x q : ℕ) → slice_get xs i ≡ Some x → is_among (take (i + 1) xs) q ≡ (is_among (take i xs) q || nat_eq x q)
among_more xs i x q at = any_more (λ w. w == q) xs i x at

-- places that rise: each is not among those before it
pub not_yet : (xs : List ℕ) (i x : ℕ) → AllPairs (λ p q. p < q) xs → slice_get xs i ≡ Some x → is_among (take i xs) x ≡ false
not_yet xs i x rising at = among_has (take i xs) x ∙ once 0 xs i x (rises 0 xs rising (λ k d within. omega arith)) at

pub is_one : (xs : List ℕ) (i x : ℕ) → slice_get xs i ≡ Some x → is_among xs x ≡ true
is_one xs i x at = any_passes_from_place (λ w. w == x) xs i x at (nat_itself x)

-- what holds of the places so far, and of one more, holds of them all
pub each_more : (P : ℕ → Type 0) (xs : List ℕ) (i x : ℕ) → slice_get xs i ≡ Some x → ((p : ℕ) → is_among (take i xs) p ≡ true → nat_eq x p ≡ false → P p) → P x →
    (p : ℕ) → is_among (take (i + 1) xs) p ≡ true → P p
each_more P xs i x at so_far here p among = by (nat_eq x p) refl
  where
    by : (b : Bool) → nat_eq x p ≡ b → P p
    by true same = subst P (eqb-true x p same) here
    by false apart = so_far p (earlier (is_among (take i xs) p) (nat_eq x p) (sym (among_more xs i x p at) ∙ among) apart) apart

module _ {A : Type 0} (before now later : ℕ → A) (xs : List ℕ) (i : ℕ) (low : i < length xs) (others : (q : ℕ) → nat_eq (slice_index_or xs i 0) q ≡ false → later q ≡ now q) where
  -- what holds of each place that was put
  pub put_more : (P : ℕ → A → Type 0) → ((q : ℕ) → is_among (take i xs) q ≡ true → P q (now q)) → P (slice_index_or xs i 0) (later (slice_index_or xs i 0)) → (q : ℕ) → is_among (take (i + 1) xs) q ≡ true → P q (later q)
  put_more P so_far here = each_more (λ q. P q (later q)) xs i (slice_index_or xs i 0) (slice_get-get_or xs i 0 low) (λ q was apart. subst (P q) (sym (others q apart)) (so_far q was)) here

  -- all others stay
  pub others_more : ((q : ℕ) → is_among (take i xs) q ≡ false → now q ≡ before q) → (q : ℕ) → is_among (take (i + 1) xs) q ≡ false → later q ≡ before q
  others_more so_far q off =
      let x = slice_index_or xs i 0 in
      let parts = or_parts (is_among (take i xs) q) (nat_eq x q) (sym (among_more xs i x q (slice_get-get_or xs i 0 low)) ∙ off) in
      others q parts.1 ∙ so_far q parts.0

module _ {A : Type 0} (P : ℕ → A → Type 0) (was now : ℕ → A) where
  -- what holds of places that pass, and of all others as they were
  pub as_it_was : (test : ℕ → Bool) (p : ℕ) → ((q : ℕ) → test q ≡ false → now q ≡ was q) → (test p ≡ true → P p (now p)) → (test p ≡ false → P p (was p)) → P p (now p)
  as_it_was test p others here there = either (test p) here (λ off. subst (P p) (sym (others p off)) (there off))

  -- of one place, and of all others as they were
  pub at_one : (x p : ℕ) → ((q : ℕ) → nat_eq x q ≡ false → now q ≡ was q) → (nat_eq x p ≡ true → P x (now x)) → (nat_eq x p ≡ false → P p (was p)) → P p (now p)
  at_one x p others here = as_it_was (nat_eq x) p others (λ same. subst (λ q. P q (now q)) (eqb-true x p same) (here same))

-- a place that is pushed
pub among_push : (xs : List ℕ) (x q : ℕ) → is_among (xs ++ x ∷ []) q ≡ (is_among xs q || nat_eq x q)
among_push xs x q = list_any-append (λ w. w == q) xs (x ∷ []) ∙ ap (λ (b : Bool). is_among xs q || b) (or-false (x == q))

module _ (was now : List ℕ) (x : ℕ) (pushed : now ≡ was ++ x ∷ []) where
  -- is among the places
  pub pushed_there : is_among now x ≡ true
  pushed_there = ap (λ (l : List ℕ). is_among l x) pushed ∙ among_push was x x ∙ or_right (is_among was x) (nat_eq x x) (nat_itself x)

  -- as all that were
  pub pushed_kept : (q : ℕ) → is_among was q ≡ true → is_among now q ≡ true
  pushed_kept q on = ap (λ (l : List ℕ). is_among l q) pushed ∙ among_push was x q ∙ or_left (is_among was q) (nat_eq x q) on

-- the same, of the one at an index
pub each_next : (P : ℕ → Type 0) (xs : List ℕ) (i : ℕ) → i < length xs → ((p : ℕ) → is_among (take i xs) p ≡ true → P p) → P (slice_index_or xs i 0) → (p : ℕ) → is_among (take (i + 1) xs) p ≡ true → P p
each_next P xs i low so_far here = each_more P xs i (slice_index_or xs i 0) (slice_get-get_or xs i 0 low) (λ p was apart. so_far p was) here

-- what holds of each of some places holds of the one at an index
pub at_index : (P : ℕ → Type 0) (xs : List ℕ) (i : ℕ) → i < length xs → ((p : ℕ) → is_among xs p ≡ true → P p) → P (slice_index_or xs i 0)
at_index P xs i low all = all (slice_index_or xs i 0) (is_one xs i (slice_index_or xs i 0) (slice_get-get_or xs i 0 low))
