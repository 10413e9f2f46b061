-- Loops over keys.
use Rattle.std.proofs.Common.{◌≡◌, ◌≢◌, ◌∙◌, ◌⊎◌, ◌+◌, ◌<◌, sym, refl, inl, inr, ℕ, zero, suc, Bool, true, false, List, [], ◌∷◌, length, take, get_or, arith}
use Rattle.std.specs.Prelude.{◌==◌, ◌||◌}
use Rattle.std.proofs.lemmas.Bool.{eq-eqb, eqb-true}
use Rattle.std.proofs.lemmas.List.Folds.{list_any_at, list_any_more}
use Rattle.edits.specs.kept.Touched.{is_touched}

-- what a loop reads
pub item_is : (keys : List ℕ) (i x : ℕ) → i < length keys → x ≡ get_or keys i x → get_or keys i 0 ≡ x
item_is [] i x low is = absurd (omega arith)
item_is (k ∷ keys) zero x low is = sym is
item_is (k ∷ keys) (suc i) x low is = item_is keys i x (omega arith) is

pub touched_at : (keys : List ℕ) (i : ℕ) → i < length keys → is_touched keys (get_or keys i 0) ≡ true
touched_at keys i low = list_any_at (λ k. k == get_or keys i 0) keys i 0 low (eq-eqb (get_or keys i 0) (get_or keys i 0) refl)

or_splits : (a b : Bool) → (a || b) ≡ true → (a ≡ true) ⊎ (b ≡ true)
or_splits true b on = inl refl
or_splits false b on = inr on

or_none : (a b : Bool) → (a || b) ≡ false → (a ≡ false) × (b ≡ false)
or_none true b off = absurd (cc)
or_none false b off = (refl, off)

-- one key more
pub touched_more : (keys : List ℕ) (i key : ℕ) → i < length keys → is_touched (take (i + 1) keys) key ≡ true → (is_touched (take i keys) key ≡ true) ⊎ (get_or keys i 0 ≡ key)
touched_more keys i key low on = by_either (or_splits (is_touched (take i keys) key) (get_or keys i 0 == key) (sym (list_any_more (λ k. k == key) keys i 0 low) ∙ on))
  where
    by_either : (is_touched (take i keys) key ≡ true) ⊎ ((get_or keys i 0 == key) ≡ true) → (is_touched (take i keys) key ≡ true) ⊎ (get_or keys i 0 ≡ key)
    by_either (inl before) = inl before
    by_either (inr same) = inr (eqb-true (get_or keys i 0) key same)

differs : (a b : ℕ) → (a == b) ≡ false → b ≢ a
differs a b off same = let on : (a == b) ≡ true = eq-eqb a b (sym same) in let no : true ≡ false = sym on ∙ off in absurd (cc)

pub untouched_more : (keys : List ℕ) (i key : ℕ) → i < length keys → is_touched (take (i + 1) keys) key ≡ false → (is_touched (take i keys) key ≡ false) × (key ≢ get_or keys i 0)
untouched_more keys i key low off =
    let both = or_none (is_touched (take i keys) key) (get_or keys i 0 == key) (sym (list_any_more (λ k. k == key) keys i 0 low) ∙ off) in
    (both.0, differs (get_or keys i 0) key both.1)

pub same_or_not : (a b : ℕ) → (a ≡ b) ⊎ (b ≢ a)
same_or_not a b = by_test (a == b) refl
  where
    by_test : (test : Bool) → (a == b) ≡ test → (a ≡ b) ⊎ (b ≢ a)
    by_test true on = inl (eqb-true a b on)
    by_test false off = inr (differs a b off)
