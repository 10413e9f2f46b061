-- What the reference implementation keeps: a write, a removal and one record more.
use Rattle.std.proofs.Common.{◌≡◌, ◌≢◌, ℕ, ◌+◌, ◌<◌, not, ◌==◌, List, [], ◌∷◌, ◌++◌, get_or, Some, None, AllPairs, All, IfSome, sym, ap, subst, ◌∙◌, arith}
use Rattle.std.proofs.lemmas.Bool.{eqb-true}
use Rattle.std.proofs.lemmas.List.Elements.{All-filter, All-map}
use Rattle.std.proofs.lemmas.List.{get_or-map, length-map}
use Rattle.std.specs.List.{position_from, remove, slice_set}
use Rattle.catalog.specs.Catalog.{record_at}
use Rattle.catalog.specs.kept.Catalog.{keys_of, named, with_record, without_key}
use Rattle.catalog.specs.kept.Kept.{AreKept}
use Rattle.catalog.proofs.ListLemmas.{position_find, position_within}
use Rattle.catalog.proofs.EntryLemmas.{below_push, distinct_push, distinct_with, distinct_without, record_at_above, keys_with, remove_is_without, set_is_with}

module _ {R : Type 0} where
  pub entry_with : (entries : List (ℕ × R)) (i key : ℕ) (x : ℕ × R) (new : R) → AllPairs (λ a b. a ≢ b) (keys_of entries) → position_from (λ e. e.0 == key) 0 entries ≡ Some i → x ≡ get_or entries i x → slice_set entries i (x.0, new) ≡ with_record entries key new
  entry_with entries i key x new distinct h read =
      let found = position_find (λ e. e.0 == key) i entries x h in
      let same : x.0 ≡ key = ap (λ e. e.0) read ∙ eqb-true (get_or entries i x).0 key found.1 in
      ap (λ k. slice_set entries i (k, new)) same
      ∙ set_is_with entries distinct i x key new (position_within (λ e. e.0 == key) i entries h) (sym same ∙ ap (λ e. e.0) read)

  pub entry_without : (entries : List (ℕ × R)) (i key : ℕ) (d : ℕ × R) → AllPairs (λ a b. a ≢ b) (keys_of entries) → position_from (λ e. e.0 == key) 0 entries ≡ Some i → remove entries i ≡ without_key entries key
  entry_without entries i key d distinct h =
      let found = position_find (λ e. e.0 == key) i entries d h in
      remove_is_without entries distinct i d key (position_within (λ e. e.0 == key) i entries h) (sym (eqb-true (get_or entries i d).0 key found.1))

  module _ (name_of : R → List ℕ) where
    pub kept_push : (entries : List (ℕ × R)) (key next : ℕ) (item : R) → AreKept name_of entries key → next ≡ key + 1 → named name_of entries (name_of item) ≡ None → AreKept name_of (entries ++ (key, item) ∷ []) next
    kept_push entries key next item old after new = record {
      distinct = distinct_push name_of entries key item old.distinct (record_at_above entries key old.below) new;
      below =
          let P : ℕ → Type 0 = λ n. All (λ k. k < n) (keys_of (entries ++ (key, item) ∷ [])) in
          subst P (sym after) (below_push entries key item old.below);
    }

    pub kept_with : (entries : List (ℕ × R)) (next key : ℕ) (item : R) → AreKept name_of entries next → IfSome (record_at entries key) (λ old. name_of item ≡ name_of old) → AreKept name_of (with_record entries key item) next
    kept_with entries next key item old same = record {
      distinct = distinct_with name_of entries key item old.distinct same;
      below =
          let P : List ℕ → Type 0 = λ ks. All (λ k. k < next) ks in
          subst P (sym (keys_with name_of entries key item)) old.below;
    }

    pub kept_without : (entries : List (ℕ × R)) (next key : ℕ) → AreKept name_of entries next → AreKept name_of (without_key entries key) next
    kept_without entries next key old = record {
      distinct = distinct_without name_of entries key old.distinct;
      below = All-map (λ k. k < next) (λ (e : ℕ × R). e.0) (without_key entries key)
          (All-filter (λ e. not (e.0 == key)) (λ (e : ℕ × R). e.0 < next) entries (λ k d within.
          let at : get_or (keys_of entries) k d.0 ≡ (get_or entries k d).0 = get_or-map (λ (x : ℕ × R). x.0) entries k d d.0 within in
          let low : get_or (keys_of entries) k d.0 < next = old.below k d.0 (omega (arith, length-map entries (λ (x : ℕ × R). x.0))) in
          omega arith));
    }
