-- Entries: what stays distinct where one is added, replaced or taken away.
use Rattle.std.proofs.Common.{◌≡◌, ◌≢◌, ℕ, zero, suc, ◌+◌, ◌<◌, Bool, true, false, not, cond, ◌==◌, List, [], ◌∷◌, ◌++◌, length, map, get_or, Option, Some, None, option_map, IfSome, IsSome, slice_get, AllPairs, All, sym, refl, ap, subst, ◌∙◌, arith}
use Rattle.std.proofs.lemmas.Bool.{both_ways, eq-eqb, eqb-true, ne_eqb, false_from_ne_true}
use Rattle.std.proofs.lemmas.List.{get_or-map, length-map, map_push}
use Rattle.std.proofs.lemmas.List.Kept.{AllPairs-filter}
use Rattle.std.proofs.lemmas.List.Quantifiers.{all_pairs_push}
use Rattle.std.proofs.lemmas.List.Elements.{All-push, All-weaker}
use Rattle.std.proofs.lemmas.Option.{get_or_from_slice_get, slice_get-map, slice_get_within}
use Rattle.std.proofs.lemmas.Slice.Eq.{bytes_eq-Decides}
use Rattle.std.specs.List.{find, position_from, remove, slice_set}
use Rattle.catalog.specs.Catalog.{record_at, records_of, same_name}
use Rattle.catalog.specs.kept.Catalog.{AreDistinct, key_named, keys_of, names_of, named, place_of, with_record, without_key}
use Rattle.catalog.proofs.ListLemmas.{AllPairs-tail, find_at, find_none_at, find_none_from, position_slice_get, position_within}

pub name_is : (a b : List ℕ) → same_name a b ≡ true → a ≡ b
name_is a b h = (bytes_eq-Decides a b).0 h

pub name_same : (a b : List ℕ) → a ≡ b → same_name a b ≡ true
name_same a b e = (bytes_eq-Decides a b).1 e

pub name_differs : (a b : List ℕ) → a ≢ b → same_name a b ≡ false
name_differs a b apart = false_from_ne_true (same_name a b) (λ t. apart (name_is a b t))

module _ {R : Type 0} where
  -- The record under the key of an entry.

  pub record_at_place : (entries : List (ℕ × R)) → AllPairs (λ a b. a ≢ b) (keys_of entries) → (k : ℕ) (d : ℕ × R) → k < length entries → record_at entries (get_or entries k d).0 ≡ Some (get_or entries k d).1
  record_at_place [] distinct k d within = absurd (omega arith)
  record_at_place (e ∷ entries) distinct zero d within = rw (eq-eqb e.0 e.0 refl) refl
  record_at_place (e ∷ entries) distinct (suc k) d within =
      let low : k < length (keys_of entries) = omega (arith, length-map entries (λ (x : ℕ × R). x.0)) in
      let there : get_or (keys_of entries) k d.0 ≡ (get_or entries k d).0 = get_or-map (λ (x : ℕ × R). x.0) entries k d d.0 (omega arith) in
      let apart : e.0 ≢ (get_or entries k d).0 = λ same. distinct zero (suc k) d.0 (omega arith) (omega arith) (same ∙ sym there) in
      rw (ne_eqb e.0 (get_or entries k d).0 apart) (record_at_place entries (AllPairs-tail (λ a b. a ≢ b) e.0 (keys_of entries) distinct) k d (omega arith))

  pub record_at_found : (entries : List (ℕ × R)) → AllPairs (λ a b. a ≢ b) (keys_of entries) → (t : ℕ × R → Bool) (e : ℕ × R) → find t entries ≡ Some e → record_at entries e.0 ≡ Some e.1
  record_at_found entries distinct t e h =
      let at = find_at t entries e h in
      let P : ℕ × R → Type 0 = λ x. record_at entries x.0 ≡ Some x.1 in
      subst P at.2 (record_at_place entries distinct at.0 e at.1)

  -- the place of the key of an entry
  pub place_at_place : (entries : List (ℕ × R)) → AllPairs (λ a b. a ≢ b) (keys_of entries) → (k : ℕ) (d : ℕ × R) (n : ℕ) → k < length entries → position_from (λ e. e.0 == (get_or entries k d).0) n entries ≡ Some (n + k)
  place_at_place [] distinct k d n within = absurd (omega arith)
  place_at_place (e ∷ entries) distinct zero d n within = rw (eq-eqb e.0 e.0 refl) (ap Some (omega arith))
  place_at_place (e ∷ entries) distinct (suc k) d n within =
      let low : k < length (keys_of entries) = omega (arith, length-map entries (λ (x : ℕ × R). x.0)) in
      let there : get_or (keys_of entries) k d.0 ≡ (get_or entries k d).0 = get_or-map (λ (x : ℕ × R). x.0) entries k d d.0 (omega arith) in
      let apart : e.0 ≢ (get_or entries k d).0 = λ same. distinct zero (suc k) d.0 (omega arith) (omega arith) (same ∙ sym there) in
      rw (ne_eqb e.0 (get_or entries k d).0 apart) (place_at_place entries (AllPairs-tail (λ a b. a ≢ b) e.0 (keys_of entries) distinct) k d (n + 1) (omega arith) ∙ ap Some (omega arith))

  -- what holds of the entry at a place
  pub record EntryAt (entries : List (ℕ × R)) (i : ℕ) (e : ℕ × R) : Type 0 where
    pub key : slice_get (keys_of entries) i ≡ Some e.0
    pub item : slice_get (records_of entries) i ≡ Some e.1
    pub there : record_at entries e.0 ≡ Some e.1
    pub place : place_of entries e.0 ≡ Some i

  pub entry_at : (entries : List (ℕ × R)) → AllPairs (λ a b. a ≢ b) (keys_of entries) → (i : ℕ) (e : ℕ × R) → slice_get entries i ≡ Some e → EntryAt entries i e
  entry_at entries distinct i e h =
      let within = slice_get_within entries i e h in
      let same : get_or entries i e ≡ e = get_or_from_slice_get entries i e e h in
      record {
        key = slice_get-map (λ (x : ℕ × R). x.0) entries i ∙ ap (λ o. option_map (λ (x : ℕ × R). x.0) o) h;
        item = slice_get-map (λ (x : ℕ × R). x.1) entries i ∙ ap (λ o. option_map (λ (x : ℕ × R). x.1) o) h;
        there = let P : ℕ × R → Type 0 = λ x. record_at entries x.0 ≡ Some x.1 in subst P same (record_at_place entries distinct i e within);
        place = let P : ℕ × R → Type 0 = λ x. place_of entries x.0 ≡ Some i in subst P same (place_at_place entries distinct i e 0 within ∙ ap Some (omega arith));
      }

  -- what holds of the place of a key
  pub place_facts : (entries : List (ℕ × R)) (r : Option ℕ) (key : ℕ) → r ≡ place_of entries key → IfSome r (λ place. place < length entries) × IfSome r (λ place. slice_get (records_of entries) place ≡ record_at entries key)
  place_facts entries None key h = (tt, tt)
  place_facts entries (Some place) key h = (
    position_within (λ e. e.0 == key) place entries (sym h),
    slice_get-map (λ (x : ℕ × R). x.1) entries place ∙ ap (λ o. option_map (λ (x : ℕ × R). x.1) o) (position_slice_get (λ e. e.0 == key) place entries (sym h)),
  )

  -- A key that is below all others is none of theirs.

  pub record_at_above : (entries : List (ℕ × R)) (next : ℕ) → All (λ key. key < next) (keys_of entries) → record_at entries next ≡ None
  record_at_above entries next below =
      let none : find (λ e. e.0 == next) entries ≡ None =
      find_none_from (λ e. e.0 == next) entries (λ k d within.
      let at : get_or (keys_of entries) k d.0 ≡ (get_or entries k d).0 = get_or-map (λ (x : ℕ × R). x.0) entries k d d.0 within in
      let low : get_or (keys_of entries) k d.0 < next = below k d.0 (omega (arith, length-map entries (λ (x : ℕ × R). x.0))) in
      ne_eqb (get_or entries k d).0 next (λ same. omega arith)) in
      ap (λ o. option_map (λ (e : ℕ × R). e.1) o) none

  keys_push : (entries : List (ℕ × R)) (e : ℕ × R) → keys_of (entries ++ e ∷ []) ≡ keys_of entries ++ e.0 ∷ []
  keys_push entries e = map_push (λ (x : ℕ × R). x.0) entries e

  pub below_push : (entries : List (ℕ × R)) (key : ℕ) (item : R) → All (λ k. k < key) (keys_of entries) → All (λ k. k < key + 1) (keys_of (entries ++ (key, item) ∷ []))
  below_push entries key item below =
      let P : List ℕ → Type 0 = λ ks. All (λ k. k < key + 1) ks in
      subst P (sym (keys_push entries (key, item)))
      (All-push (λ k. k < key + 1) (keys_of entries) key (All-weaker (λ k. k < key) (λ k. k < key + 1) (λ k h. omega arith) (keys_of entries) below) (omega arith))

  module _ (name_of : R → List ℕ) where
    names_push : (entries : List (ℕ × R)) (e : ℕ × R) → names_of name_of (entries ++ e ∷ []) ≡ names_of name_of entries ++ name_of e.1 ∷ []
    names_push entries e = map_push (λ (x : ℕ × R). name_of x.1) entries e

    pub distinct_push : (entries : List (ℕ × R)) (key : ℕ) (item : R) → AreDistinct name_of entries → record_at entries key ≡ None → named name_of entries (name_of item) ≡ None → AreDistinct name_of (entries ++ (key, item) ∷ [])
    distinct_push entries key item old fresh new = record {
      keys =
          let Q : List ℕ → Type 0 = λ ks. AllPairs (λ a b. a ≢ b) ks in
          subst Q (sym (keys_push entries (key, item)))
          (all_pairs_push (λ a b. a ≢ b) (keys_of entries) key old.keys (λ k d within same.
          let e : ℕ × R = (d, item) in
          let low : k < length entries = omega (arith, length-map entries (λ (x : ℕ × R). x.0)) in
          let at : get_or (keys_of entries) k d ≡ (get_or entries k e).0 = get_or-map (λ (x : ℕ × R). x.0) entries k e d low in
          both_ways ((get_or entries k e).0 == key) (find_none_at (λ x. x.0 == key) entries (none_found entries key fresh) k e low) (eq-eqb (get_or entries k e).0 key (sym at ∙ same))));
      names =
          let Q : List (List ℕ) → Type 0 = λ ns. AllPairs (λ a b. a ≢ b) ns in
          subst Q (sym (names_push entries (key, item)))
          (all_pairs_push (λ a b. a ≢ b) (names_of name_of entries) (name_of item) old.names (λ k d within same.
          let e : ℕ × R = (key, item) in
          let low : k < length entries = omega (arith, length-map entries (λ (x : ℕ × R). name_of x.1)) in
          let at : get_or (names_of name_of entries) k d ≡ name_of (get_or entries k e).1 = get_or-map (λ (x : ℕ × R). name_of x.1) entries k e d low in
          both_ways (same_name (name_of (get_or entries k e).1) (name_of item)) (find_none_at (λ x. same_name (name_of x.1) (name_of item)) entries new k e low) (name_same (name_of (get_or entries k e).1) (name_of item) (sym at ∙ same))));
    }
      where
        none_found : (xs : List (ℕ × R)) (k : ℕ) → record_at xs k ≡ None → find (λ x. x.0 == k) xs ≡ None
        none_found xs k h = elim (find (λ x. x.0 == k) xs) as (λ o. option_map (λ (x : ℕ × R). x.1) o ≡ None → o ≡ None) [ None ↦ λ _. refl | Some x ↦ λ e. cc ] h

    pub distinct_without : (entries : List (ℕ × R)) (key : ℕ) → AreDistinct name_of entries → AreDistinct name_of (without_key entries key)
    distinct_without entries key old = record {
      keys = without_pairs (λ (x : ℕ × R). x.0) old.keys;
      names = without_pairs (λ (x : ℕ × R). name_of x.1) old.names;
    }
      where
        of_map : {Y : Type 0} (f : ℕ × R → Y) (xs : List (ℕ × R)) → AllPairs (λ a b. a ≢ b) (map f xs) → AllPairs (λ (a b : ℕ × R). f a ≢ f b) xs
        of_map f xs h = λ i j d below within same.
            h i j (f d) below (omega (arith, length-map xs f)) (get_or-map f xs i d (f d) (omega arith) ∙ same ∙ sym (get_or-map f xs j d (f d) within))

        to_map : {Y : Type 0} (f : ℕ × R → Y) (xs : List (ℕ × R)) → AllPairs (λ (a b : ℕ × R). f a ≢ f b) xs → AllPairs (λ a b. a ≢ b) (map f xs)
        to_map f [] h = λ i j d below within. absurd (omega arith)
        to_map f (x ∷ xs) h = λ i j d below within same.
            let long = length-map (x ∷ xs) f in
            h i j x below (omega arith) (sym (get_or-map f (x ∷ xs) i x d (omega arith)) ∙ same ∙ get_or-map f (x ∷ xs) j x d (omega arith))

        without_pairs : {Y : Type 0} (f : ℕ × R → Y) → AllPairs (λ a b. a ≢ b) (map f entries) → AllPairs (λ a b. a ≢ b) (map f (without_key entries key))
        without_pairs f h = to_map f (without_key entries key) (AllPairs-filter (λ (a b : ℕ × R). f a ≢ f b) (λ e. not (e.0 == key)) entries (of_map f entries h))

    -- the names stay where a record gives way to one of its name
    pub names_with : (entries : List (ℕ × R)) (key : ℕ) (item : R) → ((k : ℕ) (d : ℕ × R) → k < length entries → (get_or entries k d).0 ≡ key → name_of (get_or entries k d).1 ≡ name_of item) → names_of name_of (with_record entries key item) ≡ names_of name_of entries
    names_with [] key item h = refl
    names_with (e ∷ entries) key item h = step (e.0 == key) refl (names_with entries key item (λ k d within. h (suc k) d (omega arith)))
      where
        step : (b : Bool) → (e.0 == key) ≡ b → names_of name_of (with_record entries key item) ≡ names_of name_of entries → name_of (cond b item e.1) ∷ names_of name_of (with_record entries key item) ≡ name_of e.1 ∷ names_of name_of entries
        step true at rest = let first : name_of item ≡ name_of e.1 = sym (h zero e (omega arith) (eqb-true e.0 key at)) in λ i. first i ∷ rest i
        step false at rest = ap (λ l. name_of e.1 ∷ l) rest

    pub keys_with : (entries : List (ℕ × R)) (key : ℕ) (item : R) → keys_of (with_record entries key item) ≡ keys_of entries
    keys_with [] key item = refl
    keys_with (e ∷ entries) key item = ap (λ l. e.0 ∷ l) (keys_with entries key item)

    pub distinct_with : (entries : List (ℕ × R)) (key : ℕ) (item : R) → AreDistinct name_of entries → IfSome (record_at entries key) (λ old. name_of item ≡ name_of old) → AreDistinct name_of (with_record entries key item)
    distinct_with entries key item old same = record {
      keys =
          let Q : List ℕ → Type 0 = λ ks. AllPairs (λ a b. a ≢ b) ks in
          subst Q (sym (keys_with entries key item)) old.keys;
      names =
          let Q : List (List ℕ) → Type 0 = λ ns. AllPairs (λ a b. a ≢ b) ns in
          let P : Option R → Type 0 = λ o. IfSome o (λ was. name_of item ≡ name_of was) in
          subst Q (sym (names_with entries key item (λ k d within at.
          sym (subst P (sym (ap (λ n. record_at entries n) at) ∙ record_at_place entries old.keys k d within) same)))) old.names;
    }

-- A write at the place of a key.

module _ {R : Type 0} where
  pub with_none : (entries : List (ℕ × R)) (key : ℕ) (item : R) → ((k : ℕ) (d : ℕ × R) → k < length entries → (get_or entries k d).0 ≢ key) → with_record entries key item ≡ entries
  with_none [] key item h = refl
  with_none (e ∷ entries) key item h =
      rw (ne_eqb e.0 key (h zero e (omega arith))) (ap (λ l. e ∷ l) (with_none entries key item (λ k d within. h (suc k) d (omega arith))))

  pub set_is_with : (entries : List (ℕ × R)) → AllPairs (λ a b. a ≢ b) (keys_of entries) → (i : ℕ) (d : ℕ × R) (key : ℕ) (item : R) → i < length entries → key ≡ (get_or entries i d).0 → slice_set entries i (key, item) ≡ with_record entries key item
  set_is_with [] distinct i d key item within at = absurd (omega arith)
  set_is_with (e ∷ entries) distinct zero d key item within at =
      let none : with_record entries key item ≡ entries =
      with_none entries key item (λ k x low same.
      let there : get_or (keys_of entries) k x.0 ≡ (get_or entries k x).0 = get_or-map (λ (z : ℕ × R). z.0) entries k x x.0 low in
      distinct zero (suc k) x.0 (omega arith) (omega (arith, length-map entries (λ (z : ℕ × R). z.0))) (sym at ∙ sym same ∙ sym there)) in
      let back = sym none in
      rw (eq-eqb e.0 key (sym at)) (λ j. (at j, item) ∷ back j)
  set_is_with (e ∷ entries) distinct (suc i) d key item within at =
      let there : get_or (keys_of entries) i d.0 ≡ (get_or entries i d).0 = get_or-map (λ (z : ℕ × R). z.0) entries i d d.0 (omega arith) in
      let apart : e.0 ≢ key = λ same. distinct zero (suc i) d.0 (omega arith) (omega (arith, length-map entries (λ (z : ℕ × R). z.0))) (same ∙ at ∙ sym there) in
      rw (ne_eqb e.0 key apart) (ap (λ l. e ∷ l) (set_is_with entries (AllPairs-tail (λ a b. a ≢ b) e.0 (keys_of entries) distinct) i d key item (omega arith) at))

  pub some_there : (entries : List (ℕ × R)) (key : ℕ) → find (λ e. e.0 == key) entries ≡ None → IsSome (record_at entries key) → ⊥
  some_there entries key none there =
      let P : Option (ℕ × R) → Type 0 = λ o. IsSome (option_map (λ (e : ℕ × R). e.1) o) in
      let h = subst P none there in
      cc

  pub named_none : (name_of : R → List ℕ) (entries : List (ℕ × R)) (name : List ℕ) → key_named name_of entries name ≡ None → named name_of entries name ≡ None
  named_none name_of entries name h =
      elim (named name_of entries name) as (λ o. option_map (λ (e : ℕ × R). e.0) o ≡ None → o ≡ None) [ None ↦ λ _. refl | Some x ↦ λ e. cc ] h

  -- A removal at the place of a key.

  pub without_none : (entries : List (ℕ × R)) (key : ℕ) → ((k : ℕ) (d : ℕ × R) → k < length entries → (get_or entries k d).0 ≢ key) → without_key entries key ≡ entries
  without_none [] key h = refl
  without_none (e ∷ entries) key h =
      rw (ne_eqb e.0 key (h zero e (omega arith))) (ap (λ l. e ∷ l) (without_none entries key (λ k d within. h (suc k) d (omega arith))))

  pub remove_is_without : (entries : List (ℕ × R)) → AllPairs (λ a b. a ≢ b) (keys_of entries) → (i : ℕ) (d : ℕ × R) (key : ℕ) → i < length entries → key ≡ (get_or entries i d).0 → remove entries i ≡ without_key entries key
  remove_is_without [] distinct i d key within at = absurd (omega arith)
  remove_is_without (e ∷ entries) distinct zero d key within at =
      let none : without_key entries key ≡ entries =
      without_none entries key (λ k x low same.
      let there : get_or (keys_of entries) k x.0 ≡ (get_or entries k x).0 = get_or-map (λ (z : ℕ × R). z.0) entries k x x.0 low in
      distinct zero (suc k) x.0 (omega arith) (omega (arith, length-map entries (λ (z : ℕ × R). z.0))) (sym at ∙ sym same ∙ sym there)) in
      rw (eq-eqb e.0 key (sym at)) (sym none)
  remove_is_without (e ∷ entries) distinct (suc i) d key within at =
      let there : get_or (keys_of entries) i d.0 ≡ (get_or entries i d).0 = get_or-map (λ (z : ℕ × R). z.0) entries i d d.0 (omega arith) in
      let apart : e.0 ≢ key = λ same. distinct zero (suc i) d.0 (omega arith) (omega (arith, length-map entries (λ (z : ℕ × R). z.0))) (same ∙ at ∙ sym there) in
      rw (ne_eqb e.0 key apart) (ap (λ l. e ∷ l) (remove_is_without entries (AllPairs-tail (λ a b. a ≢ b) e.0 (keys_of entries) distinct) i d key (omega arith) at))
