-- What a catalog keeps: look-ups, and what stays where it is changed.
use Rattle.std.proofs.Common.{◌≡◌, ◌≢◌, ◌⊎◌, ℕ, zero, suc, ◌<◌, Bool, true, false, cond, ◌==◌, List, [], ◌∷◌, ◌++◌, length, take, get_or, Option, Some, None, option_map, AllPairs, sym, refl, ap, subst, ◌∙◌, inl, inr, arith}
use Rattle.std.proofs.lemmas.Bool.{both_ways, eqb-true}
use Rattle.std.proofs.lemmas.List.{get_or-map, get_or_default, length-map}
use Rattle.std.proofs.lemmas.List.Kept.{AllPairs-cons}
use Rattle.std.proofs.lemmas.List.Elements.{All-push}
use Rattle.std.proofs.lemmas.Option.{none-some, same_Some}
use Rattle.std.specs.List.{find}
use Rattle.catalog.specs.Catalog.{record_at, same_name}
use Rattle.catalog.specs.kept.Catalog.{AreDistinct, key_named, keys_of, named, names_of, place_of}
use Rattle.catalog.specs.kept.Columns.{AreApart, ArePlaced, cell_at, entries_in}
use Rattle.catalog.specs.kept.Table.{AreFound, IsTable}
use Rattle.catalog.proofs.CellLemmas.{apart_from_placed, entry_absent, entry_found, entry_stands}
use Rattle.catalog.proofs.EntryLemmas.{name_differs, name_is, name_same, record_at_found}
use Rattle.catalog.proofs.ListLemmas.{find_at, find_none_at, find_passes}

module _ {R : Type 0} where
  -- Look-ups by key.

  -- the record of a key stands where the key says
  pub by_slot : (slot : ℕ → Option ℕ) (cells : List (Option (ℕ × R))) (key i : ℕ) → ArePlaced slot cells → slot key ≡ Some i → (record_at (entries_in cells) key ≡ option_map (λ e. e.1) (cell_at cells i)) × (place_of (entries_in cells) key ≡ Some (length (entries_in (take i cells)))) × ((e : ℕ × R) × (cell_at cells i ≡ Some e) × (e.0 ≡ key))
  by_slot slot cells key i placed at =
      let there = placed.back key i at in
      let e = there.0 in
      let found = entry_found cells i 0 e (apart_from_placed slot cells placed) there.1 in
      let P : ℕ → Type 0 = λ k. (record_at (entries_in cells) k ≡ option_map (λ x. x.1) (cell_at cells i)) × (place_of (entries_in cells) k ≡ Some (length (entries_in (take i cells)))) in
      let both = subst P there.2 (ap (λ o. option_map (λ x. x.1) o) found.0 ∙ sym (ap (λ o. option_map (λ x. x.1) o) there.1), found.1 ∙ ap Some (omega arith)) in
      (both.0, both.1, there)

  pub no_slot : (slot : ℕ → Option ℕ) (cells : List (Option (ℕ × R))) (key : ℕ) → ArePlaced slot cells → slot key ≡ None → (record_at (entries_in cells) key ≡ None) × (place_of (entries_in cells) key ≡ None)
  no_slot slot cells key placed none =
      let absent = entry_absent cells key 0 (λ i e at same. none-some i (sym none ∙ ap slot (sym same) ∙ placed.forward i e at)) in
      (ap (λ o. option_map (λ x. x.1) o) absent.0, absent.1)

  -- Distinct keys and names.

  keys_apart : (cells : List (Option (ℕ × R))) → AreApart cells → AllPairs (λ a b. a ≢ b) (keys_of (entries_in cells))
  keys_apart [] h = λ i j d below within. absurd (omega arith)
  keys_apart (None ∷ cells) h = keys_apart cells (λ i j d e at_i at_j same. let next : suc i ≡ suc j = h (suc i) (suc j) d e at_i at_j same in omega arith)
  keys_apart (Some x ∷ cells) h =
      AllPairs-cons (λ a b. a ≢ b) x.0 (keys_of (entries_in cells))
      (λ k d within same.
      let low : k < length (entries_in cells) = omega (arith, length-map (entries_in cells) (λ (e : ℕ × R). e.0)) in
      let stands = entry_stands cells k x low in
      let at : get_or (keys_of (entries_in cells)) k d ≡ (get_or (entries_in cells) k x).0 = get_or-map (λ (e : ℕ × R). e.0) (entries_in cells) k x d low in
      let first : zero ≡ suc stands.0 = h zero (suc stands.0) x (get_or (entries_in cells) k x) refl stands.1 (same ∙ at) in
      omega arith)
      (keys_apart cells (λ i j d e at_i at_j same. let next : suc i ≡ suc j = h (suc i) (suc j) d e at_i at_j same in omega arith))

  module _ (name_of : R → List ℕ) (key_of : List ℕ → Option ℕ) where
    -- names are distinct since keys are, and each name has one key
    names_apart : (entries : List (ℕ × R)) → AreFound name_of key_of entries → AllPairs (λ a b. a ≢ b) (keys_of entries) → AllPairs (λ a b. a ≢ b) (names_of name_of entries)
    names_apart [] found keys = λ i j d below within. absurd (omega arith)
    names_apart (x ∷ entries) found keys = λ i j d below within same.
        let all : List (ℕ × R) = x ∷ entries in
        let long = length-map all (λ (e : ℕ × R). name_of e.1) in
        let low : i < length all = omega arith in
        let high : j < length all = omega arith in
        let name_i : get_or (names_of name_of all) i d ≡ name_of (get_or all i x).1 = get_or-map (λ (e : ℕ × R). name_of e.1) all i x d low in
        let name_j : get_or (names_of name_of all) j d ≡ name_of (get_or all j x).1 = get_or-map (λ (e : ℕ × R). name_of e.1) all j x d high in
        let key_i : get_or (keys_of all) i x.0 ≡ (get_or all i x).0 = get_or-map (λ (e : ℕ × R). e.0) all i x x.0 low in
        let key_j : get_or (keys_of all) j x.0 ≡ (get_or all j x).0 = get_or-map (λ (e : ℕ × R). e.0) all j x x.0 high in
        let one = same_Some (get_or all i x).0 (get_or all j x).0 (sym (found i x low) ∙ ap key_of (sym name_i ∙ same ∙ name_j) ∙ found j x high) in
        keys i j x.0 below (omega (arith, length-map all (λ (e : ℕ × R). e.0))) (key_i ∙ one ∙ sym key_j)

    pub table_distinct : (slot : ℕ → Option ℕ) (cells : List (Option (ℕ × R))) (len : ℕ) → IsTable name_of key_of slot cells len → AreDistinct name_of (entries_in cells)
    table_distinct slot cells len table =
        let keys = keys_apart cells (apart_from_placed slot cells table.placed) in
        record { keys = keys; names = names_apart (entries_in cells) table.named keys }

    -- Look-ups by name.

    named_cases : (entries : List (ℕ × R)) (name : List ℕ) → AreFound name_of key_of entries → AllPairs (λ a b. a ≢ b) (keys_of entries) → (named name_of entries name ≡ None) ⊎ ((x : ℕ × R) × (named name_of entries name ≡ Some x) × (key_of name ≡ Some x.0) × (record_at entries x.0 ≡ Some x.1) × (same_name (name_of x.1) name ≡ true))
    named_cases entries name found keys = step (named name_of entries name) refl
      where
        test : ℕ × R → Bool
        test e = same_name (name_of e.1) name

        step : (o : Option (ℕ × R)) → find test entries ≡ o → (find test entries ≡ None) ⊎ ((x : ℕ × R) × (find test entries ≡ Some x) × (key_of name ≡ Some x.0) × (record_at entries x.0 ≡ Some x.1) × (same_name (name_of x.1) name ≡ true))
        step None at = inl at
        step (Some x) at =
            let stands = find_at test entries x at in
            let passes = find_passes test entries x at in
            let P : ℕ × R → Type 0 = λ e. key_of (name_of e.1) ≡ Some e.0 in
            inr (x, at, ap key_of (sym (name_is (name_of x.1) name passes)) ∙ subst P stands.2 (found stands.0 x stands.1), record_at_found entries keys test x at, passes)

    pub key_none : (entries : List (ℕ × R)) (name : List ℕ) → AreFound name_of key_of entries → AllPairs (λ a b. a ≢ b) (keys_of entries) → key_of name ≡ None → key_named name_of entries name ≡ None
    key_none entries name found keys none = elim (named_cases entries name found keys) [
      | inl gone ↦ ap (λ o. option_map (λ (e : ℕ × R). e.0) o) gone
      | inr there ↦ absurd (none-some there.0.0 (sym none ∙ there.2))
    ]

    pub key_gone : (entries : List (ℕ × R)) (name : List ℕ) (key : ℕ) → AreFound name_of key_of entries → AllPairs (λ a b. a ≢ b) (keys_of entries) → key_of name ≡ Some key → record_at entries key ≡ None → key_named name_of entries name ≡ None
    key_gone entries name key found keys at none = elim (named_cases entries name found keys) [
      | inl gone ↦ ap (λ o. option_map (λ (e : ℕ × R). e.0) o) gone
      | inr there ↦
          let same : there.0.0 ≡ key = same_Some there.0.0 key (sym there.2 ∙ at) in
          absurd (none-some there.0.1 (sym none ∙ ap (λ k. record_at entries k) (sym same) ∙ there.3))
    ]

    pub key_other : (entries : List (ℕ × R)) (name : List ℕ) (key : ℕ) (item : R) → AreFound name_of key_of entries → AllPairs (λ a b. a ≢ b) (keys_of entries) → key_of name ≡ Some key → record_at entries key ≡ Some item → same_name (name_of item) name ≡ false → key_named name_of entries name ≡ None
    key_other entries name key item found keys at has other = elim (named_cases entries name found keys) [
      | inl gone ↦ ap (λ o. option_map (λ (e : ℕ × R). e.0) o) gone
      | inr there ↦
          let same : there.0.0 ≡ key = same_Some there.0.0 key (sym there.2 ∙ at) in
          let one : there.0.1 ≡ item = same_Some there.0.1 item (sym there.3 ∙ ap (λ k. record_at entries k) same ∙ has) in
          absurd (both_ways (same_name (name_of item) name) other (ap (λ r. same_name (name_of r) name) (sym one) ∙ there.4))
    ]

    pub key_same : (entries : List (ℕ × R)) (name : List ℕ) (key : ℕ) (item : R) → AreFound name_of key_of entries → AllPairs (λ a b. a ≢ b) (keys_of entries) → key_of name ≡ Some key → record_at entries key ≡ Some item → same_name (name_of item) name ≡ true → named name_of entries name ≡ Some (key, item)
    key_same entries name key item found keys at has same_as = elim (named_cases entries name found keys) [
      | inl gone ↦
          let stands = record_stands entries key item has in
          absurd (both_ways (same_name (name_of item) name) (ap (λ (e : ℕ × R). same_name (name_of e.1) name) (sym stands.2) ∙ find_none_at (λ e. same_name (name_of e.1) name) entries gone stands.0 (key, item) stands.1) same_as)
      | inr there ↦
          let same : there.0.0 ≡ key = same_Some there.0.0 key (sym there.2 ∙ at) in
          let one : there.0.1 ≡ item = same_Some there.0.1 item (sym there.3 ∙ ap (λ k. record_at entries k) same ∙ has) in
          there.1 ∙ (λ i. Some (same i, one i))
    ]
      where
        record_stands : (xs : List (ℕ × R)) (k : ℕ) (r : R) → record_at xs k ≡ Some r → (i : ℕ) × (i < length xs) × (get_or xs i (k, r) ≡ (k, r))
        record_stands xs k r h = step (find (λ e. e.0 == k) xs) refl h
          where
            step : (o : Option (ℕ × R)) → find (λ e. e.0 == k) xs ≡ o → option_map (λ e. e.1) o ≡ Some r → (i : ℕ) × (i < length xs) × (get_or xs i (k, r) ≡ (k, r))
            step None e p = cc
            step (Some x) e p =
                let stands = find_at (λ y. y.0 == k) xs x e in
                let first : x.0 ≡ k = eqb-true x.0 k (find_passes (λ y. y.0 == k) xs x e) in
                let second : x.1 ≡ r = same_Some x.1 r p in
                (stands.0, stands.1, get_or_default xs stands.0 (k, r) x stands.1 ∙ stands.2 ∙ (λ i. (first i, second i)))

    -- A name more.

    pub found_more : (more : List ℕ → Option ℕ) (entries : List (ℕ × R)) (e : ℕ × R) → AreFound name_of key_of entries → ((name : List ℕ) → more name ≡ cond (same_name (name_of e.1) name) (Some e.0) (key_of name)) → ((k : ℕ) (d : ℕ × R) → k < length entries → name_of (get_or entries k d).1 ≢ name_of e.1) → AreFound name_of more (entries ++ e ∷ [])
    found_more more entries e found changed apart =
        All-push (λ x. more (name_of x.1) ≡ Some x.0) entries e
        (λ k d within.
        let x = get_or entries k d in
        let other : same_name (name_of e.1) (name_of x.1) ≡ false = name_differs (name_of e.1) (name_of x.1) (λ same. apart k d within (sym same)) in
        changed (name_of x.1) ∙ ap (λ b. cond b (Some e.0) (key_of (name_of x.1))) other ∙ found k d within)
        (changed (name_of e.1) ∙ ap (λ b. cond b (Some e.0) (key_of (name_of e.1))) (name_same (name_of e.1) (name_of e.1) refl))
