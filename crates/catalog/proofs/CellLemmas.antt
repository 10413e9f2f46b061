-- An order with gaps: its entries, and where they stand.
use Rattle.std.proofs.Common.{◌≡◌, ◌≢◌, ◌⊎◌, ℕ, zero, suc, ◌+◌, ◌<◌, ◌==◌, List, [], ◌∷◌, ◌++◌, length, take, get_or, Option, Some, None, is_some, sym, refl, ap, ◌∙◌, inl, inr, arith}
use Rattle.std.proofs.lemmas.Bool.{cases_eq, eq-eqb, ne_eqb}
use Rattle.std.proofs.lemmas.List.{get_or-set_other, get_or-set_same, get_or_append_left, get_or_push}
use Rattle.std.proofs.lemmas.List.Elements.{filter_map-append}
use Rattle.std.proofs.lemmas.Option.{none-some, same_Some}
use Rattle.std.specs.List.{filter, find, position_from, slice_set}
use Rattle.catalog.specs.kept.Catalog.{with_record, without_key}
use Rattle.catalog.specs.kept.Columns.{AreApart, ArePlaced, cell_at, entries_in}
use Rattle.catalog.proofs.EntryLemmas.{with_none, without_none}

module _ {R : Type 0} where
  pub cell_within : (cells : List (Option (ℕ × R))) (i : ℕ) (e : ℕ × R) → cell_at cells i ≡ Some e → i < length cells
  cell_within [] i e h = cc
  cell_within (cell ∷ cells) zero e h = omega arith
  cell_within (cell ∷ cells) (suc i) e h = let rest = cell_within cells i e h in omega (arith, rest)

  apart_tail : (cell : Option (ℕ × R)) (cells : List (Option (ℕ × R))) → AreApart (cell ∷ cells) → AreApart cells
  apart_tail cell cells h = λ i j d e at_i at_j same. let next : suc i ≡ suc j = h (suc i) (suc j) d e at_i at_j same in omega arith

  apart_head : (d e : ℕ × R) (cells : List (Option (ℕ × R))) (i : ℕ) → AreApart (Some d ∷ cells) → cell_at cells i ≡ Some e → d.0 ≢ e.0
  apart_head d e cells i h at = λ same. let first : zero ≡ suc i = h zero (suc i) d e refl at same in omega arith

  -- each entry stands in some cell
  pub entry_stands : (cells : List (Option (ℕ × R))) (k : ℕ) (d : ℕ × R) → k < length (entries_in cells) → (i : ℕ) × (cell_at cells i ≡ Some (get_or (entries_in cells) k d))
  entry_stands [] k d within = absurd (omega arith)
  entry_stands (None ∷ cells) k d within = let rest = entry_stands cells k d within in (suc rest.0, rest.1)
  entry_stands (Some e ∷ cells) zero d within = (zero, refl)
  entry_stands (Some e ∷ cells) (suc k) d within = let rest = entry_stands cells k d (omega arith) in (suc rest.0, rest.1)

  -- the entry of a cell is the one of its key, and its place is the count of the entries before
  pub entry_found : (cells : List (Option (ℕ × R))) (i n : ℕ) (e : ℕ × R) → AreApart cells → cell_at cells i ≡ Some e → (find (λ x. x.0 == e.0) (entries_in cells) ≡ Some e) × (position_from (λ x. x.0 == e.0) n (entries_in cells) ≡ Some (n + length (entries_in (take i cells))))
  entry_found [] i n e h at = cc
  entry_found (None ∷ cells) zero n e h at = cc
  entry_found (None ∷ cells) (suc i) n e h at = entry_found cells i n e (apart_tail None cells h) at
  entry_found (Some d ∷ cells) zero n e h at =
      let same : d ≡ e = same_Some d e at in
      rw (eq-eqb d.0 e.0 (ap (λ x. x.0) same)) (at, ap Some (omega arith))
  entry_found (Some d ∷ cells) (suc i) n e h at =
      let rest = entry_found cells i (n + 1) e (apart_tail (Some d) cells h) at in
      rw (ne_eqb d.0 e.0 (apart_head d e cells i h at)) (rest.0, rest.1 ∙ ap Some (omega arith))

  -- a key of no cell is a key of no entry
  pub entry_absent : (cells : List (Option (ℕ × R))) (key n : ℕ) → ((i : ℕ) (e : ℕ × R) → cell_at cells i ≡ Some e → e.0 ≢ key) → (find (λ x. x.0 == key) (entries_in cells) ≡ None) × (position_from (λ x. x.0 == key) n (entries_in cells) ≡ None)
  entry_absent [] key n h = (refl, refl)
  entry_absent (None ∷ cells) key n h = entry_absent cells key n (λ i e at. h (suc i) e at)
  entry_absent (Some d ∷ cells) key n h = rw (ne_eqb d.0 key (h zero d refl)) (entry_absent cells key (n + 1) (λ i e at. h (suc i) e at))

  -- An entry more.

  pub entries_push : (cells : List (Option (ℕ × R))) (e : ℕ × R) → entries_in (cells ++ Some e ∷ []) ≡ entries_in cells ++ e ∷ []
  entries_push cells e = filter_map-append (λ cell. cell) cells (Some e ∷ [])

  cell_push : (cells : List (Option (ℕ × R))) (e x : ℕ × R) (i : ℕ) → cell_at (cells ++ Some e ∷ []) i ≡ Some x → (cell_at cells i ≡ Some x) ⊎ ((i ≡ length cells) × (e ≡ x))
  cell_push [] e x zero at = inr (refl, same_Some e x at)
  cell_push [] e x (suc i) at = inl at
  cell_push (cell ∷ cells) e x zero at = inl at
  cell_push (cell ∷ cells) e x (suc i) at =
      elim (cell_push cells e x i at) [ inl old ↦ inl old | inr new ↦ inr (ap (λ n. suc n) new.0, new.1) ]

  cell_push_old : (cells : List (Option (ℕ × R))) (e x : ℕ × R) (i : ℕ) → cell_at cells i ≡ Some x → cell_at (cells ++ Some e ∷ []) i ≡ Some x
  cell_push_old cells e x i at = get_or_append_left cells (Some e ∷ []) None i (cell_within cells i x at) ∙ at

  pub placed_push : (slot more : ℕ → Option ℕ) (cells : List (Option (ℕ × R))) (key : ℕ) (item : R) → ArePlaced slot cells → slot key ≡ None → more key ≡ Some (length cells) → ((other : ℕ) → other ≢ key → more other ≡ slot other) → ArePlaced more (cells ++ Some (key, item) ∷ [])
  placed_push slot more cells key item placed fresh there others = record {
    forward = λ i x at.
        elim (cell_push cells (key, item) x i at) [
          | inl old ↦
              let was : slot x.0 ≡ Some i = placed.forward i x old in
              others x.0 (λ same. none-some i (sym fresh ∙ ap slot (sym same) ∙ was)) ∙ was
          | inr new ↦ ap more (sym (ap (λ e. e.0) new.1)) ∙ there ∙ ap Some (sym new.0)
        ];
    back = λ k i at.
        elim (cases_eq k key) [
          | inl same ↦
              let index : length cells ≡ i = same_Some (length cells) i (sym there ∙ ap more (sym same) ∙ at) in
              let e : ℕ × R = (key, item) in
              (e, get_or_push cells (Some e) None i index, sym same)
          | inr other ↦
              let old = placed.back k i (sym (others k other) ∙ at) in
              (old.0, cell_push_old cells (key, item) old.0 i old.1, old.2)
        ];
  }

  -- Cells that are placed are apart.

  pub apart_from_placed : (slot : ℕ → Option ℕ) (cells : List (Option (ℕ × R))) → ArePlaced slot cells → AreApart cells
  apart_from_placed slot cells placed = λ i j d e at_i at_j same. same_Some i j (sym (placed.forward i d at_i) ∙ ap slot same ∙ placed.forward j e at_j)

  -- An entry replaced.

  pub entries_set : (cells : List (Option (ℕ × R))) (i : ℕ) (e : ℕ × R) (item : R) → AreApart cells → cell_at cells i ≡ Some e → entries_in (slice_set cells i (Some (e.0, item))) ≡ with_record (entries_in cells) e.0 item
  entries_set [] i e item h at = cc
  entries_set (None ∷ cells) zero e item h at = cc
  entries_set (None ∷ cells) (suc i) e item h at = entries_set cells i e item (apart_tail None cells h) at
  entries_set (Some d ∷ cells) zero e item h at =
      let same : d.0 ≡ e.0 = ap (λ x. x.0) (same_Some d e at) in
      let none : with_record (entries_in cells) e.0 item ≡ entries_in cells =
      with_none (entries_in cells) e.0 item (λ k x within again.
      let stands = entry_stands cells k x within in
      apart_head d (get_or (entries_in cells) k x) cells stands.0 h stands.1 (same ∙ sym again)) in
      let back = sym none in
      let first = sym same in
      rw (eq-eqb d.0 e.0 same) (λ j. (first j, item) ∷ back j)
  entries_set (Some d ∷ cells) (suc i) e item h at =
      rw (ne_eqb d.0 e.0 (apart_head d e cells i h at)) (ap (λ l. d ∷ l) (entries_set cells i e item (apart_tail (Some d) cells h) at))

  pub placed_set : (slot : ℕ → Option ℕ) (cells : List (Option (ℕ × R))) (i : ℕ) (e : ℕ × R) (item : R) → ArePlaced slot cells → cell_at cells i ≡ Some e → ArePlaced slot (slice_set cells i (Some (e.0, item)))
  placed_set slot cells i e item placed at = record {
    forward = λ j x there.
        elim (cases_eq j i) [
          | inl same ↦
              let new : Some (e.0, item) ≡ Some x = sym (get_or-set_same cells i (Some (e.0, item)) None (cell_within cells i e at)) ∙ ap (λ n. cell_at (slice_set cells i (Some (e.0, item))) n) (sym same) ∙ there in
              ap slot (sym (ap (λ y. y.0) (same_Some (e.0, item) x new))) ∙ placed.forward i e at ∙ ap Some (sym same)
          | inr other ↦ placed.forward j x (sym (get_or-set_other cells i j (Some (e.0, item)) None other) ∙ there)
        ];
    back = λ k j there.
        let old = placed.back k j there in
        elim (cases_eq j i) [
          | inl same ↦
              let x : ℕ × R = (e.0, item) in
              let was : Some old.0 ≡ Some e = sym old.1 ∙ ap (λ n. cell_at cells n) same ∙ at in
              (x, ap (λ n. cell_at (slice_set cells i (Some (e.0, item))) n) same ∙ get_or-set_same cells i (Some (e.0, item)) None (cell_within cells i e at), sym (ap (λ y. y.0) (same_Some old.0 e was)) ∙ old.2)
          | inr other ↦ (old.0, get_or-set_other cells i j (Some (e.0, item)) None other ∙ old.1, old.2)
        ];
  }

  -- An entry taken away.

  pub entries_clear : (cells : List (Option (ℕ × R))) (i : ℕ) (e : ℕ × R) → AreApart cells → cell_at cells i ≡ Some e → entries_in (slice_set cells i None) ≡ without_key (entries_in cells) e.0
  entries_clear [] i e h at = cc
  entries_clear (None ∷ cells) zero e h at = cc
  entries_clear (None ∷ cells) (suc i) e h at = entries_clear cells i e (apart_tail None cells h) at
  entries_clear (Some d ∷ cells) zero e h at =
      let same : d.0 ≡ e.0 = ap (λ x. x.0) (same_Some d e at) in
      let none : without_key (entries_in cells) e.0 ≡ entries_in cells =
      without_none (entries_in cells) e.0 (λ k x within again.
      let stands = entry_stands cells k x within in
      apart_head d (get_or (entries_in cells) k x) cells stands.0 h stands.1 (same ∙ sym again)) in
      rw (eq-eqb d.0 e.0 same) (sym none)
  entries_clear (Some d ∷ cells) (suc i) e h at =
      rw (ne_eqb d.0 e.0 (apart_head d e cells i h at)) (ap (λ l. d ∷ l) (entries_clear cells i e (apart_tail (Some d) cells h) at))

  pub count_clear : (cells : List (Option (ℕ × R))) (i : ℕ) (e : ℕ × R) → cell_at cells i ≡ Some e → length (entries_in (slice_set cells i None)) + 1 ≡ length (entries_in cells)
  count_clear [] i e at = cc
  count_clear (None ∷ cells) zero e at = cc
  count_clear (None ∷ cells) (suc i) e at = count_clear cells i e at
  count_clear (Some d ∷ cells) zero e at = omega arith
  count_clear (Some d ∷ cells) (suc i) e at = let rest = count_clear cells i e at in omega (arith, rest)

  pub placed_clear : (slot left : ℕ → Option ℕ) (cells : List (Option (ℕ × R))) (i : ℕ) (e : ℕ × R) → ArePlaced slot cells → cell_at cells i ≡ Some e → left e.0 ≡ None → ((other : ℕ) → other ≢ e.0 → left other ≡ slot other) → ArePlaced left (slice_set cells i None)
  placed_clear slot left cells i e placed at gone others = record {
    forward = λ j x there.
        elim (cases_eq j i) [
          | inl same ↦ absurd (none-some x (sym (get_or-set_same cells i None None (cell_within cells i e at)) ∙ ap (λ n. cell_at (slice_set cells i None) n) (sym same) ∙ there))
          | inr other ↦
              let was : cell_at cells j ≡ Some x = sym (get_or-set_other cells i j None None other) ∙ there in
              others x.0 (λ same. other (apart_from_placed slot cells placed j i x e was at same)) ∙ placed.forward j x was
        ];
    back = λ k j there.
        elim (cases_eq k e.0) [
          | inl same ↦ absurd (none-some j (sym gone ∙ ap left (sym same) ∙ there))
          | inr other ↦
              let old = placed.back k j (sym (others k other) ∙ there) in
              (old.0, get_or-set_other cells i j None None (λ same. other (sym old.2 ∙ ap (λ y. y.0) (same_Some old.0 e (sym old.1 ∙ ap (λ n. cell_at cells n) same ∙ at)))) ∙ old.1, old.2)
        ];
  }

  -- No gap.

  pub entries_filtered : (cells : List (Option (ℕ × R))) → entries_in (filter (λ cell. is_some cell) cells) ≡ entries_in cells
  entries_filtered [] = refl
  entries_filtered (None ∷ cells) = entries_filtered cells
  entries_filtered (Some e ∷ cells) = ap (λ l. e ∷ l) (entries_filtered cells)

  -- each entry that a filter keeps stands in some cell
  pub filtered_stands : (cells : List (Option (ℕ × R))) (i : ℕ) (e : ℕ × R) → cell_at (filter (λ cell. is_some cell) cells) i ≡ Some e → (j : ℕ) × (cell_at cells j ≡ Some e)
  filtered_stands [] i e at = cc
  filtered_stands (None ∷ cells) i e at = let rest = filtered_stands cells i e at in (suc rest.0, rest.1)
  filtered_stands (Some d ∷ cells) zero e at = (zero, at)
  filtered_stands (Some d ∷ cells) (suc i) e at = let rest = filtered_stands cells i e at in (suc rest.0, rest.1)

  pub stands_filtered : (cells : List (Option (ℕ × R))) (j : ℕ) (e : ℕ × R) → cell_at cells j ≡ Some e → (i : ℕ) × (cell_at (filter (λ cell. is_some cell) cells) i ≡ Some e)
  stands_filtered [] j e at = cc
  stands_filtered (None ∷ cells) zero e at = cc
  stands_filtered (None ∷ cells) (suc j) e at = stands_filtered cells j e at
  stands_filtered (Some d ∷ cells) zero e at = (zero, at)
  stands_filtered (Some d ∷ cells) (suc j) e at = let rest = stands_filtered cells j e at in (suc rest.0, rest.1)

  pub filtered_apart : (cells : List (Option (ℕ × R))) → AreApart cells → AreApart (filter (λ cell. is_some cell) cells)
  filtered_apart [] h = λ i j d e at_i at_j same. cc
  filtered_apart (None ∷ cells) h = filtered_apart cells (apart_tail None cells h)
  filtered_apart (Some x ∷ cells) h = step (filtered_apart cells (apart_tail (Some x) cells h))
    where
      step : AreApart (filter (λ cell. is_some cell) cells) → AreApart (filter (λ cell. is_some cell) (Some x ∷ cells))
      step rest zero zero d e at_i at_j same = refl
      step rest zero (suc j) d e at_i at_j same =
          let stands = filtered_stands cells j e at_j in
          absurd (apart_head x e cells stands.0 h stands.1 (ap (λ y. y.0) (same_Some x d at_i) ∙ same))
      step rest (suc i) zero d e at_i at_j same =
          let stands = filtered_stands cells i d at_i in
          absurd (apart_head x d cells stands.0 h stands.1 (ap (λ y. y.0) (same_Some x e at_j) ∙ sym same))
      step rest (suc i) (suc j) d e at_i at_j same = ap (λ n. suc n) (rest i j d e at_i at_j same)
