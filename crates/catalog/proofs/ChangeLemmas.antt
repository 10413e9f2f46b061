-- What a catalog keeps where it is changed.
use Rattle.std.proofs.Common.{◌≡◌, ◌≢◌, ℕ, zero, suc, ◌+◌, ◌-◌, ◌<◌, Bool, true, false, not, cond, ◌==◌, List, [], ◌∷◌, ◌++◌, length, get_or, Option, Some, None, IfSome, AllPairs, sym, refl, ap, subst, ◌∙◌, arith}
use Rattle.std.proofs.lemmas.Bool.{both_ways, eqb-true}
use Rattle.std.proofs.lemmas.List.{length-map, length_push}
use Rattle.std.proofs.lemmas.List.Elements.{All-cons, All-filter, All-tail}
use Rattle.std.specs.List.{slice_set}
use Rattle.catalog.specs.Catalog.{record_at, same_name}
use Rattle.catalog.specs.kept.Catalog.{key_named, keys_of, with_record}
use Rattle.catalog.specs.kept.Columns.{ArePlaced, cell_at, entries_in}
use Rattle.catalog.specs.kept.Table.{AreFound, IsTable}
use Rattle.catalog.proofs.CellLemmas.{apart_from_placed, count_clear, entries_clear, entries_push, entries_set, placed_clear, placed_push, placed_set}
use Rattle.catalog.proofs.EntryLemmas.{name_same, named_none, record_at_place}
use Rattle.catalog.proofs.ListLemmas.{find_none_at}
use Rattle.catalog.proofs.TableLemmas.{found_more}

module _ {R : Type 0} where
  placed_same : (slot same : ℕ → Option ℕ) (cells : List (Option (ℕ × R))) → ((key : ℕ) → same key ≡ slot key) → ArePlaced slot cells → ArePlaced same cells
  placed_same slot same cells e placed = record { forward = λ i x at. e x.0 ∙ placed.forward i x at; back = λ key i at. placed.back key i (sym (e key) ∙ at) }

  module _ (name_of : R → List ℕ) where
    found_same : (key_of same : List ℕ → Option ℕ) (entries : List (ℕ × R)) → ((name : List ℕ) → same name ≡ key_of name) → AreFound name_of key_of entries → AreFound name_of same entries
    found_same key_of same entries e found = λ k d within. e (name_of (get_or entries k d).1) ∙ found k d within

    -- the parts that a copy shares
    pub table_same : (key_of same_key : List ℕ → Option ℕ) (slot same_slot : ℕ → Option ℕ) (cells same : List (Option (ℕ × R))) (len : ℕ) → ((name : List ℕ) → same_key name ≡ key_of name) → ((key : ℕ) → same_slot key ≡ slot key) → same ≡ cells → IsTable name_of key_of slot cells len → IsTable name_of same_key same_slot same len
    table_same key_of same_key slot same_slot cells same len names slots order table =
        let P : List (Option (ℕ × R)) → Type 0 = λ l. IsTable name_of same_key same_slot l len in
        subst P (sym order) (record { placed = placed_same slot same_slot cells slots table.placed; named = found_same key_of same_key (entries_in cells) names table.named; counted = table.counted })

    -- An entry more.

    names_other : (entries : List (ℕ × R)) (name : List ℕ) → key_named name_of entries name ≡ None → (k : ℕ) (d : ℕ × R) → k < length entries → name_of (get_or entries k d).1 ≢ name
    names_other entries name none k d within = λ same.
        both_ways (same_name (name_of (get_or entries k d).1) name) (find_none_at (λ e. same_name (name_of e.1) name) entries (named_none name_of entries name none) k d within) (name_same (name_of (get_or entries k d).1) name same)

    pub table_push : (key_of more_key : List ℕ → Option ℕ) (slot more_slot : ℕ → Option ℕ) (cells : List (Option (ℕ × R))) (len key : ℕ) (item : R) → ArePlaced slot cells → AreFound name_of key_of (entries_in cells) → len ≡ length (entries_in cells) → key_named name_of (entries_in cells) (name_of item) ≡ None →
        slot key ≡ None → more_slot key ≡ Some (length cells) → ((other : ℕ) → other ≢ key → more_slot other ≡ slot other) → ((name : List ℕ) → more_key name ≡ cond (same_name (name_of item) name) (Some key) (key_of name)) → IsTable name_of more_key more_slot (cells ++ Some (key, item) ∷ []) (len + 1)
    table_push key_of more_key slot more_slot cells len key item placed found counted new fresh there others changed =
        let e : ℕ × R = (key, item) in
        let more = sym (entries_push cells e) in
        record {
          placed = placed_push slot more_slot cells key item placed fresh there others;
          named = subst (AreFound name_of more_key) more (found_more name_of key_of more_key (entries_in cells) e found changed (names_other (entries_in cells) (name_of item) new));
          counted = omega (arith, counted, length_push (entries_in cells) e, ap (λ (l : List (ℕ × R)). length l) more);
        }

    -- An entry replaced.

    found_with : (key_of : List ℕ → Option ℕ) (entries : List (ℕ × R)) (key : ℕ) (item : R) → ((k : ℕ) (d : ℕ × R) → k < length entries → (get_or entries k d).0 ≡ key → name_of (get_or entries k d).1 ≡ name_of item) → AreFound name_of key_of entries → AreFound name_of key_of (with_record entries key item)
    found_with key_of [] key item h found = found
    found_with key_of (e ∷ entries) key item h found =
        let P : ℕ × R → Type 0 = λ x. key_of (name_of x.1) ≡ Some x.0 in
        All-cons P (e.0, cond (e.0 == key) item e.1) (with_record entries key item) (step (e.0 == key) refl)
        (found_with key_of entries key item (λ k d within. h (suc k) d (omega arith)) (All-tail P e entries found))
      where
        step : (b : Bool) → (e.0 == key) ≡ b → key_of (name_of (cond b item e.1)) ≡ Some e.0
        step true at = ap key_of (sym (h zero e (omega arith) (eqb-true e.0 key at))) ∙ found zero e (omega arith)
        step false at = found zero e (omega arith)

    pub table_set : (key_of : List ℕ → Option ℕ) (slot : ℕ → Option ℕ) (cells : List (Option (ℕ × R))) (len i : ℕ) (e : ℕ × R) (item : R) → AllPairs (λ a b. a ≢ b) (keys_of (entries_in cells)) → cell_at cells i ≡ Some e → IfSome (record_at (entries_in cells) e.0) (λ old. name_of item ≡ name_of old) → IsTable name_of key_of slot cells len → IsTable name_of key_of slot (slice_set cells i (Some (e.0, item))) len
    table_set key_of slot cells len i e item keys at same table =
        let changed = sym (entries_set cells i e item (apart_from_placed slot cells table.placed) at) in
        let P : Option R → Type 0 = λ o. IfSome o (λ was. name_of item ≡ name_of was) in
        let write : ℕ × R → ℕ × R = λ x. (x.0, cond (x.0 == e.0) item x.1) in
        record {
          placed = placed_set slot cells i e item table.placed at;
          named =
              subst (AreFound name_of key_of) changed
              (found_with key_of (entries_in cells) e.0 item
              (λ k d within there. sym (subst P (sym (ap (λ n. record_at (entries_in cells) n) there) ∙ record_at_place (entries_in cells) keys k d within) same)) table.named);
          counted = table.counted ∙ sym (length-map (entries_in cells) write) ∙ ap (λ (l : List (ℕ × R)). length l) changed;
        }

    -- An entry taken away.

    pub table_clear : (key_of : List ℕ → Option ℕ) (slot left : ℕ → Option ℕ) (cells : List (Option (ℕ × R))) (len i : ℕ) (e : ℕ × R) → cell_at cells i ≡ Some e → left e.0 ≡ None → ((other : ℕ) → other ≢ e.0 → left other ≡ slot other) → IsTable name_of key_of slot cells len → IsTable name_of key_of left (slice_set cells i None) (len - 1)
    table_clear key_of slot left cells len i e at gone others table =
        let changed = sym (entries_clear cells i e (apart_from_placed slot cells table.placed) at) in
        record {
          placed = placed_clear slot left cells i e table.placed at gone others;
          named = subst (AreFound name_of key_of) changed (All-filter (λ x. not (x.0 == e.0)) (λ (x : ℕ × R). key_of (name_of x.1) ≡ Some x.0) (entries_in cells) table.named);
          counted = omega (arith, table.counted, count_clear cells i e at);
        }

    -- The gaps closed.

    pub table_close : (key_of : List ℕ → Option ℕ) (slot new : ℕ → Option ℕ) (cells closed : List (Option (ℕ × R))) (len : ℕ) → entries_in closed ≡ entries_in cells → ArePlaced new closed → IsTable name_of key_of slot cells len → IsTable name_of key_of new closed len
    table_close key_of slot new cells closed len same placed table = record {
      placed = placed;
      named = subst (AreFound name_of key_of) (sym same) table.named;
      counted = table.counted ∙ ap (λ (l : List (ℕ × R)). length l) (sym same);
    }
