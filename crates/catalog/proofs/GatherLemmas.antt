-- Names gathered from an order, cell by cell.
use Rattle.std.proofs.Common.{◌≡◌, ◌≢◌, ℕ, zero, suc, ◌+◌, ◌<◌, cond, List, [], ◌∷◌, ◌++◌, length, take, get_or, Option, Some, None, AllPairs, sym, ap, subst, ◌∙◌, arith}
use Rattle.std.proofs.lemmas.List.{append-nil, get_or-map, length-map, take_more}
use Rattle.std.proofs.lemmas.List.Elements.{filter_map-append}
use Rattle.std.proofs.lemmas.Option.{same_Some}
use Rattle.catalog.specs.Catalog.{same_name}
use Rattle.catalog.specs.kept.Catalog.{names_of}
use Rattle.catalog.specs.kept.Columns.{cell_at, entries_in}
use Rattle.catalog.specs.kept.Table.{AreFound}
use Rattle.catalog.proofs.CellLemmas.{cell_within, entries_push}
use Rattle.catalog.proofs.ListLemmas.{AllPairs-tail}
use Rattle.catalog.proofs.TableLemmas.{found_more}

module _ {R : Type 0} where
  entries_more : (cells : List (Option (ℕ × R))) (n : ℕ) (e : ℕ × R) → cell_at cells n ≡ Some e → entries_in (take (n + 1) cells) ≡ entries_in (take n cells) ++ e ∷ []
  entries_more cells n e at =
      ap entries_in (take_more cells n None (cell_within cells n e at) ∙ ap (λ cell. take n cells ++ cell ∷ []) at) ∙ entries_push (take n cells) e

  entries_still : (cells : List (Option (ℕ × R))) (n : ℕ) → n < length cells → cell_at cells n ≡ None → entries_in (take (n + 1) cells) ≡ entries_in (take n cells)
  entries_still cells n within gap =
      ap entries_in (take_more cells n None within ∙ ap (λ cell. take n cells ++ cell ∷ []) gap) ∙ filter_map-append (λ cell. cell) (take n cells) (None ∷ []) ∙ append-nil (entries_in (take n cells))

  -- the entry of a cell is among the entries
  entry_among : (cells : List (Option (ℕ × R))) (n : ℕ) (e : ℕ × R) → cell_at cells n ≡ Some e → (j : ℕ) × (j < length (entries_in cells)) × (get_or (entries_in cells) j e ≡ e)
  entry_among [] n e at = cc
  entry_among (None ∷ cells) zero e at = cc
  entry_among (None ∷ cells) (suc n) e at = entry_among cells n e at
  entry_among (Some x ∷ cells) zero e at = (zero, omega arith, same_Some x e at)
  entry_among (Some x ∷ cells) (suc n) e at = let rest = entry_among cells n e at in (suc rest.0, omega (arith, rest.1), rest.2)

  module _ (name_of : R → List ℕ) where
    names_before : (cells : List (Option (ℕ × R))) (n : ℕ) (e : ℕ × R) → AllPairs (λ a b. a ≢ b) (names_of name_of (entries_in cells)) → cell_at cells n ≡ Some e → (k : ℕ) (d : ℕ × R) → k < length (entries_in (take n cells)) → name_of (get_or (entries_in (take n cells)) k d).1 ≢ name_of e.1
    names_before [] n e distinct at k d within = cc
    names_before (cell ∷ cells) zero e distinct at k d within = absurd (omega arith)
    names_before (None ∷ cells) (suc n) e distinct at k d within = names_before cells n e distinct at k d within
    names_before (Some x ∷ cells) (suc n) e distinct at zero d within = λ same.
        let among = entry_among cells n e at in
        let f : ℕ × R → List ℕ = λ y. name_of y.1 in
        let there : get_or (names_of name_of (entries_in cells)) among.0 (name_of x.1) ≡ name_of e.1 = get_or-map f (entries_in cells) among.0 e (name_of x.1) among.1 ∙ ap f among.2 in
        distinct zero (suc among.0) (name_of x.1) (omega arith) (omega (arith, among.1, length-map (entries_in cells) f)) (same ∙ sym there)
    names_before (Some x ∷ cells) (suc n) e distinct at (suc k) d within =
        names_before cells n e (AllPairs-tail (λ a b. a ≢ b) (name_of x.1) (names_of name_of (entries_in cells)) distinct) at k d (omega arith)

    pub gathered_more : (key_of more : List ℕ → Option ℕ) (cells : List (Option (ℕ × R))) (n : ℕ) (e : ℕ × R) → AllPairs (λ a b. a ≢ b) (names_of name_of (entries_in cells)) → cell_at cells n ≡ Some e → AreFound name_of key_of (entries_in (take n cells)) → ((name : List ℕ) → more name ≡ cond (same_name (name_of e.1) name) (Some e.0) (key_of name)) → AreFound name_of more (entries_in (take (n + 1) cells))
    gathered_more key_of more cells n e distinct at found changed =
        subst (AreFound name_of more) (sym (entries_more cells n e at)) (found_more name_of key_of more (entries_in (take n cells)) e found changed (names_before cells n e distinct at))

    pub gathered_still : (key_of : List ℕ → Option ℕ) (cells : List (Option (ℕ × R))) (n : ℕ) → n < length cells → cell_at cells n ≡ None → AreFound name_of key_of (entries_in (take n cells)) → AreFound name_of key_of (entries_in (take (n + 1) cells))
    gathered_still key_of cells n within gap found = subst (AreFound name_of key_of) (sym (entries_still cells n within gap)) found
