-- The columns of a catalog: where each key's entry stands, and the order, in which a removal leaves a gap.
use Rattle.std.specs.Prelude.{◌≡◌, ℕ, List, Option, Some, None, IsSome}
use Rattle.std.specs.List.{filter_map, slice_index_or}

module _ {R : Type 0} where
  -- the entries of an order, without its gaps
  abbrev pub entries_in : List (Option (ℕ × R)) → List (ℕ × R)
  entries_in cells = filter_map (λ cell. cell) cells

  -- the entry at an index, where there is one
  abbrev pub cell_at : List (Option (ℕ × R)) → ℕ → Option (ℕ × R)
  cell_at cells index = slice_index_or cells index None

  -- no two entries have the same key
  abbrev pub AreApart : List (Option (ℕ × R)) → Type 0
  AreApart cells = (i j : ℕ) (d e : ℕ × R) → cell_at cells i ≡ Some d → cell_at cells j ≡ Some e → d.0 ≡ e.0 → i ≡ j

  -- each entry's key has an index
  abbrev pub AreKnown : (ℕ → Option ℕ) → List (Option (ℕ × R)) → Type 0
  AreKnown slot cells = (index : ℕ) (e : ℕ × R) → cell_at cells index ≡ Some e → IsSome (slot e.0)

  -- each entry stands where its key says, and each key's index has an entry of that key
  pub record ArePlaced (slot : ℕ → Option ℕ) (cells : List (Option (ℕ × R))) : Type 0 where
    pub forward : (index : ℕ) (e : ℕ × R) → cell_at cells index ≡ Some e → slot e.0 ≡ Some index
    pub back : (key index : ℕ) → slot key ≡ Some index → (e : ℕ × R) × (cell_at cells index ≡ Some e) × (e.0 ≡ key)
