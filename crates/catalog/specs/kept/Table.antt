-- What a catalog keeps of its names and columns.
use Rattle.std.specs.Prelude.{◌≡◌, ℕ, List, Option, Some, length, All}
use Rattle.catalog.specs.kept.Columns.{ArePlaced, entries_in}

-- each name had its record's key last
abbrev pub AreFound : {R : Type 0} → (R → List ℕ) → (List ℕ → Option ℕ) → List (ℕ × R) → Type 0
AreFound name_of key_of entries = All (λ e. key_of (name_of e.1) ≡ Some e.0) entries

-- the keys of the names, where each key stands, the order and the count of its entries agree
pub record IsTable {R : Type 0} (name_of : R → List ℕ) (key_of : List ℕ → Option ℕ) (slot : ℕ → Option ℕ) (cells : List (Option (ℕ × R))) (len : ℕ) : Type 0 where
  pub placed : ArePlaced slot cells
  pub named : AreFound name_of key_of (entries_in cells)
  pub counted : len ≡ length (entries_in cells)
