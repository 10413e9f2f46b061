-- Keys that are numbered one after another.
use Rattle.std.proofs.Common.{◌≡◌, ℕ, ◌<◌, List, Option, Some, None, is_some, true, sym, refl, ap, ◌∙◌}
use Rattle.std.proofs.lemmas.Option.{same_Some}
use Rattle.std.specs.List.{filter}
use Rattle.catalog.specs.kept.Columns.{AreKnown, ArePlaced, cell_at}
use Rattle.catalog.proofs.CellLemmas.{filtered_stands, stands_filtered}

-- the keys of the entries before an index stand where they say, and the same keys are known
pub record AreNumbered {R : Type 0} (old new : ℕ → Option ℕ) (cells : List (Option (ℕ × R))) (n : ℕ) : Type 0 where
  pub there : (i : ℕ) (e : ℕ × R) → i < n → cell_at cells i ≡ Some e → new e.0 ≡ Some i
  pub same : (key : ℕ) → is_some (new key) ≡ is_some (old key)

some_of : (o : Option ℕ) → is_some o ≡ true → (i : ℕ) × (o ≡ Some i)
some_of None h = cc
some_of (Some i) h = (i, refl)

module _ {R : Type 0} where
  -- keys that are numbered anew are placed in the order without its gaps
  pub numbered_placed : (slot new : ℕ → Option ℕ) (cells : List (Option (ℕ × R))) → ArePlaced slot cells → ((i : ℕ) (e : ℕ × R) → cell_at (filter (λ cell. is_some cell) cells) i ≡ Some e → new e.0 ≡ Some i) → ((key : ℕ) → is_some (new key) ≡ is_some (slot key)) → ArePlaced new (filter (λ cell. is_some cell) cells)
  numbered_placed slot new cells placed there same = record {
    forward = there;
    back = λ key i at.
        let old = some_of (slot key) (sym (same key) ∙ ap is_some at) in
        let was = placed.back key old.0 old.1 in
        let e = was.0 in
        let now = stands_filtered cells old.0 e was.1 in
        let one : now.0 ≡ i = same_Some now.0 i (sym (there now.0 e now.1) ∙ ap new was.2 ∙ at) in
        (e, ap (λ n. cell_at (filter (λ cell. is_some cell) cells) n) (sym one) ∙ now.1, was.2);
  }

  -- each key of the order without its gaps is known
  pub filtered_known : (slot known : ℕ → Option ℕ) (cells : List (Option (ℕ × R))) → ArePlaced slot cells → ((key : ℕ) → known key ≡ slot key) → AreKnown known (filter (λ cell. is_some cell) cells)
  filtered_known slot known cells placed same = λ i e at.
      let stands = filtered_stands cells i e at in
      ap is_some (same e.0 ∙ placed.forward stands.0 e stands.1)
