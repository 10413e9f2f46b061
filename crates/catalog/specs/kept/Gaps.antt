-- The gaps of an order, and numbers that are counted up to a limit.
use Rattle.std.specs.Prelude.{◌≡◌, ℕ, zero, suc, ◌+◌, ◌*◌, ◌<◌, ◌≤◌, List, [], ◌∷◌, length, Option, None, Some, slice_get, slice_index}
use Rattle.catalog.specs.declared.ascending.TheConstants.{STRIDE}

-- the index of each gap, in order, where the first cell has this index
abbrev pub gaps_from : {X : Type 0} → ℕ → List (Option X) → List ℕ
gaps_from index [] = []
gaps_from index (None ∷ cells) = index ∷ gaps_from (suc index) cells
gaps_from index (Some e ∷ cells) = gaps_from (suc index) cells

-- so many entries stand before each gap
pub record AreCounts (gaps counts : List ℕ) : Type 0 where
  pub each : (i : ℕ) → i < length gaps → slice_index counts i + i ≡ slice_index gaps i
  pub all : length counts ≡ length gaps

-- so many of the first numbers, and no more, are at most the limit
pub record Splits (numbers : List ℕ) (limit count : ℕ) : Type 0 where
  pub within : count ≤ length numbers
  pub up_to : (i : ℕ) → suc i ≡ count → slice_index numbers i ≤ limit
  pub past : count < length numbers → limit < slice_index numbers count

-- a mark for each so many numbers says how many are at most that number
pub record AreMarks (numbers marks : List ℕ) : Type 0 where
  pub each : (i mark : ℕ) → slice_get marks i ≡ Some mark → Splits numbers (i * STRIDE) mark
  pub rising : (i mark next : ℕ) → slice_get marks i ≡ Some mark → slice_get marks (suc i) ≡ Some next → mark ≤ next
