-- Marks of the blocks of a list of entries: which digits there are in each.
use Rattle.std.specs.Prelude.{◌≡◌, ◌+◌, ◌*◌, ◌/◌, ◌<◌, ◌≤◌, ℕ, Bool, true, List, length, slice_index_or}

-- the place of the mark of a digit in the block of an entry: a block has 256 entries, and marks for four digits
abbrev pub mark_of : (place digit : ℕ) → ℕ
mark_of place digit = place / 256 * 4 + digit

-- Only whole blocks have marks. Where a mark says no, no entry of its block has its digit.
pub record AreMarks {A : Type 0} (digit : A → ℕ) (marks : List Bool) (entries : List (ℕ × A)) : Type 0 where
  pub whole : length marks ≤ length entries / 256 * 4
  pub shown : (place : ℕ) (d : ℕ × A) → place < length entries →
      slice_index_or marks (mark_of place (digit (slice_index_or entries place d).1)) true ≡ true
