-- Timelines by key.
use Rattle.std.specs.Prelude.{◌≡◌, ℕ, ◌==◌, if◌then◌else◌, List, Option, None}
use Rattle.std.specs.List.{slice_index_or}

module _ {X : Type 0} where
  -- what stands under a key
  abbrev pub line_at : List (Option X) → ℕ → Option X
  line_at lines key = slice_index_or lines key None

  -- this stands under the key now, and under each other key what stood there
  abbrev pub IsChangedAt : ℕ → Option X → List (Option X) → List (Option X) → Type 0
  IsChangedAt key line old new = (k : ℕ) → line_at new k ≡ (if k == key then line else line_at old k)

  -- under each key stands what stood there
  abbrev pub IsUnchanged : List (Option X) → List (Option X) → Type 0
  IsUnchanged old new = (k : ℕ) → line_at new k ≡ line_at old k
