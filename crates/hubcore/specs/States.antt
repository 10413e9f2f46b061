-- What is known of the editors and the viewers of a design (own).
use Rattle.std.specs.Prelude.{ℕ, List, [], replicate}
use Rattle.edits.specs.declared.edit.Edit.{Edit}

-- a viewer: the length of the greatest snapshot that it saw or was told of, and those that it holds, each by its length, which is
-- the number of commits before it
pub record ViewerRecord : Type 0 where
  pub seen : ℕ
  pub held : List ℕ

-- the accepted commits in order, how many of them are shown, and the viewers
pub record CoreRecord : Type 0 where
  pub log : List (List Edit)
  pub shown : ℕ
  pub viewers : List ViewerRecord

abbrev pub viewer : ℕ → List ℕ → ViewerRecord
viewer seen held = record { seen = seen; held = held }

abbrev pub state : List (List Edit) → ℕ → List ViewerRecord → CoreRecord
state log shown viewers = record { log = log; shown = shown; viewers = viewers }

-- at first nothing was committed, and so many viewers saw nothing
abbrev pub opened : ℕ → CoreRecord
opened viewers = state [] 0 (replicate viewers (viewer 0 []))
