-- What editors submit.
use Rattle.std.specs.Prelude.{ℕ, List}
use Rattle.edits.specs.declared.edit.Edit.{Edit}

-- an editor, by its number, and its commits, in order
pub record HandRecord : Type 0 where
  pub number : ℕ
  pub commits : List (List Edit)

abbrev pub hand_of : ℕ → List (List Edit) → HandRecord
hand_of number commits = record { number = number; commits = commits }
