-- The book in which a hub keeps its accepted commits, for proofs alone, and what a step adds to it (own).
use Rattle.std.specs.Prelude.{◌≡◌, ℕ, ◌==◌, true, List, [], ◌∷◌, ◌++◌, length, MatchBool}
use Rattle.logbook.specs.Pages.{Book, Cell, Named, Step, View}
use Rattle.hubcore.specs.Lists.{EntryRecord}

-- what tells one hub from another in proofs: the book of its commits, and the ledgers of what each editor was told, by their names
pub record HubBooks : Type 0 where
  pub history : Book
  pub first_told : ℕ
  pub second_told : ℕ

-- the first word of the book is the number of its entries; the second one is not used
abbrev pub IsCounted : List Cell → List EntryRecord → Type 0
IsCounted cells log = cells ≡ (length log, true) ∷ (0, true) ∷ []

abbrev pub count_word : Book → Named
count_word book = record { tracked = true; key = 0; book = book }

-- either the commit was added behind all that was seen, or the book had more entries, which are seen then
abbrev pub Adds : Step EntryRecord → View EntryRecord ℕ → ℕ → View EntryRecord ℕ → Type 0
Adds step before found now = MatchBool (found == step.old) (now.0 ≡ before.0 ++ step.ask ∷ []) (length now.0 ≡ found)
