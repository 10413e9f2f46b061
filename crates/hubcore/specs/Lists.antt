-- Lists of commits in place of their lengths: what editors and viewers in threads know of one another (own).
use Rattle.std.specs.Prelude.{◌≡◌, ℕ, ◌==◌, List, ◌++◌, length, map, nat_le, if◌then◌else◌}
use Rattle.std.specs.List.{filter}
use Rattle.edits.specs.declared.edit.Edit.{Edit}

-- an accepted commit: the number of its editor, and its edits
pub record EntryRecord : Type 0 where
  pub editor : ℕ
  pub edits : List Edit

abbrev pub entry : ℕ → List Edit → EntryRecord
entry editor edits = record { editor = editor; edits = edits }

-- a list begins with another one
abbrev pub StartsWith : List EntryRecord → List EntryRecord → Type 0
StartsWith log front = (rest : List EntryRecord) × (log ≡ front ++ rest)

-- the longer of two lists; the first where they are as long
abbrev pub longer : List EntryRecord → List EntryRecord → List EntryRecord
longer one other = if nat_le (length other) (length one) then one else other

-- the edits of each commit
abbrev pub lists_of : List EntryRecord → List (List Edit)
lists_of log = map (λ (e : EntryRecord). e.edits) log

-- the commits of one editor
abbrev pub commits_of : ℕ → List EntryRecord → List EntryRecord
commits_of editor log = filter (λ (e : EntryRecord). e.editor == editor) log
