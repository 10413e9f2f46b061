-- The table of the names of a text: a name is known by its place in it, its number. Two names are the same where their bytes are.
use Rattle.std.specs.Prelude.{ℕ, if◌then◌else◌, List, [], ◌∷◌, ◌++◌, Option, position}
use Rattle.std.specs.List.{list_any, slice_index_or}
use Rattle.std.specs.Str.{bytes_eq}

-- the number of a name; none of one that is not there
abbrev pub number_of : List (List ℕ) → List ℕ → Option ℕ
number_of names bytes = position (bytes_eq bytes) names

-- the bytes of the name of a number
abbrev pub name_at : List (List ℕ) → ℕ → List ℕ
name_at names n = slice_index_or names n []

-- the table with a name more: a new one goes last
abbrev pub with_name : List (List ℕ) → List ℕ → List (List ℕ)
with_name names bytes = if list_any (bytes_eq bytes) names then names else names ++ bytes ∷ []
