-- What each word of the tables of words has and means.
use Rattle.std.specs.Prelude.{Bool, ℕ, ◌-◌, List, length, map, take}
use Rattle.std.specs.Char.{is_ascii_lowercase}
use Rattle.std.specs.List.{list_all}
use Rattle.vtext.specs.declared.word.Word.{Word}
use Rattle.vtext.specs.Keywords.{plain_word}

-- small letters but for the last byte, as those of each word are
abbrev pub is_wordlike : List ℕ → Bool
is_wordlike bytes = list_all is_ascii_lowercase (take (length bytes - 1) bytes)

-- what each name of a table says where it is not escaped
abbrev pub meanings_of : List (List ℕ) → List Word
meanings_of names = map (plain_word names) names
