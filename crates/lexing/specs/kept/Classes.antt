-- Bytes that begin neither white space nor a token of several bytes.
use Rattle.std.specs.Prelude.{ℕ, Bool, ◌==◌, ◌&&◌, ◌||◌, not}
use Rattle.lexing.specs.Classes.{is_letter, is_digit, is_printed}

-- a byte that prints, no letter and no digit, and none of ( / \ and the grave accent: it begins neither white space nor a longer token
unfoldable pub is_mark : ℕ → Bool
is_mark b = is_printed b && not (is_letter b || is_digit b || b == 40 || b == 47 || b == 92 || b == 96)
