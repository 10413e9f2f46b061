-- The numbers of a command line.
use Rattle.std.specs.Prelude.{ℕ, Bool, false, List, [], ◌∷◌, Option, None, Some, ◌&&◌, nat_le, nat_lt, if◌then◌else◌}
use Rattle.std.specs.List.{list_all}
use Rattle.std.specs.Char.{digit_value}
use Rattle.std.specs.Str.Parse.{digits_value}

abbrev pub is_digit : ℕ → Bool
is_digit byte = nat_lt (digit_value byte) 10

-- one digit or more, and nothing else
abbrev pub is_number : List ℕ → Bool
is_number [] = false
is_number (digit ∷ digits) = list_all is_digit (digit ∷ digits)

-- the number, if it is neither below the least nor above the most
abbrev pub within : (least most number : ℕ) → Option ℕ
within least most number = if nat_le least number && nat_le number most then Some number else None

-- the number of this range that a text writes, if it writes one
unfoldable pub number_of_text : (least most : ℕ) → List ℕ → Option ℕ
number_of_text least most text = if is_number text then within least most (digits_value 10 text) else None
