-- Classes of bytes (IEEE 1364-2005, 3.2, 3.5, 3.7).
use Rattle.std.specs.Prelude.{ℕ, Bool, ◌==◌, ◌&&◌, ◌||◌, nat_le}

-- from this byte up to that one
abbrev pub is_between : ℕ → ℕ → ℕ → Bool
is_between low high b = nat_le low b && nat_le b high

-- a tab, a line feed, a form feed, a carriage return or a blank
unfoldable pub is_space : ℕ → Bool
is_space b = b == 9 || b == 10 || b == 12 || b == 13 || b == 32

-- A to Z, a to z or _
unfoldable pub is_letter : ℕ → Bool
is_letter b = is_between 65 90 b || is_between 97 122 b || b == 95

-- 0 to 9
unfoldable pub is_digit : ℕ → Bool
is_digit b = is_between 48 57 b

-- a letter, _, a digit or $
unfoldable pub is_name_byte : ℕ → Bool
is_name_byte b = is_letter b || is_digit b || b == 36

-- a digit or _
unfoldable pub is_number_byte : ℕ → Bool
is_number_byte b = is_digit b || b == 95

-- one of the bytes that print, save the blank
unfoldable pub is_printed : ℕ → Bool
is_printed b = is_between 33 126 b

-- 0, 1, x, X, z or Z
unfoldable pub is_value_digit : ℕ → Bool
is_value_digit b = b == 48 || b == 49 || b == 120 || b == 88 || b == 122 || b == 90
