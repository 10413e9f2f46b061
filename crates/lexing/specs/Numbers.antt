-- Decimal numbers (IEEE 1364-2005, 3.5.1).
use Rattle.std.specs.Prelude.{ℕ, ◌+◌, ◌-◌, ◌*◌, List, if◌then◌else◌, min}
use Rattle.std.specs.List.{fold}
use Rattle.lexing.specs.Classes.{is_digit}

-- a number with one more byte behind it; what is no digit has no value
abbrev pub with_byte : ℕ → ℕ → ℕ
with_byte n b = if is_digit b then 10 * n + (b - 48) else n

-- the number that the bytes write; one above 2^32 - 1 counts as 2^32 - 1 (own)
abbrev pub number_of : List ℕ → ℕ
number_of bytes = min 4294967295 (fold with_byte 0 bytes)
