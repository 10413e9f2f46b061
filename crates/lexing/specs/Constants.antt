-- Constants of one bit (IEEE 1364-2005, 3.5.1).
use Rattle.std.specs.Prelude.{ℕ, Bool, ◌==◌, ◌&&◌, ◌||◌, if◌then◌else◌, List, length, slice_index, nat_le}
use Rattle.lexing.specs.Classes.{is_value_digit}
use Rattle.fourstate.specs.declared.value.Value.{Value}
use Rattle.fourstate.specs.declared.value.Value.TheVariants.{Zero, One, Unknown, HighZ}

-- 1'b or 1'B and a value stand in front of the bytes
unfoldable pub begins_constant : List ℕ → Bool
begins_constant bytes =
    nat_le 4 (length bytes) && (slice_index bytes 0 == 49 && (slice_index bytes 1 == 39
    && ((slice_index bytes 2 == 98 || slice_index bytes 2 == 66) && is_value_digit (slice_index bytes 3))))

-- the value that a digit of a constant writes
abbrev pub value_of_digit : ℕ → Value
value_of_digit b =
    if b == 48 then Zero else (if b == 49 then One else (if b == 122 || b == 90 then HighZ else Unknown))

-- the value of a constant: that of its fourth byte
abbrev pub constant_of : List ℕ → Value
constant_of bytes = value_of_digit (slice_index bytes 3)
