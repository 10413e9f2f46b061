-- The four values (IEEE 1364-2005, 4.1).
use Rattle.std.specs.Prelude.{Bool, true, false, ℕ, ◌==◌, if◌then◌else◌, List, Option, Some, None}
use Rattle.std.specs.List.{list_any}
use Rattle.fourstate.specs.declared.value.Value.{Value}
use Rattle.fourstate.specs.declared.value.Value.TheVariants.{Zero, One, Unknown, HighZ}

-- two values are the same
abbrev pub same_value : Value → Value → Bool
same_value Zero Zero = true
same_value One One = true
same_value Unknown Unknown = true
same_value HighZ HighZ = true
same_value _ _ = false

-- a value is among the values
abbrev pub occurs : Value → List Value → Bool
occurs v values = list_any (same_value v) values

-- as a gate input reads a value: z acts as x
abbrev pub reading : Value → Value
reading HighZ = Unknown
reading v = v

-- a value inverted; x and z give x
abbrev pub inverse : Value → Value
inverse Zero = One
inverse One = Zero
inverse _ = Unknown

-- the byte that writes a value: 0, 1, x or z
abbrev pub symbol_of : Value → ℕ
symbol_of Zero = 48
symbol_of One = 49
symbol_of Unknown = 120
symbol_of HighZ = 122

-- the value that a byte writes
abbrev pub value_of_symbol : ℕ → Option Value
value_of_symbol byte =
    if byte == 48 then Some Zero else (if byte == 49 then Some One else (if byte == 120 then Some Unknown else (if byte == 122 then Some HighZ else None)))
