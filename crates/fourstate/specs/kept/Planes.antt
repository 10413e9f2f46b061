-- The values of a gate's inputs in two numbers, one bit of each for every input: the lowest are those of the first.
use Rattle.std.specs.Prelude.{ℕ, zero, suc, ◌+◌, ◌*◌, ◌/◌, ◌%◌, ◌^◌, ◌<◌, ◌≤◌, ◌≡◌, List, [], ◌∷◌, length}
use Rattle.fourstate.specs.declared.inputs.Inputs.TheInside.{Inside}
use Rattle.fourstate.specs.kept.Summaries.{first_of, second_of, summary_of}
use Rattle.fourstate.specs.declared.limits.TheConstants.{MAX_INPUTS}
use Rattle.fourstate.specs.declared.value.Value.{Value}
use Rattle.fourstate.specs.declared.value.Value.TheVariants.{Zero, One, Unknown, HighZ}

-- the value that a bit of the low and one of the high number write
abbrev pub value_of_bits : (low high : ℕ) → Value
value_of_bits zero zero = Zero
value_of_bits (suc low) zero = One
value_of_bits zero (suc high) = Unknown
value_of_bits (suc low) (suc high) = HighZ

-- the bit of the low number that writes a value
abbrev pub low_bit : Value → ℕ
low_bit Zero = 0
low_bit One = 1
low_bit Unknown = 0
low_bit HighZ = 1

-- the bit of the high number that writes a value
abbrev pub high_bit : Value → ℕ
high_bit Zero = 0
high_bit One = 0
high_bit Unknown = 1
high_bit HighZ = 1

-- the values of so many inputs
abbrev pub values_of : (count low high : ℕ) → List Value
values_of zero low high = []
values_of (suc count) low high = value_of_bits (low % 2) (high % 2) ∷ values_of count (low / 2) (high / 2)

-- the number that has this bit for each of the values
abbrev pub plane_of : (Value → ℕ) → List Value → ℕ
plane_of bit [] = 0
plane_of bit (v ∷ values) = plane_of bit values * 2 + bit v

-- the values that inputs hold
abbrev pub inputs_of : Inside → List Value
inputs_of a = values_of a.len a.low a.high

-- the fields that hold these values
abbrev pub fields_of : List Value → Inside
fields_of values =
    record {
      low = plane_of low_bit values;
      high = plane_of high_bit values;
      len = length values;
      summary = summary_of values;
      first = first_of values;
      second = second_of values;
    }

-- no number has a bit without an input, and the other fields are those of the values
pub record AreInputs (a : Inside) : Type 0 where
  pub within : a.len ≤ MAX_INPUTS
  pub low_fits : a.low < 2 ^ a.len
  pub high_fits : a.high < 2 ^ a.len
  pub summary_is : a.summary ≡ summary_of (inputs_of a)
  pub first_is : a.first ≡ first_of (inputs_of a)
  pub second_is : a.second ≡ second_of (inputs_of a)
