-- What a gate whose inputs are all alike has to know of them, in one number.
use Rattle.std.specs.Prelude.{ℕ, ◌+◌, ◌*◌, List, [], ◌∷◌}
use Rattle.std.specs.List.{slice_index_or}
use Rattle.fourstate.specs.declared.inputs.TheConstants.{SUMMARIES}
use Rattle.fourstate.specs.declared.value.Value.{Value}
use Rattle.fourstate.specs.declared.value.Value.TheVariants.{Zero, One, Unknown, HighZ}

-- the number of a value
abbrev pub number_of : Value → ℕ
number_of Zero = 0
number_of One = 1
number_of Unknown = 2
number_of HighZ = 3

-- the summary once this value is among them too
abbrev pub next_summary : ℕ → Value → ℕ
next_summary summary v = slice_index_or SUMMARIES (4 * summary + number_of v) 0

-- the summary of these values
abbrev pub summary_of : List Value → ℕ
summary_of [] = 0
summary_of (v ∷ values) = next_summary (summary_of values) v

-- the first value, x where there is none
abbrev pub first_of : List Value → Value
first_of [] = Unknown
first_of (v ∷ values) = v

-- the second value, x where there is none
abbrev pub second_of : List Value → Value
second_of [] = Unknown
second_of (v ∷ values) = first_of values
