-- What a gate gives by what its inputs' summary says.
use Rattle.std.specs.Prelude.{ℕ, ◌+◌, ◌*◌, Bool, if◌then◌else◌}
use Rattle.std.specs.List.{slice_index_or}
use Rattle.fourstate.specs.declared.gate.TheConstants.{RESULTS}
use Rattle.fourstate.specs.declared.value.Value.{Value}
use Rattle.fourstate.specs.declared.value.Value.TheVariants.{Zero}

-- what a gate of the kind of this number gives for inputs of this summary
abbrev pub result_of : (kind summary : ℕ) → Value
result_of kind summary = slice_index_or RESULTS (16 * kind + summary) Zero

-- the summary of values among which are a 0, a 1, an odd number of ones, and an x or a z
abbrev pub summary_by : (zero one odd unknown : Bool) → ℕ
summary_by zero one odd unknown = (if zero then 1 else 0) + (if one then 2 else 0) + (if odd then 4 else 0) + (if unknown then 8 else 0)

-- the value by what is among the inputs
abbrev pub value_by : ℕ → (zero one odd unknown : Bool) → Value
value_by kind zero one odd unknown = result_of kind (summary_by zero one odd unknown)
