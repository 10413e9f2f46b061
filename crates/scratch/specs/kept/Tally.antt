-- How many drivers of a net give each value.
use Rattle.std.specs.Prelude.{ℕ, List, if◌then◌else◌, count_by}
use Rattle.fourstate.specs.declared.value.Value.{Value}
use Rattle.fourstate.specs.declared.value.Value.TheVariants.{Zero, One, Unknown}
use Rattle.fourstate.specs.Values.{same_value}
use Rattle.scratch.specs.declared.tally.Tally.{Tally}

-- how often a value counts as another one
abbrev pub times : Value → Value → ℕ
times v value = if same_value v value then 1 else 0

-- the tally of drivers that give these values
abbrev pub tally_of : List Value → Tally
tally_of values =
    record { zeros = count_by (same_value Zero) values; ones = count_by (same_value One) values; unknowns = count_by (same_value Unknown) values }
