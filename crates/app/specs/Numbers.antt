-- The numbers of the command line.
use Rattle.std.specs.Prelude.{ℕ, List, Option}
use Rattle.fourstate.specs.declared.limits.TheConstants.{MAX_DELAY, MAX_TIME}
use Rattle.programs.specs.Numbers.{number_of_text}

-- the horizon that a text writes: 0 to the last moment
abbrev pub horizon_of_text : List ℕ → Option ℕ
horizon_of_text = number_of_text 0 MAX_TIME

-- the number of workers that a text writes: 1 to 64
abbrev pub workers_of_text : List ℕ → Option ℕ
workers_of_text = number_of_text 1 64

-- the delay that a text writes: 1 to the greatest delay
abbrev pub delay_of_text : List ℕ → Option ℕ
delay_of_text = number_of_text 1 MAX_DELAY
