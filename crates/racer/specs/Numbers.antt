-- The numbers of the command line.
use Rattle.std.specs.Prelude.{ℕ, List, Option}
use Rattle.programs.specs.Numbers.{number_of_text}

-- the number of viewers that a text writes: 1 to 64
abbrev pub viewers_of_text : List ℕ → Option ℕ
viewers_of_text = number_of_text 1 64

-- the number of looks that a text writes: 1 to 1,000,000
abbrev pub looks_of_text : List ℕ → Option ℕ
looks_of_text = number_of_text 1 1000000
