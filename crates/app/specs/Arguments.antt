-- What the words after the program's name ask for.
use Rattle.std.specs.Prelude.{ℕ, List, Option, None, Some, codes, if◌then◌else◌, option_map}
use Rattle.clap.specs.Words.{Text}
use Rattle.app.specs.CommandLine.{is_taken, value_of}
use Rattle.app.specs.Numbers.{delay_of_text, horizon_of_text, workers_of_text}

pub record Arguments : Type 0 where
  pub design : List ℕ
  pub horizon : ℕ
  pub workers : ℕ
  pub delay : Option ℕ

-- the horizon that was given, or 1000
abbrev pub horizon_given : Option Text → Option ℕ
horizon_given None = Some 1000
horizon_given (Some text) = horizon_of_text text

-- the number of workers that was given, or 1
abbrev pub workers_given : Option Text → Option ℕ
workers_given None = Some 1
workers_given (Some text) = workers_of_text text

-- the delay that was given, if one was
abbrev pub delay_given : Option Text → Option (Option ℕ)
delay_given None = Some None
delay_given (Some text) = option_map (λ d. Some d) (delay_of_text text)

-- the arguments, if each is there
abbrev pub arguments_of : Option Text → (horizon workers : Option ℕ) → Option (Option ℕ) → Option Arguments
arguments_of (Some name) (Some h) (Some n) (Some d) = Some (record { design = name; horizon = h; workers = n; delay = d })
arguments_of _ _ _ _ = None

-- what the words ask for: None where `clap` refuses them, DESIGN is missing, or a number is out of its range or no number
unfoldable pub asked : List Text → Option Arguments
asked words =
    if is_taken words
    then arguments_of (value_of (codes "design") words) (horizon_given (value_of (codes "horizon") words))
    (workers_given (value_of (codes "workers") words)) (delay_given (value_of (codes "delay") words))
    else None
