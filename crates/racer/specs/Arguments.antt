-- What the words after the program's name ask for.
use Rattle.std.specs.Prelude.{ℕ, List, Option, None, Some, codes, if◌then◌else◌, option_and_then}
use Rattle.clap.specs.Words.{Text}
use Rattle.racer.specs.CommandLine.{is_taken, value_of}
use Rattle.racer.specs.Numbers.{looks_of_text, viewers_of_text}

pub record Arguments : Type 0 where
  pub design : List ℕ
  pub script : List ℕ
  pub viewers : ℕ
  pub looks : ℕ

-- the arguments, if each is there
abbrev pub arguments_of : (design script : Option Text) → (viewers looks : Option ℕ) → Option Arguments
arguments_of (Some d) (Some s) (Some v) (Some l) = Some (record { design = d; script = s; viewers = v; looks = l })
arguments_of _ _ _ _ = None

-- the arguments of four words, if the last two are numbers of their ranges
abbrev pub arguments_by : (design script viewers looks : Option Text) → Option Arguments
arguments_by design script viewers looks = arguments_of design script (option_and_then viewers_of_text viewers) (option_and_then looks_of_text looks)

-- what the words ask for: None where `clap` refuses them, one is missing, or a number is out of its range or no number
unfoldable pub asked : List Text → Option Arguments
asked words =
    if is_taken words
    then arguments_by (value_of (codes "design") words) (value_of (codes "script") words) (value_of (codes "viewers") words) (value_of (codes "looks") words)
    else None
