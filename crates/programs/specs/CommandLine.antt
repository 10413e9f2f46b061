-- The form of a command line, as `clap` sees it.
use Rattle.std.specs.Prelude.{◌==◌, Bool, true, List, Option, Some, length}
use Rattle.clap.specs.Words.{App, Rule, Shape, Text, fault_of, first_of, matches_of, new_app, new_rule}
use Rattle.clap.specs.Simple.{on_top}

-- a word that is known by its place
abbrev pub positional_rule : Text → Rule
positional_rule name = record (new_rule name) { value_names = 1 }

-- an option of this name with one value
abbrev pub option_rule : Text → Rule
option_rule name = record (new_rule name) { long = Some name; value_names = 1 }

-- the words are those after the program's name
abbrev pub nameless : Shape → Shape
nameless s = record s { no_binary_name = true }

-- `--version` and `-V` ask for the version
abbrev pub versioned : Shape → Shape
versioned s = record s { has_version = true }

-- the command line of a program of this name, without words yet
abbrev pub of_program : Text → App
of_program name = on_top versioned (on_top nameless (new_app name))

-- `clap` takes the words
unfoldable pub is_taken : App → List Text → Bool
is_taken form words = length (fault_of form words) == 0

-- the first value that `clap` finds for an argument
unfoldable pub value_of : App → Text → List Text → Option Text
value_of form name words = first_of name (matches_of form words)
