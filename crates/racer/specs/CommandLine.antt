-- The form of the command line, as `clap` sees it: DESIGN SCRIPT VIEWERS LOOKS, or a call for help or for the version. The words come
-- without the program's name.
use Rattle.std.specs.Prelude.{Bool, List, Option, codes}
use Rattle.clap.specs.Words.{App, Rule, Text, with_rule}
use Rattle.programs.specs.CommandLine as line

abbrev pub design_rule : Rule
design_rule = line.positional_rule (codes "design")

abbrev pub script_rule : Rule
script_rule = line.positional_rule (codes "script")

abbrev pub viewers_rule : Rule
viewers_rule = line.positional_rule (codes "viewers")

abbrev pub looks_rule : Rule
looks_rule = line.positional_rule (codes "looks")

unfoldable pub command_line : App
command_line =
    with_rule (with_rule (with_rule (with_rule (line.of_program (codes "gaterace")) design_rule) script_rule) viewers_rule) looks_rule

-- `clap` takes the words
abbrev pub is_taken : List Text → Bool
is_taken words = line.is_taken command_line words

-- the first value that `clap` finds for an argument
abbrev pub value_of : Text → List Text → Option Text
value_of name words = line.value_of command_line name words
