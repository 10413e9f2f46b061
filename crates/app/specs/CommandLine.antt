-- The form of the command line, as `clap` sees it: DESIGN, `--horizon H`, `--workers N` and `--delay D`, each at most once, or a call for help or for the
-- version. The words come without the program's name.
use Rattle.std.specs.Prelude.{Bool, List, Option, codes}
use Rattle.clap.specs.Words.{App, Rule, Text, with_rule}
use Rattle.programs.specs.CommandLine as line

abbrev pub design_rule : Rule
design_rule = line.positional_rule (codes "design")

abbrev pub horizon_rule : Rule
horizon_rule = line.option_rule (codes "horizon")

abbrev pub workers_rule : Rule
workers_rule = line.option_rule (codes "workers")

abbrev pub delay_rule : Rule
delay_rule = line.option_rule (codes "delay")

unfoldable pub command_line : App
command_line =
    with_rule (with_rule (with_rule (with_rule (line.of_program (codes "gatebench")) design_rule) horizon_rule) workers_rule) delay_rule

-- `clap` takes the words
abbrev pub is_taken : List Text → Bool
is_taken words = line.is_taken command_line words

-- the first value that `clap` finds for an argument
abbrev pub value_of : Text → List Text → Option Text
value_of name words = line.value_of command_line name words
