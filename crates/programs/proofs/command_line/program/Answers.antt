use Rattle.std.proofs.Common.{◌∙◌, ap}
use Rattle.clap.specs.Simple.{app_of_fields, on_top}
use Rattle.programs.specs.CommandLine.{nameless, versioned}
use Rattle.programs.proofs.command_line.program.Goals as goal

pub returns : goal.returns
returns c =
    ap app_of_fields c.version.ensures ∙ ap (on_top versioned) (ap app_of_fields c.no_binary_name.ensures ∙ ap (on_top nameless) c.new.ensures.app)
