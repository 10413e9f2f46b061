use Rattle.std.proofs.Common.{sym, ap, ◌∙◌}
use Rattle.session.specs.declared.commands.request.Request.TheVariants.{Plain}
use Rattle.session.specs.Commands.{command_of}
use Rattle.session.proofs.ToolLemmas.{read_as_ever}
use Rattle.session.proofs.commands.tool.read_by.Goals as goal

pub returns-in_default : goal.returns-in_default
returns-in_default c =
    let read = c.read-command.ensures in
    ap Plain read ∙ sym (read_as_ever c.args.tools c.args.line.now (command_of c.args.line.now) (λ is. c.in_default.not-Unreadable (read ∙ is)))
