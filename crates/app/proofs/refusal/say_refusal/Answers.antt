use Rattle.app.specs.Refusals.{help_text, refusal_text}
use Rattle.programs.specs.kept.TextLaws.{adds_then}
use Rattle.app.proofs.refusal.say_refusal.Goals as goal

pub returns : goal.returns
unfolding refusal_text
returns g c =
    adds_then c.args.writer.now c.say_complaint.new.writer c.say_help.new.writer _ (help_text c.args.program) c.say_complaint.ensures c.say_help.ensures
