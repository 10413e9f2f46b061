use Rattle.devices.specs.Outgoing.{Adds}
use Rattle.racer.specs.Refusals.{refusal_text}
use Rattle.racer.specs.declared.help.TheConstants.{HELP}
use Rattle.programs.specs.kept.TextLaws.{adds_then}
use Rattle.racer.proofs.refusal.say_refusal.Goals as goal

pub returns : goal.returns
unfolding refusal_text
returns g c =
    let help : Adds c.say_complaint.new.writer c.text.new.self HELP.now = rw c.as_bytes.ensures.value at c.text.ensures.adds in
    adds_then c.args.writer.now c.say_complaint.new.writer c.text.new.self _ HELP.now c.say_complaint.ensures help
