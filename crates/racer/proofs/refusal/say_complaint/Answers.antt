use Rattle.programs.specs.kept.TextLaws.{adds_then}
use Rattle.racer.proofs.refusal.say_complaint.Goals as goal

pub returns-in-Viewers : goal.returns-in-Viewers
returns-in-Viewers g c =
    let value = rw c.as_str.ensures.value at c.say_value.ensures in
    let range = rw c.from.ensures at c.say_range.ensures in
    rw c.in-Viewers.is (adds_then c.args.writer.now c.say_value.new.writer c.say_range.new.writer _ _ value range)

pub returns-in-Looks : goal.returns-in-Looks
returns-in-Looks g c =
    let value = rw c.as_str-in-Looks.ensures.value at c.say_value-in-Looks.ensures in
    let range = rw c.from-in-Looks.ensures at c.say_range-in-Looks.ensures in
    rw c.in-Looks.is (adds_then c.args.writer.now c.say_value-in-Looks.new.writer c.say_range-in-Looks.new.writer _ _ value range)
