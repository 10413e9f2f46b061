use Rattle.programs.specs.kept.TextLaws.{adds_then}
use Rattle.app.proofs.refusal.say_complaint.Goals as goal

pub returns-in-Horizon : goal.returns-in-Horizon
returns-in-Horizon g c =
    let value = rw c.as_str.ensures.value at c.say_value.ensures in
    rw c.in-Horizon.is (adds_then c.args.writer.now c.say_value.new.writer c.say_range.new.writer _ _ value c.say_range.ensures)

pub returns-in-Workers : goal.returns-in-Workers
returns-in-Workers g c =
    let value = rw c.as_str-in-Workers.ensures.value at c.say_value-in-Workers.ensures in
    let range = rw c.from.ensures at c.say_range-in-Workers.ensures in
    rw c.in-Workers.is (adds_then c.args.writer.now c.say_value-in-Workers.new.writer c.say_range-in-Workers.new.writer _ _ value range)

pub returns-in-Delay : goal.returns-in-Delay
returns-in-Delay g c =
    let value = rw c.as_str-in-Delay.ensures.value at c.say_value-in-Delay.ensures in
    rw c.in-Delay.is (adds_then c.args.writer.now c.say_value-in-Delay.new.writer c.say_range-in-Delay.new.writer _ _ value c.say_range-in-Delay.ensures)
