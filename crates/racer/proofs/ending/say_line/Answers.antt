use Rattle.std.proofs.Common.{codes, decimal}
use Rattle.programs.specs.kept.TextLaws.{adds_then}
use Rattle.racer.proofs.ending.say_line.Goals as goal

pub returns : goal.returns
returns g c =
    let start = c.args.writer.now in
    let two = adds_then start c.text.new.self c.number.new.self (codes "script line ") (decimal c.args.line) c.text.ensures.adds c.number.ensures.adds in
    adds_then start c.number.new.self c.text-2.new.self _ (codes "\n") two c.text-2.ensures.adds
