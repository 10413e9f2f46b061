use Rattle.std.proofs.Common.{◌++◌, codes, decimal}
use Rattle.devices.specs.Outgoing.{Adds}
use Rattle.programs.specs.kept.TextLaws.{adds_then}
use Rattle.programs.proofs.refusal.say_range.Goals as goal

pub returns : goal.returns
returns g c =
    let start = c.args.writer.now in
    let two : Adds start c.number.new.self (codes "  [possible values: " ++ decimal c.args.least) =
    adds_then start c.text.new.self c.number.new.self (codes "  [possible values: ") (decimal c.args.least) c.text.ensures.adds c.number.ensures.adds in
    let three = adds_then start c.number.new.self c.text-2.new.self _ (codes " to ") two c.text-2.ensures.adds in
    let four = adds_then start c.text-2.new.self c.number-2.new.self _ (decimal c.args.most) three c.number-2.ensures.adds in
    adds_then start c.number-2.new.self c.text-3.new.self _ (codes ", in digits alone]\n\n") four c.text-3.ensures.adds
