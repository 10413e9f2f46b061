use Rattle.std.proofs.Common.{◌++◌, codes}
use Rattle.devices.specs.Outgoing.{Adds}
use Rattle.programs.specs.kept.TextLaws.{adds_then}
use Rattle.programs.proofs.refusal.say_value.Goals as goal

pub returns : goal.returns
returns g c =
    let value : Adds c.text.new.self c.text-2.new.self c.args.value.now = rw c.as_bytes.ensures.value at c.text-2.ensures.adds in
    let argument : Adds c.text-3.new.self c.text-4.new.self c.args.argument.now = rw c.as_bytes-2.ensures.value at c.text-4.ensures.adds in
    let start = c.args.writer.now in
    let two : Adds start c.text-2.new.self (codes "error: invalid value '" ++ c.args.value.now) =
    adds_then start c.text.new.self c.text-2.new.self (codes "error: invalid value '") c.args.value.now c.text.ensures.adds value in
    let three = adds_then start c.text-2.new.self c.text-3.new.self _ (codes "' for '") two c.text-3.ensures.adds in
    let four = adds_then start c.text-3.new.self c.text-4.new.self _ c.args.argument.now three argument in
    adds_then start c.text-4.new.self c.text-5.new.self _ (codes "'\n") four c.text-5.ensures.adds
