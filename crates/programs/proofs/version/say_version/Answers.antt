use Rattle.std.proofs.Common.{codes}
use Rattle.devices.specs.Outgoing.{Adds}
use Rattle.programs.specs.kept.TextLaws.{adds_then}
use Rattle.programs.specs.declared.version.TheConstants.{VERSION}
use Rattle.programs.proofs.version.say_version.Goals as goal

pub returns : goal.returns
returns g c =
    let name : Adds c.args.writer.now c.text.new.self c.args.program.now = rw c.as_bytes.ensures.value at c.text.ensures.adds in
    let number : Adds c.text-2.new.self c.text-3.new.self VERSION.now = rw c.as_bytes-2.ensures.value at c.text-3.ensures.adds in
    let start = c.args.writer.now in
    let two = adds_then start c.text.new.self c.text-2.new.self c.args.program.now (codes " ") name c.text-2.ensures.adds in
    let three = adds_then start c.text-2.new.self c.text-3.new.self _ VERSION.now two number in
    adds_then start c.text-3.new.self c.text-4.new.self _ (codes "\n") three c.text-4.ensures.adds
