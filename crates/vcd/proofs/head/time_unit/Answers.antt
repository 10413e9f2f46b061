use Rattle.std.proofs.Common.{ℕ, List, ◌++◌}
use Rattle.std.specs.Prelude.{codes}
use Rattle.devices.specs.Outgoing.{Adds}
use Rattle.vcd.specs.Head.{magnitude_text, unit_text}
use Rattle.vcd.proofs.Ways.{both}
use Rattle.vcd.proofs.head.time_unit.Goals as goal

pub returns : goal.returns
returns g c =
    let t1 : List ℕ = codes "$timescale " ++ magnitude_text c.args.time.magnitude in
    let t2 : List ℕ = t1 ++ codes " " in
    let t3 : List ℕ = t2 ++ unit_text c.args.time.unit in
    let a1 : Adds c.args.writer.now c.magnitude.new.writer t1 = both c.args.writer.now c.text.new.self c.magnitude.new.writer (codes "$timescale ") (magnitude_text c.args.time.magnitude) c.text.ensures.adds c.magnitude.ensures in
    let a2 : Adds c.args.writer.now c.text-2.new.self t2 = both c.args.writer.now c.magnitude.new.writer c.text-2.new.self t1 (codes " ") a1 c.text-2.ensures.adds in
    let a3 : Adds c.args.writer.now c.unit.new.writer t3 = both c.args.writer.now c.text-2.new.self c.unit.new.writer t2 (unit_text c.args.time.unit) a2 c.unit.ensures in
    both c.args.writer.now c.unit.new.writer c.text-3.new.self t3 (codes " $end\n") a3 c.text-3.ensures.adds
