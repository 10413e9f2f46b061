use Rattle.std.proofs.Common.{◌<◌, ◌++◌, length, arith}
use Rattle.std.proofs.lemmas.Grind.{common_steps}
use Rattle.design.specs.Keys.{netlist}
use Rattle.differences.specs.declared.room.Difference.{Difference}
use Rattle.differences.specs.kept.Found.{names_in}
use Rattle.differences.proofs.StepLemmas.{one_line_more}
use Rattle.differences.proofs.lines.write_all.Goals as goal

pub loop-difference-preserved : goal.loop-difference-preserved
loop-difference-preserved g c =
    let all = names_in (netlist c.args.design.now) ++ names_in (netlist c.args.other.now) in
    let none : Difference = record { moment = 0; number = 0 } in
    let within : c.loop-difference.difference-index < length c.deref-difference-items.result.now = omega arith in
    let more =
    one_line_more all c.args.room.now.found.items c.deref-difference-items.result.now c.loop-difference.difference-index none c.name_of-name.result.now
    c.deref-difference-items.ensures.value within c.name_of-name.ensures
    in
    rw more (grind (arith, common_steps))
