use Rattle.std.proofs.Common.{◌∙◌, ap}
use Rattle.design.specs.Keys.{netlist}
use Rattle.rundiff.specs.Dirty.{rework_below}
use Rattle.resim.proofs.Asked.{front_at}
use Rattle.resim.proofs.level.open.Goals as goal

pub leap-requires-clause-front : goal.leap-requires-clause-front
leap-requires-clause-front g c =
    let answer = g.S.Stepper.answer in let old = netlist c.args.former.now.old.now in let new = netlist c.args.former.now.new.now in
    front_at answer old new c.in_ok-front.front 0 c.in_ok-front.front.done c.in_ok-front.ensures.done (c.in_ok-front.ensures.front answer)

pub returns-clause-idle : goal.returns-clause-idle
returns-clause-idle g c =
    let answer = g.S.Stepper.answer in let old = netlist c.args.former.now.old.now in let new = netlist c.args.former.now.new.now in
    c.in_ok-leap.ensures.idle ∙ ap (rework_below answer old new) c.in_ok-front.ensures.done
