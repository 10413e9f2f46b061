use Rattle.std.proofs.Common.{suc, subst}
use Rattle.std.proofs.lemmas.Result.{on_err_weaker, on_ok_weaker}
use Rattle.design.specs.Keys.{netlist}
use Rattle.scratch.specs.Asked.{IsAskedInPart, IsAskedInSomeOrder}
use Rattle.scratch.proofs.Asked.{below_is}
use Rattle.scratch.proofs.run.simulate_wired.Goals as goal

pub returns-clause-asked : goal.returns-clause-asked
returns-clause-asked g c =
    let asked = g.S.Stepper.asked in let d = netlist c.args.design.now in
    on_ok_weaker c.simulate_beside.result (subst (IsAskedInSomeOrder (asked c.args.stepper.now) (asked c.simulate_beside.new.stepper)) (below_is g.S.Stepper.answer d (suc d.horizon))) c.simulate_beside.ensures.asked

pub returns-clause-part : goal.returns-clause-part
returns-clause-part g c =
    let asked = g.S.Stepper.asked in let d = netlist c.args.design.now in
    on_err_weaker c.simulate_beside.result (subst (IsAskedInPart (asked c.args.stepper.now) (asked c.simulate_beside.new.stepper)) (below_is g.S.Stepper.answer d (suc d.horizon))) c.simulate_beside.ensures.part
