use Rattle.std.proofs.Common.{suc, subst}
use Rattle.std.proofs.lemmas.Result.{on_err_weaker, on_ok_weaker}
use Rattle.design.specs.Keys.{netlist}
use Rattle.scratch.specs.Asked.{IsAskedInPart, IsAskedInSomeOrder}
use Rattle.scratch.proofs.Asked.{from_is}
use Rattle.scratch.proofs.extending.extend.Goals as goal

pub returns-clause-asked : goal.returns-clause-asked
returns-clause-asked g c =
    let asked = g.S.Stepper.asked in let d = netlist c.args.design.now in
    on_ok_weaker c.extend_beside.result
    (subst (IsAskedInSomeOrder (asked c.args.stepper.now) (asked c.extend_beside.new.stepper)) (from_is g.S.Stepper.answer d (suc (netlist c.args.former.now).horizon) (suc d.horizon))) c.extend_beside.ensures.asked

pub returns-clause-part : goal.returns-clause-part
returns-clause-part g c =
    let asked = g.S.Stepper.asked in let d = netlist c.args.design.now in
    on_err_weaker c.extend_beside.result
    (subst (IsAskedInPart (asked c.args.stepper.now) (asked c.extend_beside.new.stepper)) (from_is g.S.Stepper.answer d (suc (netlist c.args.former.now).horizon) (suc d.horizon))) c.extend_beside.ensures.part
