use Rattle.std.proofs.Common.{suc}
use Rattle.design.specs.Keys.{netlist}
use Rattle.scratch.specs.kept.Grown.{grown_none}
use Rattle.scratch.specs.kept.Work.{work_from}
use Rattle.gatestep.proofs.Jobs.{on_err}
use Rattle.ordering.proofs.extending.extend.Goals as goal

pub returns-in_err-wiring-clause-part : goal.returns-in_err-wiring-clause-part
returns-in_err-wiring-clause-part g c =
    let d = netlist c.args.design.now in
    on_err c.from_residual.result (grown_none (g.S.Stepper.asked c.args.stepper.now) (work_from g.S.Stepper.answer d (suc (netlist c.args.former.now).horizon) (suc d.horizon)))

pub returns-in_err-find_order-clause-part : goal.returns-in_err-find_order-clause-part
returns-in_err-find_order-clause-part g c =
    let d = netlist c.args.design.now in
    on_err c.from_residual-in_err-find_order.result (grown_none (g.S.Stepper.asked c.args.stepper.now) (work_from g.S.Stepper.answer d (suc (netlist c.args.former.now).horizon) (suc d.horizon)))
