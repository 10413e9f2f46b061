use Rattle.std.proofs.Common.{suc}
use Rattle.design.specs.Keys.{netlist}
use Rattle.scratch.specs.kept.Grown.{grown_none}
use Rattle.ordering.specs.kept.Earlier.{begin_after}
use Rattle.ordering.specs.kept.Order.{order_work_from}
use Rattle.gatestep.proofs.Jobs.{on_err}
use Rattle.ordering.proofs.in_order.run_along.Goals as goal

pub returns-in_err-lines-clause-part : goal.returns-in_err-lines-clause-part
returns-in_err-lines-clause-part g c =
    let d = netlist c.args.design.now in
    on_err c.from_residual.result
    (grown_none (g.S.Stepper.asked c.args.stepper.now) (order_work_from g.S.Stepper.answer d c.args.begin.old (begin_after c.args.begin.earlier) (suc d.horizon) c.args.order.now))
