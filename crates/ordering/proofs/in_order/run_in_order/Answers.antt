use Rattle.std.proofs.Common.{sym, suc, subst}
use Rattle.std.proofs.lemmas.Result.{on_err_weaker}
use Rattle.design.specs.Keys.{netlist}
use Rattle.gatestep.proofs.Jobs.{on_err}
use Rattle.scratch.specs.Asked.{IsAskedInPart}
use Rattle.scratch.specs.kept.Grown.{grown_none}
use Rattle.ordering.specs.kept.Earlier.{begin_after}
use Rattle.ordering.specs.kept.Order.{order_work_from}
use Rattle.ordering.proofs.in_order.run_in_order.Goals as goal

pub returns-in_err-ahead-clause-part : goal.returns-in_err-ahead-clause-part
returns-in_err-ahead-clause-part g c =
    let d = netlist c.args.design.now in
    on_err c.from_residual.result
    (grown_none (g.S.Stepper.asked c.args.stepper.now) (order_work_from g.S.Stepper.answer d c.args.begin.old (begin_after c.args.begin.earlier) (suc d.horizon) c.args.order.now))

pub returns-in_err-let_help-clause-part : goal.returns-in_err-let_help-clause-part
returns-in_err-let_help-clause-part g c =
    let d = netlist c.args.design.now in let old = g.S.Stepper.asked c.args.stepper.now in let work = order_work_from g.S.Stepper.answer d c.args.begin.old (begin_after c.args.begin.earlier) (suc d.horizon) c.args.order.now in
    on_err c.from_residual-in_err-let_help.result (subst (λ l. IsAskedInPart old l work) (sym c.let_help.ensures.asked) (grown_none old work))

pub returns-clause-part : goal.returns-clause-part
returns-clause-part g c =
    let d = netlist c.args.design.now in let work = order_work_from g.S.Stepper.answer d c.args.begin.old (begin_after c.args.begin.earlier) (suc d.horizon) c.args.order.now in
    on_err_weaker c.run_along-2.result (λ part. subst (λ l. IsAskedInPart l (g.S.Stepper.asked c.run_along-2.new.stepper) work) c.let_help.ensures.asked part) c.run_along-2.ensures.part
