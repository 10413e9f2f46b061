use Rattle.std.proofs.Common.{suc, subst, arith}
use Rattle.std.proofs.lemmas.Result.{on_err_weaker, on_ok_weaker}
use Rattle.design.specs.Keys.{netlist}
use Rattle.event_queue.proofs.Changes.{held_err}
use Rattle.scratch.specs.Asked.{IsAskedInPart, IsAskedInSomeOrder}
use Rattle.scratch.specs.kept.Open.{all_from, open_work_at}
use Rattle.scratch.proofs.Asked.{early_at_first, from_scratch, part_from_scratch}
use Rattle.scratch.proofs.run.simulate_beside.Goals as goal

pub returns-clause-asked : goal.returns-clause-asked
returns-clause-asked g c =
    let asked = g.S.Stepper.asked in let d = netlist c.args.design.now in let answer = g.S.Stepper.answer in
    let work = open_work_at (g.B.Beside.is_open answer d c.args.beside.now) answer d in
    on_ok_weaker c.run_on.result
    (λ grown. from_scratch work (asked c.args.stepper.now) (asked c.open.new.stepper) (asked c.run_on.new.stepper) (suc d.horizon) (omega arith) c.in_ok-engine.ensures.asked
    (subst (λ o. IsAskedInSomeOrder (asked c.open.new.stepper) (asked c.run_on.new.stepper) (all_from (open_work_at o answer d) 1 (suc d.horizon))) c.in_ok-engine.ensures.same grown))
    c.run_on.ensures.asked

pub returns-clause-part : goal.returns-clause-part
returns-clause-part g c =
    let asked = g.S.Stepper.asked in let d = netlist c.args.design.now in let answer = g.S.Stepper.answer in
    let work = open_work_at (g.B.Beside.is_open answer d c.args.beside.now) answer d in
    on_err_weaker c.run_on.result
    (λ grown. part_from_scratch work (asked c.args.stepper.now) (asked c.open.new.stepper) (asked c.run_on.new.stepper) (suc d.horizon) (omega arith) c.in_ok-engine.ensures.asked
    (subst (λ o. IsAskedInPart (asked c.open.new.stepper) (asked c.run_on.new.stepper) (all_from (open_work_at o answer d) 1 (suc d.horizon))) c.in_ok-engine.ensures.same grown))
    c.run_on.ensures.part

pub returns-in_err-engine-clause-part : goal.returns-in_err-engine-clause-part
returns-in_err-engine-clause-part g c =
    let asked = g.S.Stepper.asked in let d = netlist c.args.design.now in let answer = g.S.Stepper.answer in
    held_err c.from_residual.result
    (early_at_first (open_work_at (g.B.Beside.is_open answer d c.args.beside.now) answer d) (asked c.args.stepper.now) (asked c.open.new.stepper) (suc d.horizon) (omega arith) c.in_err-engine.ensures.part)
