use Rattle.std.proofs.Common.{◌≡◌, ◌+◌, subst, suc, arith}
use Rattle.std.proofs.lemmas.Result.{on_err_weaker, on_ok_weaker}
use Rattle.design.specs.Keys.{netlist}
use Rattle.event_queue.proofs.Changes.{held_err}
use Rattle.scratch.specs.kept.Stands.{Stands}
use Rattle.scratch.specs.kept.Open.{all_from, open_work_at}
use Rattle.scratch.specs.Asked.{IsAskedInPart, IsAskedInSomeOrder}
use Rattle.scratch.specs.kept.Grown.{grown_none}
use Rattle.scratch.proofs.extending.extend_beside.Goals as goal

pub run_on-requires-clause-stands : goal.run_on-requires-clause-stands
run_on-requires-clause-stands g c =
    let answer = g.S.Stepper.answer in let former = c.args.former.now in let design = c.args.design.now in let engine = c.in_ok-engine.engine in
    let h = (netlist former).horizon in
    let start : suc h ≡ c.horizon-start.result + 1 = let is = c.horizon-start.ensures.horizon in omega arith in
    subst (Stands answer (netlist design) engine) start c.in_ok-engine.ensures

pub returns-clause-asked : goal.returns-clause-asked
returns-clause-asked g c =
    let asked = g.S.Stepper.asked in let d = netlist c.args.design.now in let work = open_work_at (g.B.Beside.is_open g.S.Stepper.answer d c.args.beside.now) g.S.Stepper.answer d in
    let start : c.horizon-start.result + 1 ≡ suc (netlist c.args.former.now).horizon = let is = c.horizon-start.ensures.horizon in omega arith in
    on_ok_weaker c.run_on.result (subst (λ n. IsAskedInSomeOrder (asked c.args.stepper.now) (asked c.run_on.new.stepper) (all_from work n (suc d.horizon))) start) c.run_on.ensures.asked

pub returns-clause-part : goal.returns-clause-part
returns-clause-part g c =
    let asked = g.S.Stepper.asked in let d = netlist c.args.design.now in let work = open_work_at (g.B.Beside.is_open g.S.Stepper.answer d c.args.beside.now) g.S.Stepper.answer d in
    let start : c.horizon-start.result + 1 ≡ suc (netlist c.args.former.now).horizon = let is = c.horizon-start.ensures.horizon in omega arith in
    on_err_weaker c.run_on.result (subst (λ n. IsAskedInPart (asked c.args.stepper.now) (asked c.run_on.new.stepper) (all_from work n (suc d.horizon))) start) c.run_on.ensures.part

pub returns-in_err-engine-clause-part : goal.returns-in_err-engine-clause-part
returns-in_err-engine-clause-part g c =
    let d = netlist c.args.design.now in let work = open_work_at (g.B.Beside.is_open g.S.Stepper.answer d c.args.beside.now) g.S.Stepper.answer d in
    held_err c.from_residual.result
    (grown_none (g.S.Stepper.asked c.args.stepper.now) (all_from work (suc (netlist c.args.former.now).horizon) (suc d.horizon)))
