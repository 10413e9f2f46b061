use Rattle.std.proofs.Common.{◌≡◌, refl, subst}
use Rattle.std.proofs.lemmas.Result.{on_ok_weaker, on_err_weaker}
use Rattle.design.specs.Keys.{netlist}
use Rattle.ordering.specs.kept.Earlier.{begin_after}
use Rattle.ordering.specs.kept.OldRuns.{IsOldRun}
use Rattle.ordering.proofs.Besides.{beside_all, beside_part, is_old_run}
use Rattle.ordering.proofs.beside.go_beside.Goals as goal

pub run_in_order-requires-clause-begin : goal.run_in_order-requires-clause-begin
run_in_order-requires-clause-begin g c =
    let answer = g.S.Stepper.answer in let old = netlist c.args.former.now.old.now in let new = netlist c.args.former.now.new.now in let run = c.args.old.now in
    let law = c.dirty_by_lines.ensures in let states = law.states old new run c.lawful.ensures.design c.requires.old in let inputs = law.inputs old new run c.lawful-2.ensures.design c.requires.old in
    let whole = law.trace old new run c.lawful.ensures.design c.requires.old in
    record {
      earlier = c.requires.earlier;
      old = λ lent is. let same : c.args.old ≡ lent = cc in subst (λ r. IsOldRun answer new r.now) same (is_old_run answer old new run c.requires.old c.requires.horizon states inputs whole (law.dirty old new));
    }

pub returns-clause-asked : goal.returns-clause-asked
returns-clause-asked g c =
    let answer = g.S.Stepper.answer in let old = netlist c.args.former.now.old.now in let new = netlist c.args.former.now.new.now in let run = c.args.old.now in
    let law = c.dirty_by_lines.ensures in let states = law.states old new run c.lawful.ensures.design c.requires.old in let inputs = law.inputs old new run c.lawful-2.ensures.design c.requires.old in
    let whole = law.trace old new run c.lawful.ensures.design c.requires.old in
    on_ok_weaker c.run_in_order.result
    (beside_all answer old new run c.requires.old c.requires.horizon states inputs whole (law.dirty old new) c.args.old refl (begin_after c.args.earlier) c.args.order.now c.requires.order
    (g.S.Stepper.asked c.args.stepper.now) (g.S.Stepper.asked c.run_in_order.new.stepper))
    c.run_in_order.ensures.asked

pub returns-clause-part : goal.returns-clause-part
returns-clause-part g c =
    let answer = g.S.Stepper.answer in let old = netlist c.args.former.now.old.now in let new = netlist c.args.former.now.new.now in let run = c.args.old.now in
    let law = c.dirty_by_lines.ensures in let states = law.states old new run c.lawful.ensures.design c.requires.old in let inputs = law.inputs old new run c.lawful-2.ensures.design c.requires.old in
    let whole = law.trace old new run c.lawful.ensures.design c.requires.old in
    on_err_weaker c.run_in_order.result
    (beside_part answer old new run c.requires.old c.requires.horizon states inputs whole (law.dirty old new) c.args.old refl (begin_after c.args.earlier) c.args.order.now c.requires.order
    (g.S.Stepper.asked c.args.stepper.now) (g.S.Stepper.asked c.run_in_order.new.stepper))
    c.run_in_order.ensures.part
