use Rattle.std.proofs.Common.{subst, suc}
use Rattle.design.specs.Keys.{netlist}
use Rattle.scratch.specs.Asked.{IsAskedInSomeOrder}
use Rattle.rundiff.specs.Dirty.{rework_below}
use Rattle.resim.specs.Reruns.{HasGrownInPart}
use Rattle.bench.proofs.CommitLemmas.{asked_all, where_err}
use Rattle.bench.proofs.simulated.Simulated.from.Goals as goal

pub returns-in_err-run-clause-part : goal.returns-in_err-run-clause-part
returns-in_err-run-clause-part g c =
    let old = netlist c.args.old.now.design in let new = netlist c.args.made.0 in
    let before = g.S.Stepper.asked c.args.stepper.now in let now = g.S.Stepper.asked c.rerun_changed.new.stepper in
    where_err c.from_residual.result (subst (λ answer. HasGrownInPart answer old new before now) c.requires.answer c.in_err-run.ensures.reruns.part)

pub returns-in_err-of-clause-part : goal.returns-in_err-of-clause-part
returns-in_err-of-clause-part g c =
    let old = netlist c.args.old.now.design in let new = netlist c.args.made.0 in
    let before = g.S.Stepper.asked c.args.stepper.now in let now = g.S.Stepper.asked c.rerun_changed.new.stepper in
    where_err c.from_residual-in_err-of.result
    (asked_all old new before now
    (subst (λ answer. IsAskedInSomeOrder before now (rework_below answer old new (suc new.horizon))) c.requires.answer c.in_ok-run.ensures.reruns.asked))
