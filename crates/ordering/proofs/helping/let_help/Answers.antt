use Rattle.std.proofs.Common.{◌++◌, ◌∙◌, ap, refl, subst, append-nil}
use Rattle.std.proofs.lemmas.List.Elements.{All-push, All-same}
use Rattle.design.specs.Keys.{netlist}
use Rattle.gatestep.specs.Jobs.{IsPart}
use Rattle.ordering.specs.kept.Helpers.{IsHelper}
use Rattle.ordering.proofs.Coming.{order_within}
use Rattle.ordering.proofs.NoneAsked.{none_asked, none_in_part}
use Rattle.ordering.proofs.helping.let_help.Goals as goal

pub loop-preserved : goal.loop-preserved
loop-preserved g c =
    let answer = g.S.Stepper.answer in
    All-same (IsHelper answer) _ _ c.in_ok-push.ensures.items
    (All-push (IsHelper answer) c.loop.helpers.items _ c.loop.invariant
    (record { wired = c.requires.wired; begin = c.requires.begin; within = order_within (netlist c.args.design.now) c.args.order.now c.requires.order }))

pub returns-in_err-run_jobs-clause-asked : goal.returns-in_err-run_jobs-clause-asked
returns-in_err-run_jobs-clause-asked g c =
    let old = g.S.Stepper.asked c.args.stepper.now in let part = c.in_err-run_jobs.ensures.part in
    part.2 ∙ ap (λ l. old ++ l) (none_in_part part.0 (subst (λ l. IsPart part.0 l) (none_asked _ (λ x. refl) c.as_slice.result.now) part.1)) ∙ append-nil old

pub returns-clause-asked : goal.returns-clause-asked
returns-clause-asked g c =
    let old = g.S.Stepper.asked c.args.stepper.now in
    c.in_ok-run_jobs.ensures.asked ∙ ap (λ l. old ++ l) (none_asked _ (λ x. refl) c.as_slice.result.now) ∙ append-nil old
