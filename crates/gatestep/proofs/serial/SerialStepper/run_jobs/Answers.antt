use Rattle.std.proofs.Common.{◌≡◌, ◌<◌, length, ◌++◌, ◌∷◌, ◌∙◌, [], take, ap, sym, subst, append_assoc, append-nil, arith}
use Rattle.std.specs.List.{flat_map}
use Rattle.std.specs.Result.{IfOk, OnOk}
use Rattle.std.proofs.lemmas.Grind.{common_steps}
use Rattle.gatestep.specs.Jobs.{IsPart}
use Rattle.gatestep.specs.Step.{advance}
use Rattle.gatestep.proofs.Jobs.{flat_more, jobs_part, none_is_part, on_err, part_by, zip_more}
use Rattle.gatestep.proofs.serial.SerialStepper.run_jobs.Goals as goal

pub returns-in_err-outputs-clause-part : goal.returns-in_err-outputs-clause-part
returns-in_err-outputs-clause-part g c =
    on_err c.from_residual.result ([], none_is_part (flat_map (g.J.Job.work advance) c.args.jobs.now), sym (append-nil c.args.self.now.history.asked))

pub returns-in_err-outcome-clause-part : goal.returns-in_err-outcome-clause-part
returns-in_err-outcome-clause-part g c =
    let work = g.J.Job.work advance in
    let before = flat_map work (take c.loop-job.job-index c.args.jobs.now) in
    let asked = c.run-outcome.result.record.asked in
    let part = part_by c.run-outcome.result.output asked (work c.job-item.result) c.run-outcome.ensures.asked c.run-outcome.ensures.part in
    let here = subst (λ it. IsPart asked (work it)) c.job-item.is part in
    on_err c.from_residual-in_err-outcome.result (
      before ++ asked,
      jobs_part work c.args.jobs.now c.loop-job.job-index c.job-item.result asked (omega (arith, c.loop-job-test.true, c.loop-job.auto.job-index-end)) here,
      c.append.ensures.0 ∙ ap (λ it. it ++ asked) c.loop-job.invariant.asked ∙ append_assoc c.args.self.now.history.asked before asked,
    )

pub returns-in_err-push-clause-part : goal.returns-in_err-push-clause-part
returns-in_err-push-clause-part g c =
    let work = g.J.Job.work advance in
    let before = flat_map work (take c.loop-job.job-index c.args.jobs.now) in
    let asked = c.run-outcome.result.record.asked in
    let part = part_by c.run-outcome.result.output asked (work c.job-item.result) c.run-outcome.ensures.asked c.run-outcome.ensures.part in
    let here = subst (λ it. IsPart asked (work it)) c.job-item.is part in
    on_err c.from_residual-in_err-push.result (
      before ++ asked,
      jobs_part work c.args.jobs.now c.loop-job.job-index c.job-item.result asked (omega (arith, c.loop-job-test.true, c.loop-job.auto.job-index-end)) here,
      c.append.ensures.0 ∙ ap (λ it. it ++ asked) c.loop-job.invariant.asked ∙ append_assoc c.args.self.now.history.asked before asked,
    )

pub loop-job-preserved : goal.loop-job-preserved
loop-job-preserved g c =
    let gives = g.J.Job.gives advance in let work = g.J.Job.work advance in
    let jobs = c.args.jobs.now in let i = c.loop-job.job-index in let job = c.job-item.result in
    let before = flat_map work (take i jobs) in
    let asked = c.run-outcome.result.record.asked in
    let there : i < length jobs = omega (arith, c.loop-job-test.true, c.loop-job.auto.job-index-end) in
    let pushed : c.push.new.self.items ≡ c.loop-job.outputs.items ++ c.in_ok-outcome.field-0 ∷ [] = grind (arith, common_steps) in
    let whole : asked ≡ work job = subst (λ it. OnOk it (asked ≡ work job)) c.in_ok-outcome.was c.run-outcome.ensures.asked in
    let given : gives job c.in_ok-outcome.field-0 = subst (λ it. IfOk it (gives job)) c.in_ok-outcome.was c.run-outcome.ensures.gives in
    record {
      outputs = rw pushed (zip_more gives jobs i job c.loop-job.outputs.items c.in_ok-outcome.field-0 there c.job-item.is c.loop-job.invariant.outputs given);
      asked = c.append.ensures.0 ∙ ap (λ it. it ++ asked) c.loop-job.invariant.asked ∙ append_assoc c.args.self.now.history.asked before asked
          ∙ ap (λ it. c.args.self.now.history.asked ++ (before ++ it)) whole ∙ ap (λ it. c.args.self.now.history.asked ++ it) (sym (flat_more work jobs i job there c.job-item.is));
      losses = omega (arith, c.append.ensures.1, c.run-outcome.ensures.lost, c.loop-job.invariant.losses);
    }
