use Rattle.std.proofs.Common.{◌≡◌, ◌++◌, ◌∙◌, ap, subst, sym, length}
use Rattle.std.specs.List.{flat_map, AllZip}
use Rattle.std.proofs.lemmas.Result.{IfOk-weaker}
use Rattle.gatestep.specs.Step.{advance}
use Rattle.gatestep.specs.kept.Jobs.{IsDone}
use Rattle.gatestep.proofs.Jobs.{on_err, zip_from_each}
use Rattle.parstep.specs.kept.Jobs.{Holds, asked_in}
use Rattle.parstep.proofs.Outcomes.{nothing_asked, taken_front, all_filled, all_part, all_given, all_asked}
use Rattle.parstep.proofs.parallel.ParallelStepper.run_jobs.Goals as goal

pub record_all-requires : goal.record_all-requires
record_all-requires g c =
    let long : length c.run_all.new.places ≡ c.in_ok-places.places.len = c.run_all.auto.places ∙ c.as_mut_slice.ensures.len in
    let done =
    zip_from_each (IsDone (g.J.Job.gives advance) (g.J.Job.work advance)) c.args.jobs.now c.run_all.new.places (long ∙ c.in_ok-places.ensures) c.run_all.ensures in
    let same = c.as_slice.ensures.value ∙ taken_front c.in_ok-places.places.len c.run_all.new.places c.in_ok-places.places.items long in
    all_filled (g.J.Job.gives advance) (g.J.Job.work advance) c.args.jobs.now c.as_slice.result.now
    (subst (λ it. AllZip (IsDone (g.J.Job.gives advance) (g.J.Job.work advance)) c.args.jobs.now it) (sym same) done)

pub returns-in_err-places-clause-part : goal.returns-in_err-places-clause-part
returns-in_err-places-clause-part g c = nothing_asked c.from_residual.result _ _

pub returns-in_err-room-clause-part : goal.returns-in_err-room-clause-part
returns-in_err-room-clause-part g c = nothing_asked c.from_residual-in_err-room.result _ _

pub outputs_of-requires-clause-filled : goal.outputs_of-requires-clause-filled
outputs_of-requires-clause-filled g c =
    let long : length c.run_all.new.places ≡ c.in_ok-places.places.len = c.run_all.auto.places ∙ c.as_mut_slice.ensures.len in
    let done =
    zip_from_each (IsDone (g.J.Job.gives advance) (g.J.Job.work advance)) c.args.jobs.now c.run_all.new.places (long ∙ c.in_ok-places.ensures) c.run_all.ensures in
    let same = taken_front c.in_ok-places.places.len c.run_all.new.places c.in_ok-places.places.items long in
    all_filled (g.J.Job.gives advance) (g.J.Job.work advance) c.args.jobs.now _
    (subst (λ it. AllZip (IsDone (g.J.Job.gives advance) (g.J.Job.work advance)) c.args.jobs.now it) (sym same) done)

pub returns-clause-outputs : goal.returns-clause-outputs
returns-clause-outputs g c =
    let long : length c.run_all.new.places ≡ c.in_ok-places.places.len = c.run_all.auto.places ∙ c.as_mut_slice.ensures.len in
    let done =
    zip_from_each (IsDone (g.J.Job.gives advance) (g.J.Job.work advance)) c.args.jobs.now c.run_all.new.places (long ∙ c.in_ok-places.ensures) c.run_all.ensures in
    let same = taken_front c.in_ok-places.places.len c.run_all.new.places c.in_ok-places.places.items long in
    IfOk-weaker c.outputs_of.result _ _
    (λ outputs held. all_given (g.J.Job.gives advance) (g.J.Job.work advance) c.args.jobs.now c.run_all.new.places outputs.items done
    (subst (λ it. AllZip Holds it outputs.items) same held)) c.outputs_of.ensures

pub returns-clause-asked : goal.returns-clause-asked
returns-clause-asked g c =
    let long : length c.run_all.new.places ≡ c.in_ok-places.places.len = c.run_all.auto.places ∙ c.as_mut_slice.ensures.len in
    let done =
    zip_from_each (IsDone (g.J.Job.gives advance) (g.J.Job.work advance)) c.args.jobs.now c.run_all.new.places (long ∙ c.in_ok-places.ensures) c.run_all.ensures in
    let same = taken_front c.in_ok-places.places.len c.run_all.new.places c.in_ok-places.places.items long in
    IfOk-weaker c.outputs_of.result _ _
    (λ outputs held. c.record_all.ensures ∙ ap (λ it. c.args.self.now.alone.history.asked ++ flat_map asked_in it) (c.as_slice.ensures.value ∙ same)
    ∙ ap (λ it. c.args.self.now.alone.history.asked ++ it)
    (all_asked (g.J.Job.gives advance) (g.J.Job.work advance) c.args.jobs.now c.run_all.new.places outputs.items done
    (subst (λ it. AllZip Holds it outputs.items) same held))) c.outputs_of.ensures

pub returns-clause-part : goal.returns-clause-part
returns-clause-part g c =
    let long : length c.run_all.new.places ≡ c.in_ok-places.places.len = c.run_all.auto.places ∙ c.as_mut_slice.ensures.len in
    let done =
    zip_from_each (IsDone (g.J.Job.gives advance) (g.J.Job.work advance)) c.args.jobs.now c.run_all.new.places (long ∙ c.in_ok-places.ensures) c.run_all.ensures in
    let same = c.as_slice.ensures.value ∙ taken_front c.in_ok-places.places.len c.run_all.new.places c.in_ok-places.places.items long in
    on_err c.outputs_of.result (
      flat_map asked_in c.run_all.new.places,
      all_part (g.J.Job.gives advance) (g.J.Job.work advance) c.args.jobs.now c.run_all.new.places done,
      c.record_all.ensures ∙ ap (λ it. c.args.self.now.alone.history.asked ++ flat_map asked_in it) same,
    )
