use Rattle.std.proofs.Common.{◌<◌, ◌≤◌, ◌-◌, min, sym, subst, suc, IsTrue, length, arith}
use Rattle.fourstate.specs.Gates.{takes_inputs}
use Rattle.fourstate.specs.kept.Delays.{AreDelays}
use Rattle.gatestep.specs.Tasks.{PendingFrom}
use Rattle.gateline.proofs.Stands.{ahead}
use Rattle.gateline.proofs.Still.{not_due_yet}
use Rattle.gateline.proofs.Walking.{idle, ready_line, rests}
use Rattle.gateline.proofs.walk.Course.next_moment.Goals as goal
use Rattle.gateline.specs.kept.Readers.{next_among}
use Rattle.gateline.specs.kept.Waves.{input_functions}

pub returns : goal.returns
returns g c =
    let law = g.met.S.Stepper in let answer = g.S.Stepper.answer in let cell = c.args.cell.now in let waves = c.args.waves.now in
    let situation = c.args.situation in let course = c.args.self.now in let at = c.requires.at in let m = c.args.done in let order = c.requires.order in let r = min c.args.last (c.first_event.result - 1) in
    let next : m < situation.next = subst (λ n. m < n) (sym at.next) (ahead (input_functions waves cell.inputs) course.readers.items m at.readers (omega arith)) in
    let fit : IsTrue (takes_inputs cell.kind (length cell.inputs)) = subst (λ inputs. IsTrue (takes_inputs cell.kind (length inputs))) c.inputs-inputs.ensures.inputs c.inputs-inputs.ensures.fit in
    let are = subst (λ delays. AreDelays delays) c.delays.ensures c.delays_in_range.ensures.each in
    let pend : PendingFrom (suc m) situation.state = subst (PendingFrom (suc m)) (sym at.state) (ready_line answer cell waves fit are law.answer_pending (suc m)) in
    let first : m < c.first_event.result = c.first_event.ensures.later m next (λ x h. let late = pend x h in omega arith) in
    let within : c.first_event.result ≤ situation.next = c.first_event.ensures.within in
    let below : r < next_among course.readers.items = subst (λ n. r < n) at.next (omega arith) in
    let from : m ≤ r = omega arith in
    record {
      later = first;
      at = rests answer cell waves law.answer_stays c.no_change_by_drift.ensures situation course m r at from below (λ u low. not_due_yet situation.state c.first_event.result u c.first_event.ensures.early (omega arith));
      next = below;
      idle = idle answer cell waves law.answer_stays c.no_change_by_drift.ensures situation course m r at from below (λ u low. not_due_yet situation.state c.first_event.result u c.first_event.ensures.early (omega arith));
    }
