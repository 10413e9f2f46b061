use Rattle.std.proofs.Common.{◌≡◌, ◌∷◌, ◌∙◌, ap, sym, subst, [], map, All, arith}
use Rattle.event_queue.specs.kept.Noted.{noted}
use Rattle.gatestep.specs.Tasks.{PendingFrom}
use Rattle.design.specs.Keys.{netlist}
use Rattle.scratch.specs.kept.Places.{has, pends_at}
use Rattle.waveform.specs.Changes.{wave_changes_below}
use Rattle.scratch.specs.kept.Recorded.{recorded_below}
use Rattle.scratch.specs.Run.{state_after, state_before, value}
use Rattle.scratch.specs.kept.Tallies.{Counts}
use Rattle.scratch.proofs.Lists.{map_alike}
use Rattle.scratch.proofs.Moments.{map_twice}
use Rattle.scratch.proofs.Recorded.{recorded_first}
use Rattle.scratch.proofs.Runs.{ready_all, storable}
use Rattle.scratch.proofs.Counting.{opening_currents}
use Rattle.scratch.proofs.Tasks.{first_answers}
use Rattle.scratch.proofs.opening.Opening.settle.Goals as goal

pub open-requires : goal.open-requires
open-requires g c =
    let laws = g.met.S.Stepper in let answer = g.S.Stepper.answer in let d = netlist c.args.design.now in
    storable answer d laws.answer_pending laws.answer_near c.lawful.ensures.design.gates 0 (omega arith) c.as_slice-2.result.now
    (c.as_slice-2.ensures.value ∙ c.requires.answers ∙ first_answers answer d)

pub returns : goal.returns
returns g c =
    let laws = g.met.S.Stepper in let d = netlist c.args.design.now in let answer = g.S.Stepper.answer in
    let after : c.args.self.asking.answers.items ≡ map (state_before answer d 1) d.gates = c.requires.answers ∙ first_answers answer d in
    let states : c.as_slice-3.result.now ≡ c.new.result.states.items = c.as_slice-3.ensures.value ∙ sym (ap (λ v. v.items) c.new.ensures.states) in
    let ready : All (PendingFrom 1) c.as_slice-3.result.now =
    ready_all answer d laws.answer_pending c.lawful.ensures.design.gates 1 c.as_slice-3.result.now (c.as_slice-3.ensures.value ∙ after) in
    record {
      begun = omega arith;
      states = ap (λ v. v.items) c.new.ensures.states ∙ after;
      values = ap (λ v. v.items) c.new.ensures.values ∙ c.requires.opening.values;
      waves = c.new.ensures.waves ∙ c.in_ok-recording.ensures.waves ∙ ap (map (λ v. (0, v) ∷ [])) (c.as_slice.ensures.value ∙ c.requires.opening.values) ∙ map_twice (λ n. value answer d n 0) (λ v. (0, v) ∷ []) d.nets ∙ sym (map_alike (λ n. recorded_below answer d n 1) (λ n. wave_changes_below (value answer d n) 1) (recorded_first answer d) d.nets);
      traces = c.new.ensures.traces ∙ c.in_ok-recording.ensures.traces ∙ ap (map (λ s. (0, s) ∷ [])) (c.as_slice-2.ensures.value ∙ after) ∙ map_twice (λ gate. state_after answer d gate 0) (λ s. (0, s) ∷ []) d.gates;
      events = λ k t from h. ap (λ q. has k (noted q t)) c.new.ensures.events ∙ c.in_ok-events.ensures.covers k t (omega arith) (ap (λ l. pends_at l k t) states ∙ h);
      points = rw c.new.ensures.points c.in_ok-points.ensures.announces;
      no_early_event = λ t low. ap (λ q. noted q t) c.new.ensures.events ∙ c.in_ok-events.ensures.early 1 ready t low;
      no_early_point = λ t low. ap (λ q. noted q t) c.new.ensures.points ∙ c.in_ok-points.ensures.early t (omega arith);
      counts =
          let kept : Counts d c.args.self.tallies (map (λ s. s.current) c.new.result.states.items) =
          subst (Counts d c.args.self.tallies)
          (opening_currents answer d laws.answer_current c.args.self.states.items c.new.result.states.items c.requires.opening.states (ap (λ v. v.items) c.new.ensures.states ∙ after))
          c.requires.opening.counts in
          subst (λ tallies. Counts d tallies (map (λ s. s.current) c.new.result.states.items)) (sym c.new.ensures.tallies) kept;
    }
