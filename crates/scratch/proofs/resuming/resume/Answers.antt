use Rattle.std.proofs.Common.{◌≡◌, ◌+◌, ◌∙◌, ap, map, sym, subst, suc, All, arith}
use Rattle.event_queue.specs.kept.Noted.{noted}
use Rattle.gatestep.specs.Step.{due, initial}
use Rattle.gatestep.specs.Tasks.{PendingFrom}
use Rattle.design.specs.Keys.{netlist}
use Rattle.waveform.specs.Timelines.{value_by}
use Rattle.scratch.specs.kept.Places.{Announces, has, pends_at, point_at}
use Rattle.scratch.specs.Run.{state_before}
use Rattle.scratch.specs.kept.Tallies.{Counts}
use Rattle.scratch.proofs.Copies.{last_states}
use Rattle.scratch.proofs.Runs.{ready_all}
use Rattle.scratch.proofs.resuming.resume.Goals as goal

pub returns : goal.returns
returns g c =
    let d = netlist c.args.design.now in let pending = g.met.S.Stepper.answer_pending in let answer = g.S.Stepper.answer in let are = c.lawful.ensures.design.gates in
    let h = c.horizon-horizon.result in
    let is : h ≡ d.horizon = c.horizon-horizon.ensures.horizon in
    let lines = c.in_ok-recording.recording in
    let states : c.new.result.states.items ≡ map (state_before answer d (suc d.horizon)) d.gates =
    ap (λ v. v.items) c.new.ensures.states
    ∙ last_states answer d h is pending are c.value_of_changes-2.ensures lines.traces.items c.in_ok-states.states.items c.in_ok-recording.ensures.traces
    (c.in_ok-states.ensures ∙ ap (map (λ line. value_by due initial line h)) c.as_slice.ensures.value) in
    let there : c.as_slice-2.result.now ≡ c.new.result.states.items = c.as_slice-2.ensures.value ∙ sym (ap (λ v. v.items) c.new.ensures.states) in
    record {
      begun = omega arith;
      states = states;
      values =
          ap (λ v. v.items) c.new.ensures.values
          ∙ c.in_ok-values.ensures;
      waves = c.new.ensures.waves ∙ c.in_ok-recording.ensures.waves;
      traces = c.new.ensures.traces ∙ c.in_ok-recording.ensures.traces;
      events = λ k t from pends. ap (λ q. has k (noted q t)) c.new.ensures.events ∙ c.in_ok-events.ensures.covers k t (omega arith) (ap (λ l. pends_at l k t) there ∙ pends);
      points =
          let next : h + 1 ≡ suc d.horizon = omega arith in
          subst (λ q. Announces (point_at d.nets) (noted q) (suc d.horizon)) (sym c.new.ensures.points) (subst (Announces (point_at d.nets) (noted c.in_ok-points.points)) next c.in_ok-points.ensures.announces);
      no_early_event = λ t low.
          let ready : All (PendingFrom (suc d.horizon)) c.as_slice-2.result.now = ready_all answer d pending are (suc d.horizon) c.as_slice-2.result.now (there ∙ states) in
          ap (λ q. noted q t) c.new.ensures.events ∙ c.in_ok-events.ensures.early (suc d.horizon) ready t low;
      no_early_point = λ t low. ap (λ q. noted q t) c.new.ensures.points ∙ c.in_ok-points.ensures.early t (omega arith);
      counts =
          let same : c.as_slice-3.result.now ≡ c.new.result.states.items = c.as_slice-3.ensures.value ∙ sym (ap (λ v. v.items) c.new.ensures.states) in
          let kept : Counts d c.in_ok-tallies.tallies (map (λ s. s.current) c.new.result.states.items) =
          subst (λ ss. Counts d c.in_ok-tallies.tallies (map (λ s. s.current) ss)) same c.in_ok-tallies.ensures in
          subst (λ tallies. Counts d tallies (map (λ s. s.current) c.new.result.states.items)) (sym c.new.ensures.tallies) kept;
    }
