use Rattle.std.proofs.Common.{◌≡◌, ◌<◌, ◌∙◌, ◌≤◌, ap, sym, subst, suc, ℕ, List, All, Bool, true, false, not, map, length, Option, arith, ◌&&◌, filter, nat_cmp}
use Rattle.rundiff.specs.kept.PlaceMaps.{kept_at}
use Rattle.std.specs.BTreeSet.{contains}
use Rattle.std.specs.Option.{ForSome}
use Rattle.std.proofs.lemmas.List.{length-map}
use Rattle.std.proofs.lemmas.Bool.{and_parts}
use Rattle.event_queue.specs.kept.Noted.{noted}
use Rattle.gatestep.specs.Step.{State, due}
use Rattle.gatestep.specs.Tasks.{PendingFrom}
use Rattle.design.specs.Keys.{netlist}
use Rattle.waveform.specs.Entries.{same_state}
use Rattle.waveform.specs.kept.Entries.{CanStore}
use Rattle.waveform.specs.kept.Patches.{Keeps, PatchRecord}
use Rattle.waveform.specs.kept.Timelines.{end_of}
use Rattle.scratch.specs.Run.{state_after}
use Rattle.rundiff.specs.Dirty.{working_at}
use Rattle.rundiff.specs.kept.Fronts.{ArePlaces, IsFree, IsOwn, is_working, named_state}
use Rattle.rundiff.specs.kept.Places.{gate_at, is_among, is_live}
use Rattle.scratch.specs.Work.{is_stirred, task_at}
use Rattle.scratch.proofs.Moments.{map_twice}
use Rattle.rundiff.proofs.Awaited.{looked_noted}
use Rattle.rundiff.proofs.Chosen.{calm, calm_state, chosen_all, chosen_working, not_chosen, still_trace}
use Rattle.rundiff.proofs.Filtering.{filter_places}
use Rattle.rundiff.proofs.Resting.{free_more, free_state, not_resting, resting_held, resting_off, rests_on, stored_later}
use Rattle.rundiff.proofs.Steps.{as_it_was}
use Rattle.rundiff.proofs.front.Front.look_at_gates.Goals as goal

pub look_at-requires-clause-there : goal.look_at-requires-clause-there
look_at-requires-clause-there g c = rw c.as_slice.ensures.value (λ p among. c.requires.front.live.drivers.gates p (c.requires.front.chosen_held p among))

pub put_states-requires : goal.put_states-requires
put_states-requires g c =
    let old = netlist c.args.former.now.old.now in let new = netlist c.args.former.now.new.now in
    let front = c.requires.front in
    let test = is_working g.S.Stepper.answer old new c.args.t in
    let chosen = c.args.self.now.gates.items in
    let out = c.in_ok-look_at.ensures in
    let are = resting_held c.as_slice.result.now chosen c.as_slice-2.result.now c.look_at.new.out.resting.items (is_among chosen) test c.as_slice.ensures.value c.as_slice-2.ensures.value front.chosen out.resting in
    let there : (p : ℕ) → is_among c.as_slice-2.result.now p ≡ true → p < length new.gates = λ p among.
    front.live.drivers.gates p (front.chosen_held p (and_parts (is_among chosen p) (not (test p)) (sym (are.all p) ∙ among)).0) in
    record {
      there = there;
      rising = are.rising;
      within = c.requires.within;
      run = c.requires.run;
      traces = λ p among. front.traces p (there p among);
      ends = λ p among. front.trace_ends p;
      states = c.as_slice-3.ensures.value ∙ out.states ∙ ap (map (λ p. state_after g.S.Stepper.answer new (gate_at new p) c.args.t)) (sym c.as_slice-2.ensures.value);
      can = subst (All (CanStore c.args.t)) (sym c.as_slice-3.ensures.value) out.can;
    }

pub note_events-requires : goal.note_events-requires
note_events-requires g c =
    let new = netlist c.args.former.now.new.now in
    let out = c.in_ok-look_at.ensures in
    record {
      many = ap (λ (l : List State). length l) (c.as_slice-5.ensures.value ∙ out.states)
          ∙ length-map c.look_at.new.out.resting.items (λ p. state_after g.S.Stepper.answer new (gate_at new p) c.args.t) ∙ ap (λ (l : List ℕ). length l) (sym c.as_slice-4.ensures.value);
      later = subst (All (PendingFrom (suc c.args.t))) (sym c.as_slice-5.ensures.value) (stored_later c.args.t c.look_at.new.out.states.items out.can);
    }

pub note_all_inputs-requires-clause-there : goal.note_all_inputs-requires-clause-there
note_all_inputs-requires-clause-there g c = rw c.as_slice-6.ensures.value (λ p among. c.requires.front.live.drivers.gates p (c.requires.front.chosen_held p among))

pub returns-clause-tasks : goal.returns-clause-tasks
returns-clause-tasks g c =
    let answer = g.S.Stepper.answer in
    let old = netlist c.args.former.now.old.now in let new = netlist c.args.former.now.new.now in let t = c.args.t in
    let before = c.requires.front in
    let out = c.in_ok-look_at.ensures in
    let held = contains nat_cmp c.args.self.now.held in
    let chosen = c.args.self.now.gates.items in
    let working = c.look_at.new.out.working.items in
    let those : working_at answer old new t ≡ map (gate_at new) working =
    chosen_all answer old new t held chosen before.live.drivers.gates before.chosen_held before.clean before.quiet working before.chosen.rising (out.working ∙ ap (filter (is_working answer old new t)) c.as_slice.ensures.value) in
    out.tasks ∙ sym (map_twice (gate_at new) (λ h. task_at answer new h t) working) ∙ ap (map (λ h. task_at answer new h t)) (sym those)

pub returns-clause-front : goal.returns-clause-front
returns-clause-front g c =
    let answer = g.S.Stepper.answer in
    let laws = g.met.S.Stepper in
    let old = netlist c.args.former.now.old.now in let new = netlist c.args.former.now.new.now in let t = c.args.t in
    let test = is_working answer old new t in
    let held = contains nat_cmp c.args.self.now.held in
    let chosen = c.args.self.now.gates.items in
    let before = c.requires.front in
    let out = c.in_ok-look_at.ensures in
    let done = c.in_ok-put_states.ensures in
    let working = c.look_at.new.out.working.items in
    let evaluated : working ≡ filter test chosen = out.working ∙ ap (filter test) c.as_slice.ensures.value in
    let resting = resting_held c.as_slice.result.now chosen c.as_slice-2.result.now c.look_at.new.out.resting.items (is_among chosen) test c.as_slice.ensures.value c.as_slice-2.ensures.value before.chosen out.resting in
    let was : ℕ → Option (PatchRecord State) = kept_at c.args.self.now.traces in
    let now : ℕ → Option (PatchRecord State) = kept_at c.put_states.new.traces in
    let Keep : ℕ → Option (PatchRecord State) → ℕ → Type 0 = λ p o n. Keeps same_state due (named_state answer old (gate_at new p).name) (state_after answer new (gate_at new p)) o n in
    let untouched : (p : ℕ) → held p ≡ false → now p ≡ was p = λ p free. done.others p (resting.all p ∙ resting_off (is_among chosen p) (test p) (not_chosen held chosen before.chosen_held p free)) in
    let passed : (p : ℕ) → is_among chosen p ≡ false → now p ≡ was p = λ p off. done.others p (resting.all p ∙ resting_off (is_among chosen p) (test p) off) in
    let quiet : (p : ℕ) → held p ≡ true → is_among chosen p ≡ false → is_stirred answer new (gate_at new p) t ≡ false =
    calm answer old new t held chosen before.live.drivers.gates before.chosen_held before.clean before.quiet in
    record {
      live = before.live;
      rested = λ p low off.
          as_it_was (λ q o. Keep q o (suc t)) was now held p untouched
          (λ on.
          as_it_was (λ q o. Keep q o (suc t)) was now (is_among chosen) p passed
          (λ among. done.put p (resting.all p ∙ rests_on (is_among chosen p) (test p) among off))
          (λ past. still_trace answer old new laws.answer_stays c.no_change_by_drift.ensures p t (was p) (quiet p on past) (before.own_traces p (rests_on (held p) (is_among chosen p) on past)) (before.traces p low)))
          (λ free.
          free_more same_state due (state_after answer new (gate_at new p)) (named_state answer old (gate_at new p).name) t (was p) (before.other_traces p free) (before.traces p low)
          (free_state answer old new (is_live new (contains nat_cmp c.args.self.now.live)) t c.lawful.ensures.design before.live.closed before.live.agrees p low (sym (before.live.drivers.drivers p low) ∙ free)));
      working = λ p low on. subst (λ (o : Option (PatchRecord State)). Keep p o t) (sym (done.others p (resting.all p ∙ not_resting (is_among chosen p) (test p) on))) (before.traces p low);
      clean = λ p low free. ap (λ (b : Bool). b && is_stirred answer new (gate_at new p) t) (before.clean p low free);
      trace_ends = λ p.
          as_it_was (λ q o. ForSome o (λ patch. (end_of patch.line ≤ suc t) × (test q ≡ true → end_of patch.line ≤ t))) was now (is_among c.as_slice-2.result.now) p done.others
          (λ among patch is. (done.ends p among patch is, λ on. let no : true ≡ false = sym among ∙ resting.all p ∙ not_resting (is_among chosen p) (test p) on in absurd (cc)))
          (λ off patch is. let low = before.trace_ends p patch is in let high : end_of patch.line ≤ suc t = omega arith in (high, λ on. low));
      own_traces = λ p on off.
          as_it_was (λ q o. IsOwn o) was now (is_among chosen) p passed
          (λ among. done.own p (resting.all p ∙ rests_on (is_among chosen p) (test p) among off))
          (λ past. before.own_traces p (rests_on (held p) (is_among chosen p) on past));
      other_traces = λ p free. subst (λ (o : Option (PatchRecord State)). IsFree o) (sym (untouched p free)) (before.other_traces p free);
      places =
          let those = filter_places chosen (is_among chosen) test before.chosen in
          let same = chosen_working answer old new t held chosen before.live.drivers.gates before.chosen_held before.clean before.quiet in
          subst (λ (l : List ℕ). ArePlaces l (λ p. held p && test p)) (sym evaluated) (record { rising = those.rising; all = λ p. those.all p ∙ same p });
      same = out.same;
      tasks = chosen_all answer old new t held chosen before.live.drivers.gates before.chosen_held before.clean before.quiet working before.chosen.rising evaluated;
      awaits =
          let f : ℕ → State = λ p. state_after answer new (gate_at new p) t in
          let listed = c.look_at.new.out.resting.items in
          let notes = c.in_ok-note_events.ensures in
          let more = c.in_ok-note_all_inputs.ensures in
          looked_noted answer old new t (contains nat_cmp c.args.self.now.live) held (noted c.args.self.now.events) (noted c.args.self.now.inputs) (noted c.args.self.now.nets) (noted c.note_events.new.queue)
          notes.kept notes.early chosen listed (noted c.note_all_inputs.new.queue)
          (λ p. ap (λ (l : List ℕ). is_among l p) (sym c.as_slice-2.ensures.value) ∙ resting.all p)
          (calm_state answer old new t held chosen before.live.drivers.gates before.chosen_held before.clean before.quiet laws.answer_stays)
          before.awaits
          (λ p u on. notes.events f (c.as_slice-5.ensures.value ∙ out.states ∙ ap (map f) (sym c.as_slice-4.ensures.value)) p u (ap (λ (l : List ℕ). is_among l p) c.as_slice-4.ensures.value ∙ on))
          more.kept more.early
          (λ p u among after h. more.next p u (ap (λ (l : List ℕ). is_among l p) c.as_slice-6.ensures.value ∙ among) after h);
    }
