use Rattle.std.proofs.Common.{true, ◌≡◌, ◌∙◌, ◌<◌, ◌≤◌, ap, sym, subst, refl, suc, ℕ, List, Bool, false, length, map, Option, arith, inr, nat_cmp, ◌&&◌, AllPairs}
use Rattle.rundiff.specs.kept.PlaceMaps.{kept_at}
use Rattle.std.specs.BTreeSet.{contains}
use Rattle.std.specs.Option.{ForSome}
use Rattle.std.proofs.lemmas.List.{length-map}
use Rattle.std.proofs.Math.Bool.{and-false}
use Rattle.std.proofs.lemmas.Bool.{and_from, and_parts}
use Rattle.gatestep.specs.Step.{State, due}
use Rattle.event_queue.specs.kept.Noted.{noted}
use Rattle.design.specs.Keys.{netlist}
use Rattle.waveform.specs.Entries.{same_state}
use Rattle.waveform.specs.declared.times.TheConstants.{TIME_END}
use Rattle.waveform.specs.kept.Patches.{Keeps, PatchRecord}
use Rattle.waveform.specs.kept.Timelines.{end_of}
use Rattle.scratch.specs.Run.{state_after}
use Rattle.scratch.proofs.Driven.{either}
use Rattle.scratch.proofs.Moments.{map_twice}
use Rattle.rundiff.specs.kept.Fronts.{is_working, named_state}
use Rattle.rundiff.specs.kept.Places.{gate_at, is_among}
use Rattle.rundiff.proofs.Awaited.{settled_noted}
use Rattle.rundiff.proofs.Resting.{idle, stored_each, stored_later}
use Rattle.rundiff.proofs.Steps.{as_it_was}
use Rattle.rundiff.proofs.front.Front.take_answers.Goals as goal

pub put_states-requires : goal.put_states-requires
put_states-requires g c =
    let answer = g.S.Stepper.answer in let laws = g.met.S.Stepper in
    let new = netlist c.args.former.now.new.now in let t = c.args.t in
    let front = c.requires.front in let drivers = front.live.drivers in
    let test = is_working answer (netlist c.args.former.now.old.now) new t in
    let held = contains nat_cmp c.args.self.now.held in
    let working = c.args.self.now.outcomes.working.items in
    let parts = λ (p : ℕ) (among : is_among working p ≡ true). and_parts (held p) (test p) (sym (front.places.all p) ∙ among) in
    let listed = λ (p : ℕ) (among : is_among c.as_slice.result.now p ≡ true). parts p (ap (λ (l : List ℕ). is_among l p) (sym c.as_slice.ensures.value) ∙ among) in
    let those = c.requires.answers ∙ ap (map (λ h. state_after answer new h t)) front.tasks ∙ map_twice (gate_at new) (λ h. state_after answer new h t) working in
    let low : t < TIME_END = let h = c.requires.within in let end = c.lawful.ensures.design.horizon in omega arith in
    record {
      there = λ p among. drivers.gates p (listed p among).0;
      rising = subst (AllPairs (λ p q. p < q)) (sym c.as_slice.ensures.value) front.places.rising;
      within = c.requires.within;
      run = c.requires.run;
      traces = λ p among. let both = listed p among in front.working p (drivers.gates p both.0) both.1;
      ends = λ p among patch is. (front.trace_ends p patch is).1 (listed p among).1;
      states = those ∙ ap (map (λ p. state_after answer new (gate_at new p) t)) (sym c.as_slice.ensures.value);
      can = stored_each answer new laws.answer_pending laws.answer_near c.lawful-2.ensures.design t low working (λ p among. drivers.gates p (parts p among).0) c.args.answers.now those;
    }

pub note_events-requires : goal.note_events-requires
note_events-requires g c =
    let answer = g.S.Stepper.answer in let laws = g.met.S.Stepper in
    let new = netlist c.args.former.now.new.now in let t = c.args.t in
    let front = c.requires.front in
    let test = is_working answer (netlist c.args.former.now.old.now) new t in
    let held = contains nat_cmp c.args.self.now.held in
    let working = c.args.self.now.outcomes.working.items in
    let those = c.requires.answers ∙ ap (map (λ h. state_after answer new h t)) front.tasks ∙ map_twice (gate_at new) (λ h. state_after answer new h t) working in
    let low : t < TIME_END = let h = c.requires.within in let end = c.lawful.ensures.design.horizon in omega arith in
    record {
      many = ap (λ (l : List State). length l) those ∙ length-map working (λ p. state_after answer new (gate_at new p) t) ∙ ap (λ (l : List ℕ). length l) (sym c.as_slice-2.ensures.value);
      later =
          stored_later t c.args.answers.now
          (stored_each answer new laws.answer_pending laws.answer_near c.lawful-2.ensures.design t low working
          (λ p among. front.live.drivers.gates p (and_parts (held p) (test p) (sym (front.places.all p) ∙ among)).0) c.args.answers.now those);
    }

pub returns-clause-front : goal.returns-clause-front
returns-clause-front g c =
    let answer = g.S.Stepper.answer in
    let old = netlist c.args.former.now.old.now in let new = netlist c.args.former.now.new.now in let t = c.args.t in
    let test = is_working answer old new t in
    let held = contains nat_cmp c.args.self.now.held in
    let before = c.requires.front in
    let done = c.in_ok-put_states.ensures in
    let notes = c.in_ok-note_events.ensures in
    let working = c.args.self.now.outcomes.working.items in
    let those = c.requires.answers ∙ ap (map (λ h. state_after answer new h t)) before.tasks ∙ map_twice (gate_at new) (λ h. state_after answer new h t) working in
    let slice = c.as_slice.result.now in
    let was : ℕ → Option (PatchRecord State) = kept_at c.args.self.now.traces in
    let now : ℕ → Option (PatchRecord State) = kept_at c.put_states.new.traces in
    let Keep : ℕ → Option (PatchRecord State) → ℕ → Type 0 = λ p o n. Keeps same_state due (named_state answer old (gate_at new p).name) (state_after answer new (gate_at new p)) o n in
    let among : (p : ℕ) → is_among slice p ≡ (held p && test p) = λ p. ap (λ (l : List ℕ). is_among l p) c.as_slice.ensures.value ∙ before.places.all p in
    let off_left : (a b : Bool) → a ≡ false → (a && b) ≡ false = λ a b h. rw h refl in
    let off_right : (a b : Bool) → b ≡ false → (a && b) ≡ false = λ a b h. ap (λ (x : Bool). a && x) h ∙ and-false a in
    record {
      live = before.live;
      traces = λ p low.
          as_it_was (λ q o. Keep q o (suc t)) was now (is_among slice) p done.others (done.put p)
          (λ off. before.rested p low (idle (held p) (test p) (before.clean p low) (sym (among p) ∙ off)));
      trace_ends = λ p. as_it_was (λ q o. ForSome o (λ patch. end_of patch.line ≤ suc t)) was now (is_among slice) p done.others (done.ends p) (λ off patch is. (before.trace_ends p patch is).0);
      own_traces = λ p on.
          inr (either (test p)
          (λ yes. done.own p (among p ∙ and_from (held p) (test p) on yes))
          (λ no. rw (done.others p (among p ∙ off_right (held p) (test p) no)) (before.own_traces p on no)));
      other_traces = λ p free. rw (done.others p (among p ∙ off_left (held p) (test p) free)) (before.other_traces p free);
      awaits =
          settled_noted answer old new t (contains nat_cmp c.args.self.now.live) held (noted c.args.self.now.events) (noted c.args.self.now.inputs) (noted c.args.self.now.nets) (noted c.note_events.new.queue)
          notes.kept notes.early working before.places.all before.awaits
          (λ p u on. notes.events (λ q. state_after answer new (gate_at new q) t) (those ∙ ap (map (λ q. state_after answer new (gate_at new q) t)) (sym c.as_slice-2.ensures.value)) p u
          (ap (λ (l : List ℕ). is_among l p) c.as_slice-2.ensures.value ∙ on));
    }
