use Rattle.std.proofs.Common.{◌≡◌, ◌<◌, ◌+◌, ◌++◌, ◌∙◌, sym, ap, subst, refl, ℕ, Bool, [], ◌∷◌, Some, map, All, take, length, slice_get, slice_index_or, inl, inr, arith, false}
use Rattle.std.proofs.lemmas.Grind.{common_steps}
use Rattle.std.proofs.lemmas.List.{length-map, take_all, length-set}
use Rattle.std.proofs.lemmas.Option.{slice_get-get_or, slice_get_read, slice_get_within}
use Rattle.std.proofs.Math.ListN.{set}
use Rattle.std.specs.Prelude.{◌&&◌}
use Rattle.event_queue.specs.kept.Noted.{noted}
use Rattle.gatestep.specs.Step.{due}
use Rattle.waveform.specs.kept.Changes.{trace_below}
use Rattle.waveform.specs.Entries.{same_state}
use Rattle.waveform.specs.kept.Entries.{CanStore}
use Rattle.waveform.specs.kept.Timelines.{pushed}
use Rattle.design.specs.Keys.{netlist}
use Rattle.design.specs.Netlist.{GateEntry}
use Rattle.design.proofs.ByNameLemmas.{all_at}
use Rattle.scratch.specs.kept.Places.{AreRising, Covers, has, pends_at}
use Rattle.scratch.specs.Run.{state_after, state_before}
use Rattle.scratch.specs.Work.{is_stirred}
use Rattle.scratch.proofs.Among.{once}
use Rattle.scratch.proofs.Between.{Between, finish, is_old, write}
use Rattle.scratch.proofs.GateSteps.{known, next_trace, other_states, other_traces}
use Rattle.scratch.proofs.Lists.{take_next}
use Rattle.scratch.proofs.Notes.{IsNoting, early_more, noted_more, others_on, whole}
use Rattle.scratch.proofs.Passing.{passing_rises, value_at_place}
use Rattle.scratch.proofs.Runs.{storable, traces_early}
use Rattle.scratch.proofs.settling.settle.Goals as goal
use Rattle.scratch.proofs.settling.settle.Goals.{in-Some+in_ok-add, in_default}

pub loop-i-init : goal.loop-i-init
loop-i-init g c =
    let answer = g.S.Stepper.answer in let d = netlist c.args.design.now in
    record {
      states = λ k. refl;
      traces = λ k. refl;
      events = λ k u from h. absurd (cc);
      kept = λ k u h. h;
      early = c.requires.early;
      as_many = ap length c.requires.states ∙ length-map d.gates (state_before answer d c.args.t);
      as_many_traces = ap length c.requires.traces ∙ length-map d.gates (λ gate. trace_below (state_after answer d gate) c.args.t);
    }

pub index-requires : goal.index-requires
index-requires g c =
    let answer = g.S.Stepper.answer in let d = netlist c.args.design.now in
    let gates = c.args.gates.now in let place = slice_index_or gates c.loop-i.i 0 in
    let within : c.loop-i.i < length gates = c.loop-i-test.true in
    let beside : c.loop-i.i < length c.args.answers.now = rw c.requires.beside within in
    let there = slice_get_read c.args.answers.now (length c.args.answers.now) c.loop-i.i c.index-answers-i.result refl beside c.index-answers-i.is in
    let here = value_at_place (λ gate. is_stirred answer d gate c.args.t) (state_before answer d (c.args.t + 1)) d.gates gates c.args.answers.now c.requires.gates c.requires.answers
    c.loop-i.i place c.index-answers-i.result (slice_get-get_or gates c.loop-i.i 0 within) there in
    let below = slice_get_within (map (state_before answer d (c.args.t + 1)) d.gates) place c.index-answers-i.result here in
    let in_states : place < length c.loop-i.states.items = rw (c.loop-i.invariant.as_many, ← length-map d.gates (state_before answer d (c.args.t + 1))) below in
    grind (arith, common_steps)

pub index_mut-requires : goal.index_mut-requires
index_mut-requires g c =
    let answer = g.S.Stepper.answer in let d = netlist c.args.design.now in
    let gates = c.args.gates.now in let place = slice_index_or gates c.loop-i.i 0 in
    let within : c.loop-i.i < length gates = c.loop-i-test.true in
    let beside : c.loop-i.i < length c.args.answers.now = rw c.requires.beside within in
    let there = slice_get_read c.args.answers.now (length c.args.answers.now) c.loop-i.i c.index-answers-i.result refl beside c.index-answers-i.is in
    let here = value_at_place (λ gate. is_stirred answer d gate c.args.t) (state_before answer d (c.args.t + 1)) d.gates gates c.args.answers.now c.requires.gates c.requires.answers
    c.loop-i.i place c.index-answers-i.result (slice_get-get_or gates c.loop-i.i 0 within) there in
    let below = slice_get_within (map (state_before answer d (c.args.t + 1)) d.gates) place c.index-answers-i.result here in
    let in_states : place < length c.loop-i.states.items = rw (c.loop-i.invariant.as_many, ← length-map d.gates (state_before answer d (c.args.t + 1))) below in
    grind (arith, common_steps)

pub push_known-requires : goal.push_known-requires
push_known-requires g c =
    let law = g.met.S.Stepper in let answer = g.S.Stepper.answer in let d = netlist c.args.design.now in
    let gates = c.args.gates.now in let place = slice_index_or gates c.loop-i.i 0 in
    let within : c.loop-i.i < length gates = c.loop-i-test.true in
    let at = slice_get-get_or gates c.loop-i.i 0 within in
    let stirred : GateEntry → Bool = λ gate. is_stirred answer d gate c.args.t in
    let beside : c.loop-i.i < length c.args.answers.now = rw c.requires.beside within in
    let there = slice_get_read c.args.answers.now (length c.args.answers.now) c.loop-i.i c.index-answers-i.result refl beside c.index-answers-i.is in
    let here = value_at_place stirred (state_before answer d (c.args.t + 1)) d.gates gates c.args.answers.now c.requires.gates c.requires.answers c.loop-i.i place c.index-answers-i.result at there in
    let below = slice_get_within (map (state_before answer d (c.args.t + 1)) d.gates) place c.index-answers-i.result here in
    let in_states : place < length c.loop-i.states.items = rw (c.loop-i.invariant.as_many, ← length-map d.gates (state_before answer d (c.args.t + 1))) below in
    let in_traces : place < length c.loop-i.traces = rw (c.loop-i.invariant.as_many_traces, ← length-map d.gates (state_before answer d (c.args.t + 1))) below in
    let trace = slice_get-get_or c.loop-i.traces place [] in_traces in
    let rising : AreRising 0 gates = rw c.requires.gates (passing_rises stirred 0 d.gates) in
    let apart = once 0 gates c.loop-i.i place rising at in
    let was : slice_get (map (λ gate. trace_below (state_after answer d gate) c.args.t) d.gates) place ≡ Some (slice_index_or c.loop-i.traces place []) =
    ap (λ l. slice_get l place) (sym c.requires.traces)
    ∙ sym (is_old (take c.loop-i.i gates) (slice_get c.args.traces.now) (slice_get (map (λ gate. trace_below (state_after answer d gate) (c.args.t + 1)) d.gates)) (slice_get c.loop-i.traces) c.loop-i.invariant.traces place apart) ∙ trace in
    let before : slice_get (map (state_before answer d c.args.t) d.gates) place ≡ Some c.index.result.now =
    ap (λ l. slice_get l place) (sym c.requires.states)
    ∙ sym (is_old (take c.loop-i.i gates) (slice_get c.args.states.now.items) (slice_get (map (state_before answer d (c.args.t + 1)) d.gates)) (slice_get c.loop-i.states.items) c.loop-i.invariant.states place apart)
    ∙ slice_get_read c.loop-i.states.items (length c.loop-i.states.items) place c.index.result.now refl in_states c.index.ensures in
    let next = map (state_before answer d (c.args.t + 1)) d.gates in
    record {
      there = in_traces;
      later = all_at (All (λ e. e.0 < c.args.t)) (map (λ gate. trace_below (state_after answer d gate) c.args.t) d.gates) place (slice_index_or c.loop-i.traces place []) (traces_early answer d c.changes_lie_before.ensures c.args.t) was;
      can = all_at (CanStore c.args.t) next place c.index-answers-i.result (storable answer d law.answer_pending law.answer_near c.lawful.ensures.design.gates c.args.t (omega arith) next refl) here;
      known =
          known answer d law.answer_pending c.reached_by_changes.ensures c.lawful.ensures.design.gates c.args.t place c.requires.begun (slice_index_or c.loop-i.traces place []) c.index.result.now c.index-answers-i.result was before
          ∙ ap (same_state c.index-answers-i.result) (sym c.due-known.ensures);
    }

pub loop-i-preserved : goal.loop-i-preserved
loop-i-preserved g c =
    let law = g.met.S.Stepper in let answer = g.S.Stepper.answer in let d = netlist c.args.design.now in let are = c.lawful.ensures.design.gates in
    let gates = c.args.gates.now in let i = c.loop-i.i in let place = slice_index_or gates i 0 in let t = c.args.t in let done = take i gates in
    let within : i < length gates = c.loop-i-test.true in
    let beside : i < length c.args.answers.now = rw c.requires.beside within in
    let at = slice_get-get_or gates i 0 within in
    let more : take (i + 1) gates ≡ done ++ place ∷ [] = take_next gates i place at in
    let s = c.index-answers-i.result in
    let there = slice_get_read c.args.answers.now (length c.args.answers.now) i s refl beside c.index-answers-i.is in
    let next = map (state_before answer d (t + 1)) d.gates in
    let next_traces = map (λ gate. trace_below (state_after answer d gate) (t + 1)) d.gates in
    let stirred : GateEntry → Bool = λ gate. is_stirred answer d gate t in
    let here : slice_get next place ≡ Some s = value_at_place stirred (state_before answer d (t + 1)) d.gates gates c.args.answers.now c.requires.gates c.requires.answers i place s at there in
    let rising : AreRising 0 gates = rw c.requires.gates (passing_rises stirred 0 d.gates) in
    let apart = once 0 gates i place rising at in
    let in_gates = slice_get_within next place s here in
    let in_states : place < length c.loop-i.states.items = rw (c.loop-i.invariant.as_many, ← length-map d.gates (state_before answer d (t + 1))) in_gates in
    let in_traces : place < length c.loop-i.traces = rw (c.loop-i.invariant.as_many_traces, ← length-map d.gates (state_before answer d (t + 1))) in_gates in
    let trace = slice_get-get_or c.loop-i.traces place [] in_traces in
    let was : slice_get (map (λ gate. trace_below (state_after answer d gate) t) d.gates) place ≡ Some (slice_index_or c.loop-i.traces place []) =
    ap (λ l. slice_get l place) (sym c.requires.traces) ∙ sym (is_old done (slice_get c.args.traces.now) (slice_get next_traces) (slice_get c.loop-i.traces) c.loop-i.invariant.traces place apart) ∙ trace in
    let line = pushed same_state due (slice_index_or c.loop-i.traces place []) t s in
    let grows : slice_get next_traces place ≡ Some line =
    next_trace answer d law.answer_pending c.push_to_changes.ensures are t place (slice_index_or c.loop-i.traces place []) s was here in
    let grown : c.push_known.new.self ≡ set c.loop-i.traces place line = c.in_ok-push_known.ensures in
    let noting : IsNoting place s c.loop-i.events c.match-pending.events = elim c.match-pending.branch [
      | in-Some+in_ok-add w ↦ inl ((w.in-Some.field-0-0, w.in-Some.time), sym c.pending.ensures ∙ w.in-Some.is, λ u. rw w.events-is (w.in_ok-add.ensures.ok u))
      | in_default w ↦ inr (sym c.pending.ensures ∙ w.in_default.is, w.events-is)
    ] in
    let after = noted_more next place s here done (t + 1) c.loop-i.events c.match-pending.events c.loop-i.invariant.events noting in
    record {
      states = subst (λ l. Between l (slice_get c.args.states.now.items) (slice_get next) (slice_get (set c.loop-i.states.items place s))) (sym more)
          (write done c.args.states.now.items next c.loop-i.states.items c.loop-i.invariant.states place s here in_states);
      traces = subst (λ l. Between l (slice_get c.args.traces.now) (slice_get next_traces) (slice_get c.push_known.new.self)) (sym more)
          (subst (λ ts. Between (done ++ place ∷ []) (slice_get c.args.traces.now) (slice_get next_traces) (slice_get ts)) (sym grown)
          (write done c.args.traces.now next_traces c.loop-i.traces c.loop-i.invariant.traces place line grows in_traces));
      events = rw more after.0;
      kept = λ k u h. after.1 k u (c.loop-i.invariant.kept k u h);
      early =
          early_more t place s c.loop-i.events c.match-pending.events noting
          (λ event pending. ((all_at (CanStore t) next place s (storable answer d law.answer_pending law.answer_near are t (omega arith) next refl) here).1 event pending).0) c.loop-i.invariant.early;
      as_many = length-set c.loop-i.states.items place _ ∙ c.loop-i.invariant.as_many;
      as_many_traces = ap length grown ∙ length-set c.loop-i.traces place line ∙ c.loop-i.invariant.as_many_traces;
    }

pub returns-clause-states : goal.returns-clause-states
returns-clause-states g c =
    let law = g.met.S.Stepper in let answer = g.S.Stepper.answer in let d = netlist c.args.design.now in let t = c.args.t in
    let all : take c.loop-i.i c.args.gates.now ≡ c.args.gates.now = take_all c.loop-i.i c.args.gates.now (let past = c.loop-i-test.false in omega arith) in
    finish (take c.loop-i.i c.args.gates.now) c.args.states.now.items (map (state_before answer d (t + 1)) d.gates) c.loop-i.states.items c.loop-i.invariant.states
    (λ k off. ap (λ l. slice_get l k) c.requires.states ∙ other_states answer d law.answer_current law.answer_stays t c.requires.begun k (ap (has k) (sym c.requires.gates ∙ sym all) ∙ off))

pub returns-clause-traces : goal.returns-clause-traces
returns-clause-traces g c =
    let law = g.met.S.Stepper in let answer = g.S.Stepper.answer in let d = netlist c.args.design.now in let t = c.args.t in
    let all : take c.loop-i.i c.args.gates.now ≡ c.args.gates.now = take_all c.loop-i.i c.args.gates.now (let past = c.loop-i-test.false in omega arith) in
    finish (take c.loop-i.i c.args.gates.now) c.args.traces.now (map (λ gate. trace_below (state_after answer d gate) (t + 1)) d.gates) c.loop-i.traces c.loop-i.invariant.traces
    (λ k off. ap (λ l. slice_get l k) c.requires.traces ∙ other_traces answer d law.answer_current law.answer_stays c.no_change.ensures t c.requires.begun k (ap (has k) (sym c.requires.gates ∙ sym all) ∙ off))

pub returns-clause-events : goal.returns-clause-events
returns-clause-events g c =
    let law = g.met.S.Stepper in let answer = g.S.Stepper.answer in let d = netlist c.args.design.now in let t = c.args.t in
    let gates = c.args.gates.now in let next = map (state_before answer d (t + 1)) d.gates in
    let all : take c.loop-i.i gates ≡ gates = take_all c.loop-i.i gates (let past = c.loop-i-test.false in omega arith) in
    let same : (k : ℕ) → has k gates ≡ false → slice_get c.args.states.now.items k ≡ slice_get next k =
    λ k off. ap (λ l. slice_get l k) c.requires.states ∙ other_states answer d law.answer_current law.answer_stays t c.requires.begun k (ap (has k) (sym c.requires.gates) ∙ off) in
    rw (returns-clause-states g c)
    (whole next gates (t + 1) (noted c.loop-i.events) (subst (λ l. Covers (λ k u. has k l && pends_at next k u) (noted c.loop-i.events) (t + 1)) all c.loop-i.invariant.events)
    (others_on gates (t + 1) c.args.states.now.items next (noted c.args.events.now) (noted c.loop-i.events) same c.loop-i.invariant.kept c.requires.events))
