use Rattle.std.proofs.Common.{◌≡◌, ◌<◌, ◌+◌, ◌++◌, ◌∙◌, sym, ap, subst, refl, ℕ, [], ◌∷◌, Some, map, All, take, length, slice_get, slice_index_or, inl, inr, append-nil, false, arith}
use Rattle.std.proofs.lemmas.Grind.{common_steps}
use Rattle.std.proofs.lemmas.List.{length-map, take_all, length-set}
use Rattle.std.proofs.lemmas.Option.{slice_get-get_or, slice_get_read}
use Rattle.std.proofs.Math.ListN.{set}
use Rattle.std.specs.Prelude.{◌&&◌}
use Rattle.std.specs.List.{flat_map}
use Rattle.event_queue.specs.kept.Noted.{noted}
use Rattle.event_queue.proofs.Changes.{held_err}
use Rattle.gatestep.specs.Step.{due}
use Rattle.gatestep.specs.Tasks.{PendingFrom}
use Rattle.waveform.specs.kept.Changes.{trace_below}
use Rattle.waveform.specs.Entries.{same_state}
use Rattle.waveform.specs.kept.Entries.{CanStore}
use Rattle.waveform.specs.kept.Timelines.{pushed}
use Rattle.design.specs.Keys.{netlist}
use Rattle.design.proofs.ByNameLemmas.{all_at}
use Rattle.scratch.specs.kept.Places.{Covers, has, pends_at}
use Rattle.scratch.specs.Run.{state_after, state_before}
use Rattle.scratch.specs.kept.Open.{asked_at}
use Rattle.scratch.proofs.Answered.{asked_all, asked_more, asked_some, is_there}
use Rattle.scratch.proofs.Apart.{once_apart}
use Rattle.scratch.proofs.Between.{Between, finish, is_old, write}
use Rattle.scratch.proofs.GateSteps.{known, next_trace, other_states, other_traces}
use Rattle.scratch.proofs.Lists.{take_next}
use Rattle.scratch.proofs.Notes.{IsNoting, early_more, noted_more, others_on, whole}
use Rattle.scratch.proofs.Runs.{storable, traces_early}
use Rattle.scratch.proofs.answering.answer_each.Goals as goal
use Rattle.scratch.proofs.answering.answer_each.Goals.{in-Some+in_ok-add, in_default}

pub loop-i-init : goal.loop-i-init
loop-i-init g c =
    let answer = g.S.Stepper.answer in let d = netlist c.args.present.now.design.now in let t = c.args.present.now.t in
    record {
      asked = sym (append-nil (g.S.Stepper.asked c.args.stepper.now));
      losses = refl;
      fits = c.requires.fits;
      same = refl;
      states = λ k. refl;
      traces = λ k. refl;
      events = λ k u from h. absurd (cc);
      kept = λ k u h. h;
      early = c.requires.early;
      as_many = ap length c.requires.states ∙ length-map d.gates (state_before answer d t);
      as_many_traces = ap length c.requires.traces ∙ length-map d.gates (λ gate. trace_below (state_after answer d gate) t);
    }

pub index-state-requires : goal.index-state-requires
index-state-requires g c =
    let answer = g.S.Stepper.answer in let d = netlist c.args.present.now.design.now in let t = c.args.present.now.t in let gates = c.args.gates.now in let i = c.loop-i.i in let place = slice_index_or gates i 0 in
    let at = slice_get-get_or gates i 0 c.loop-i-test.true in
    let is_open = g.B.Beside.is_open answer d c.args.beside.now in
    let there : place < length d.gates = is_there is_open answer d t gates c.requires.gates i place at in
    let in_states : place < length c.loop-i.states.items = rw c.loop-i.invariant.as_many there in
    grind (arith, common_steps)

pub answer_of-answer-requires-clause-state : goal.answer_of-answer-requires-clause-state
answer_of-answer-requires-clause-state g c =
    let answer = g.S.Stepper.answer in let d = netlist c.args.present.now.design.now in let t = c.args.present.now.t in let gates = c.args.gates.now in let i = c.loop-i.i in let place = slice_index_or gates i 0 in
    let at = slice_get-get_or gates i 0 c.loop-i-test.true in
    let is_open = g.B.Beside.is_open answer d c.args.beside.now in
    let there : place < length d.gates = is_there is_open answer d t gates c.requires.gates i place at in
    let in_states : place < length c.loop-i.states.items = rw c.loop-i.invariant.as_many there in
    let apart = once_apart gates i place c.requires.apart at in
    ap (λ l. slice_get l place) (sym c.requires.states)
    ∙ sym (is_old (take i gates) (slice_get c.args.states.now.items) (slice_get (map (state_before answer d (t + 1)) d.gates)) (slice_get c.loop-i.states.items) c.loop-i.invariant.states place apart)
    ∙ slice_get_read c.loop-i.states.items (length c.loop-i.states.items) place c.index-state.result.now refl in_states c.index-state.ensures

pub answer_of-answer-requires-clause-ready : goal.answer_of-answer-requires-clause-ready
answer_of-answer-requires-clause-ready g c =
    all_at (PendingFrom c.args.present.now.t) c.args.states.now.items (slice_index_or c.args.gates.now c.loop-i.i 0) c.index-state.result.now c.requires.ready
    (ap (λ l. slice_get l (slice_index_or c.args.gates.now c.loop-i.i 0)) c.requires.states ∙ answer_of-answer-requires-clause-state g c)

pub index_mut-requires : goal.index_mut-requires
index_mut-requires g c =
    let answer = g.S.Stepper.answer in let d = netlist c.args.present.now.design.now in let t = c.args.present.now.t in let gates = c.args.gates.now in let i = c.loop-i.i in let place = slice_index_or gates i 0 in
    let at = slice_get-get_or gates i 0 c.loop-i-test.true in
    let is_open = g.B.Beside.is_open answer d c.args.beside.now in
    let there : place < length d.gates = is_there is_open answer d t gates c.requires.gates i place at in
    let in_states : place < length c.loop-i.states.items = rw c.loop-i.invariant.as_many there in
    grind (arith, common_steps)

pub push_known-requires : goal.push_known-requires
push_known-requires g c =
    let law = g.met.S.Stepper in
    let answer = g.S.Stepper.answer in let d = netlist c.args.present.now.design.now in let t = c.args.present.now.t in let gates = c.args.gates.now in let i = c.loop-i.i in let place = slice_index_or gates i 0 in
    let at = slice_get-get_or gates i 0 c.loop-i-test.true in
    let is_open = g.B.Beside.is_open answer d c.args.beside.now in
    let there : place < length d.gates = is_there is_open answer d t gates c.requires.gates i place at in
    let in_states : place < length c.loop-i.states.items = rw c.loop-i.invariant.as_many there in
    let apart = once_apart gates i place c.requires.apart at in
    let before : slice_get c.args.states.now.items place ≡ Some c.index-state.result.now =
    sym (is_old (take i gates) (slice_get c.args.states.now.items) (slice_get (map (state_before answer d (t + 1)) d.gates)) (slice_get c.loop-i.states.items) c.loop-i.invariant.states place apart)
    ∙ slice_get_read c.loop-i.states.items (length c.loop-i.states.items) place c.index-state.result.now refl in_states c.index-state.ensures in
    let in_traces : place < length c.loop-i.traces = rw c.loop-i.invariant.as_many_traces there in
    let next_traces = map (λ gate. trace_below (state_after answer d gate) (t + 1)) d.gates in
    let was : slice_get (map (λ gate. trace_below (state_after answer d gate) t) d.gates) place ≡ Some (slice_index_or c.loop-i.traces place []) =
    ap (λ l. slice_get l place) (sym c.requires.traces)
    ∙ sym (is_old (take i gates) (slice_get c.args.traces.now) (slice_get next_traces) (slice_get c.loop-i.traces) c.loop-i.invariant.traces place apart)
    ∙ slice_get-get_or c.loop-i.traces place [] in_traces in
    let next = map (state_before answer d (t + 1)) d.gates in
    record {
      there = in_traces;
      later = all_at (All (λ e. e.0 < t)) (map (λ gate. trace_below (state_after answer d gate) t) d.gates) place (slice_index_or c.loop-i.traces place []) (traces_early answer d c.changes_lie_before.ensures t) was;
      can = all_at (CanStore t) next place c.answer_of-answer.result (storable answer d law.answer_pending law.answer_near c.lawful.ensures.design.gates t (omega arith) next refl) c.answer_of-answer.ensures.answer;
      known =
          known answer d law.answer_pending c.reached_by_changes.ensures c.lawful.ensures.design.gates t place c.requires.begun (slice_index_or c.loop-i.traces place []) c.index-state.result.now c.answer_of-answer.result was
          (ap (λ l. slice_get l place) (sym c.requires.states) ∙ before)
          ∙ ap (same_state c.answer_of-answer.result) (sym c.due.ensures);
    }

pub returns-in_err-push_known-clause-part : goal.returns-in_err-push_known-clause-part
returns-in_err-push_known-clause-part g c =
    let answer = g.S.Stepper.answer in let d = netlist c.args.present.now.design.now in let t = c.args.present.now.t in let gates = c.args.gates.now in let i = c.loop-i.i in let place = slice_index_or gates i 0 in
    let at = slice_get-get_or gates i 0 c.loop-i-test.true in
    let is_open = g.B.Beside.is_open answer d c.args.beside.now in
    let asked : g.S.Stepper.asked c.answer_of-answer.new.stepper ≡ g.S.Stepper.asked c.args.stepper.now ++ flat_map (asked_at is_open answer d t) (take (i + 1) gates) =
    asked_more is_open answer d t gates i place (g.S.Stepper.asked c.args.stepper.now) (g.S.Stepper.asked c.loop-i.stepper) (g.S.Stepper.asked c.answer_of-answer.new.stepper) at
    c.loop-i.invariant.asked (c.answer_of-answer.ensures.asked ∙ ap (λ o. g.S.Stepper.asked c.loop-i.stepper ++ asked_at o answer d t place) c.loop-i.invariant.same) in
    held_err c.from_residual.result
    (asked_some is_open answer d t gates c.requires.apart c.requires.gates (g.S.Stepper.asked c.args.stepper.now) (g.S.Stepper.asked c.answer_of-answer.new.stepper) (i + 1) asked)

pub returns-in_err-add-clause-part : goal.returns-in_err-add-clause-part
returns-in_err-add-clause-part g c =
    let answer = g.S.Stepper.answer in let d = netlist c.args.present.now.design.now in let t = c.args.present.now.t in let gates = c.args.gates.now in let i = c.loop-i.i in let place = slice_index_or gates i 0 in
    let at = slice_get-get_or gates i 0 c.loop-i-test.true in
    let is_open = g.B.Beside.is_open answer d c.args.beside.now in
    let asked : g.S.Stepper.asked c.answer_of-answer.new.stepper ≡ g.S.Stepper.asked c.args.stepper.now ++ flat_map (asked_at is_open answer d t) (take (i + 1) gates) =
    asked_more is_open answer d t gates i place (g.S.Stepper.asked c.args.stepper.now) (g.S.Stepper.asked c.loop-i.stepper) (g.S.Stepper.asked c.answer_of-answer.new.stepper) at
    c.loop-i.invariant.asked (c.answer_of-answer.ensures.asked ∙ ap (λ o. g.S.Stepper.asked c.loop-i.stepper ++ asked_at o answer d t place) c.loop-i.invariant.same) in
    held_err c.from_residual-in_err-add.result
    (asked_some is_open answer d t gates c.requires.apart c.requires.gates (g.S.Stepper.asked c.args.stepper.now) (g.S.Stepper.asked c.answer_of-answer.new.stepper) (i + 1) asked)

pub loop-i-preserved : goal.loop-i-preserved
loop-i-preserved g c =
    let law = g.met.S.Stepper in let are = c.lawful.ensures.design.gates in
    let answer = g.S.Stepper.answer in let d = netlist c.args.present.now.design.now in let t = c.args.present.now.t in let gates = c.args.gates.now in let i = c.loop-i.i in let place = slice_index_or gates i 0 in
    let at = slice_get-get_or gates i 0 c.loop-i-test.true in
    let is_open = g.B.Beside.is_open answer d c.args.beside.now in
    let there : place < length d.gates = is_there is_open answer d t gates c.requires.gates i place at in
    let in_states : place < length c.loop-i.states.items = rw c.loop-i.invariant.as_many there in
    let apart = once_apart gates i place c.requires.apart at in
    let s = c.answer_of-answer.result in let next = map (state_before answer d (t + 1)) d.gates in
    let here : slice_get next place ≡ Some s = c.answer_of-answer.ensures.answer in
    let asked : g.S.Stepper.asked c.answer_of-answer.new.stepper ≡ g.S.Stepper.asked c.args.stepper.now ++ flat_map (asked_at is_open answer d t) (take (i + 1) gates) =
    asked_more is_open answer d t gates i place (g.S.Stepper.asked c.args.stepper.now) (g.S.Stepper.asked c.loop-i.stepper) (g.S.Stepper.asked c.answer_of-answer.new.stepper) at
    c.loop-i.invariant.asked (c.answer_of-answer.ensures.asked ∙ ap (λ o. g.S.Stepper.asked c.loop-i.stepper ++ asked_at o answer d t place) c.loop-i.invariant.same) in
    let in_traces : place < length c.loop-i.traces = rw c.loop-i.invariant.as_many_traces there in
    let next_traces = map (λ gate. trace_below (state_after answer d gate) (t + 1)) d.gates in
    let was : slice_get (map (λ gate. trace_below (state_after answer d gate) t) d.gates) place ≡ Some (slice_index_or c.loop-i.traces place []) =
    ap (λ l. slice_get l place) (sym c.requires.traces)
    ∙ sym (is_old (take i gates) (slice_get c.args.traces.now) (slice_get next_traces) (slice_get c.loop-i.traces) c.loop-i.invariant.traces place apart)
    ∙ slice_get-get_or c.loop-i.traces place [] in_traces in
    let done = take i gates in
    let more : take (i + 1) gates ≡ done ++ place ∷ [] = take_next gates i place at in
    let line = pushed same_state due (slice_index_or c.loop-i.traces place []) t s in
    let grows : slice_get next_traces place ≡ Some line =
    next_trace answer d law.answer_pending c.push_to_changes.ensures are t place (slice_index_or c.loop-i.traces place []) s was here in
    let grown : c.push_known.new.self ≡ set c.loop-i.traces place line = c.in_ok-push_known.ensures in
    let noting : IsNoting place s c.loop-i.events c.match-pending.events = elim c.match-pending.branch [
      | in-Some+in_ok-add w ↦ inl ((w.in-Some.field-0-0, w.in-Some.time), sym c.pending.ensures ∙ w.in-Some.is, λ u. rw w.events-is (w.in_ok-add.ensures.ok u))
      | in_default w ↦ inr (sym c.pending.ensures ∙ w.in_default.is, w.events-is)
    ] in
    let after = noted_more next place s here done (t + 1) c.loop-i.events c.match-pending.events c.loop-i.invariant.events noting in
    record {
      asked = asked;
      losses = c.answer_of-answer.ensures.lost ∙ c.loop-i.invariant.losses;
      fits = c.answer_of-answer.ensures.fits;
      same = c.answer_of-answer.ensures.same ∙ c.loop-i.invariant.same;
      states = subst (λ l. Between l (slice_get c.args.states.now.items) (slice_get next) (slice_get (set c.loop-i.states.items place s))) (sym more)
          (write done c.args.states.now.items next c.loop-i.states.items c.loop-i.invariant.states place s here in_states);
      traces = subst (λ l. Between l (slice_get c.args.traces.now) (slice_get next_traces) (slice_get c.push_known.new.self)) (sym more)
          (subst (λ ts. Between (done ++ place ∷ []) (slice_get c.args.traces.now) (slice_get next_traces) (slice_get ts)) (sym grown)
          (write done c.args.traces.now next_traces c.loop-i.traces c.loop-i.invariant.traces place line grows in_traces));
      events = rw more after.0;
      kept = λ k u h. after.1 k u (c.loop-i.invariant.kept k u h);
      early =
          early_more t place s c.loop-i.events c.match-pending.events noting
          (λ event pending. ((all_at (CanStore t) next place s (storable answer d law.answer_pending law.answer_near are t (omega arith) next refl) here).1 event pending).0) c.loop-i.invariant.early;
      as_many = length-set c.loop-i.states.items place _ ∙ c.loop-i.invariant.as_many;
      as_many_traces = ap length grown ∙ length-set c.loop-i.traces place line ∙ c.loop-i.invariant.as_many_traces;
    }

pub returns-clause-states : goal.returns-clause-states
returns-clause-states g c =
    let law = g.met.S.Stepper in let answer = g.S.Stepper.answer in let d = netlist c.args.present.now.design.now in let t = c.args.present.now.t in let gates = c.args.gates.now in
    let all : take c.loop-i.i gates ≡ gates = take_all c.loop-i.i gates (let past = c.loop-i-test.false in omega arith) in
    finish (take c.loop-i.i gates) c.args.states.now.items (map (state_before answer d (t + 1)) d.gates) c.loop-i.states.items c.loop-i.invariant.states
    (λ k off. ap (λ l. slice_get l k) c.requires.states ∙ other_states answer d law.answer_current law.answer_stays t c.requires.begun k (sym (c.requires.gates k) ∙ ap (has k) (sym all) ∙ off))

pub returns-clause-traces : goal.returns-clause-traces
returns-clause-traces g c =
    let law = g.met.S.Stepper in let answer = g.S.Stepper.answer in let d = netlist c.args.present.now.design.now in let t = c.args.present.now.t in let gates = c.args.gates.now in
    let all : take c.loop-i.i gates ≡ gates = take_all c.loop-i.i gates (let past = c.loop-i-test.false in omega arith) in
    finish (take c.loop-i.i gates) c.args.traces.now (map (λ gate. trace_below (state_after answer d gate) (t + 1)) d.gates) c.loop-i.traces c.loop-i.invariant.traces
    (λ k off. ap (λ l. slice_get l k) c.requires.traces ∙ other_traces answer d law.answer_current law.answer_stays c.no_change.ensures t c.requires.begun k (sym (c.requires.gates k) ∙ ap (has k) (sym all) ∙ off))

pub returns-clause-events : goal.returns-clause-events
returns-clause-events g c =
    let law = g.met.S.Stepper in let answer = g.S.Stepper.answer in let d = netlist c.args.present.now.design.now in let t = c.args.present.now.t in let gates = c.args.gates.now in
    let next = map (state_before answer d (t + 1)) d.gates in
    let all : take c.loop-i.i gates ≡ gates = take_all c.loop-i.i gates (let past = c.loop-i-test.false in omega arith) in
    let same : (k : ℕ) → has k gates ≡ false → slice_get c.args.states.now.items k ≡ slice_get next k =
    λ k off. ap (λ l. slice_get l k) c.requires.states ∙ other_states answer d law.answer_current law.answer_stays t c.requires.begun k (sym (c.requires.gates k) ∙ off) in
    rw (returns-clause-states g c)
    (whole next gates (t + 1) (noted c.loop-i.events) (subst (λ l. Covers (λ k u. has k l && pends_at next k u) (noted c.loop-i.events) (t + 1)) all c.loop-i.invariant.events)
    (others_on gates (t + 1) c.args.states.now.items next (noted c.args.events.now) (noted c.loop-i.events) same c.loop-i.invariant.kept c.requires.events))

pub returns-clause-asked : goal.returns-clause-asked
returns-clause-asked g c =
    let answer = g.S.Stepper.answer in let d = netlist c.args.present.now.design.now in let t = c.args.present.now.t in let gates = c.args.gates.now in
    let all : take c.loop-i.i gates ≡ gates = take_all c.loop-i.i gates (let past = c.loop-i-test.false in omega arith) in
    asked_all (g.B.Beside.is_open answer d c.args.beside.now) answer d t gates c.requires.apart c.requires.gates (g.S.Stepper.asked c.args.stepper.now) (g.S.Stepper.asked c.loop-i.stepper)
    (c.loop-i.invariant.asked ∙ ap (λ l. g.S.Stepper.asked c.args.stepper.now ++ flat_map (asked_at (g.B.Beside.is_open answer d c.args.beside.now) answer d t) l) all)
