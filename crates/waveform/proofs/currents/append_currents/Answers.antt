use Rattle.std.proofs.Common.{◌≡◌, ◌<◌, ◌+◌, ◌-◌, ◌∙◌, ℕ, List, [], ◌∷◌, length, map, take, drop, get_or, ap, sym, subst, arith}
use Rattle.std.proofs.lemmas.List.{drop_more, drop_all}
use Rattle.gatestep.specs.Step.{State, due}
use Rattle.waveform.specs.kept.Changes.{state_at}
use Rattle.waveform.specs.kept.Currents.{Gives, currents}
use Rattle.waveform.specs.Entries.{same_state}
use Rattle.waveform.specs.Timelines.{entries_after, entries_until}
use Rattle.waveform.proofs.Falling.{as_stored, gives_to_the_end, gives_until_next, next_below, next_lies, others_after, stands_there}
use Rattle.waveform.proofs.Turns.{some_until}
use Rattle.waveform.proofs.currents.append_currents.Goals as goal

-- an entry that is left, and those behind it
next_left : (xs later : List (ℕ × State)) (r i : ℕ) (e : ℕ × State) → entries_after xs r ≡ drop i later → i < length later → e ≡ get_or later i e →
    entries_after xs r ≡ e ∷ drop (i + 1) later
next_left xs later r i e left within is = left ∙ drop_more later i e within ∙ ap (λ d. d ∷ drop (i + 1) later) (sym is)

early_until : (xs E front : List (ℕ × State)) (n r : ℕ) → map (λ e. e) E ≡ xs → map (λ e. e) (take n E) ≡ entries_until (map (λ e. e) E) r → front ≡ take n E →
    front ≡ entries_until xs r
early_until xs E front n r stored until is = is ∙ sym (as_stored (take n E)) ∙ until ∙ ap (λ ys. entries_until ys r) stored

later_after : (xs E back : List (ℕ × State)) (n r : ℕ) → map (λ e. e) E ≡ xs → map (λ e. e) (drop n E) ≡ entries_after (map (λ e. e) E) r → back ≡ drop n E →
    entries_after xs r ≡ back
later_after xs E back n r stored after is = sym (is ∙ sym (as_stored (drop n E)) ∙ after ∙ ap (λ ys. entries_after ys r) stored)

pub last_entry-state-requires : goal.last_entry-state-requires
last_entry-state-requires c =
    let xs = c.args.trace.now in
    let is = early_until xs c.stored-entries.result.now c.split_at.result.0.now c.count_until.result (c.args.from - 1) c.stored-entries.ensures c.count_until.ensures.until c.split_at.ensures.front in
    subst (λ ys. 0 < length ys) (sym is) (some_until same_state due xs (c.args.from - 1) c.last.ensures.timeline)

pub overflow_add-next : goal.overflow_add-next
overflow_add-next c =
    let xs = c.args.trace.now in let later = c.split_at.result.1.now in let i = c.loop-entry.entry-index in let e = c.entry-item.result in
    let after = next_left xs later (c.loop-entry.done - 1) i e c.loop-entry.invariant.left c.loop-entry-test.true c.entry-item.is in
    let below : e.0 < c.args.end = next_below xs (c.loop-entry.done - 1) c.args.end e (drop (i + 1) later) c.requires.ends after in
    let time = c.time-next.ensures in let fits = c.ranges.end.fits in omega (arith, below, time, fits)

pub append_event-requires-clause-within : goal.append_event-requires-clause-within
append_event-requires-clause-within c =
    let xs = c.args.trace.now in let later = c.split_at.result.1.now in let i = c.loop-entry.entry-index in let e = c.entry-item.result in
    let after = next_left xs later (c.loop-entry.done - 1) i e c.loop-entry.invariant.left c.loop-entry-test.true c.entry-item.is in
    let below : e.0 < c.args.end = next_below xs (c.loop-entry.done - 1) c.args.end e (drop (i + 1) later) c.requires.ends after in
    let time = c.time-next.ensures in let within = c.requires.within in omega (arith, below, time, within)

pub append_event-requires-clause-order : goal.append_event-requires-clause-order
append_event-requires-clause-order c =
    let xs = c.args.trace.now in let later = c.split_at.result.1.now in let i = c.loop-entry.entry-index in let e = c.entry-item.result in
    let after = next_left xs later (c.loop-entry.done - 1) i e c.loop-entry.invariant.left c.loop-entry-test.true c.entry-item.is in
    let lies = next_lies xs c.last.ensures.timeline (c.loop-entry.done - 1) e (drop (i + 1) later) after in
    let time = c.time-next.ensures in
    omega (arith, lies, time)

pub append_event-requires-clause-gives : goal.append_event-requires-clause-gives
append_event-requires-clause-gives c =
    let xs = c.args.trace.now in let later = c.split_at.result.1.now in let i = c.loop-entry.entry-index in let e = c.entry-item.result in
    let done = c.loop-entry.done in let s = c.loop-entry.state in let inv = c.loop-entry.invariant in
    let after = next_left xs later (done - 1) i e inv.left c.loop-entry-test.true c.entry-item.is in
    let below : e.0 < c.args.end = next_below xs (done - 1) c.args.end e (drop (i + 1) later) c.requires.ends after in
    subst (λ t. Gives (currents xs) s done (t + 1)) (sym c.time-next.ensures)
    (gives_until_next xs c.last.ensures.timeline done c.args.end s e (drop (i + 1) later) inv.begun inv.stands after below c.requires.goes_on)

pub loop-entry-preserved : goal.loop-entry-preserved
loop-entry-preserved c =
    let xs = c.args.trace.now in let later = c.split_at.result.1.now in let i = c.loop-entry.entry-index in let e = c.entry-item.result in
    let done = c.loop-entry.done in
    let timeline = c.last.ensures.timeline in let inv = c.loop-entry.invariant in
    let after = next_left xs later (done - 1) i e inv.left c.loop-entry-test.true c.entry-item.is in
    let below : e.0 < c.args.end = next_below xs (done - 1) c.args.end e (drop (i + 1) later) c.requires.ends after in
    let time : c.time-next.result ≡ e.0 = c.time-next.ensures in
    let at : c.time-next.result + 1 - 1 ≡ e.0 = omega (arith, time) in
    record {
      begun = omega arith;
      order = omega (arith, time, below);
      left = ap (λ t. entries_after xs t) at ∙ others_after xs timeline (done - 1) e (drop (i + 1) later) after;
      stands = ap (λ t. state_at xs t) at ∙ stands_there xs timeline (done - 1) e (drop (i + 1) later) after
          ∙ ap (λ t. due e.1 t) (sym at) ∙ ap (λ a. due a (c.time-next.result + 1 - 1)) (sym c.state-state.ensures);
      wave = c.in_ok-append_event.ensures;
    }

pub append_event-requires-2-clause-gives : goal.append_event-requires-2-clause-gives
append_event-requires-2-clause-gives c =
    let xs = c.args.trace.now in let later = c.split_at.result.1.now in let inv = c.loop-entry.invariant in
    let none : drop c.loop-entry.entry-index later ≡ [] = drop_all c.loop-entry.entry-index later (let past = c.loop-entry-test.false in omega arith) in
    gives_to_the_end xs c.last.ensures.timeline c.loop-entry.done c.args.end c.loop-entry.state inv.begun inv.stands (inv.left ∙ none)
