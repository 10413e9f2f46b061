use Rattle.std.proofs.Common.{◌≡◌, ◌∙◌, ◌++◌, ◌∷◌, [], false, Some, None, ap, sym, arith}
use Rattle.std.specs.Prelude.{if◌then◌else◌}
use Rattle.fourstate.specs.Values.{same_value}
use Rattle.fourstate.specs.kept.ValueLaws.{is_same}
use Rattle.waveform.specs.Changes.{wave_changes_below}
use Rattle.waveform.specs.kept.Currents.{currents}
use Rattle.waveform.specs.Entries.{standing}
use Rattle.waveform.specs.kept.Timelines.{is_reached}
use Rattle.waveform.proofs.Falling.{changes_early_on, event_due, event_of_same, event_past, event_to_come, none_pending, not_reached, with_pending}
use Rattle.waveform.proofs.currents.append_event.Goals.{else-from-time-via-then-from-time+then-time-end+else-not-is_same, else-from-time-via-then-from-time+else-time-end, else-from-time-via-else-from-time}
use Rattle.waveform.proofs.currents.append_event.Goals as goal

pub append-requires-clause-later : goal.append-requires-clause-later
append-requires-clause-later c =
    let early = changes_early_on (currents c.args.trace.now) c.args.from c.args.wave.now c.requires.wave in
    let time : c.new.result.0 ≡ c.in-Some.time = ap (λ e. e.0) c.new.ensures in
    λ k d low. let before = early k d low in let from = c.if-from-time.true in omega (arith, before, from, time)

pub append-requires-clause-other : goal.append-requires-clause-other
append-requires-clause-other c =
    let s = c.args.state in let f = currents c.args.trace.now in let v = c.in-Some.value in let d = c.in-Some.time in
    let is : s.pending ≡ Some (v, d) = sym c.pending.ensures ∙ c.in-Some.is in
    let other : same_value v s.current ≡ false = ap (same_value v) (sym c.current.ensures) ∙ sym c.is_same.ensures ∙ c.if-not-is_same.true in
    ap (λ e. is_reached same_value standing c.args.wave.now e.0 e.1) c.new.ensures
    ∙ ap (λ ws. is_reached same_value standing ws d v) c.requires.wave
    ∙ not_reached f s.current v d c.args.from c.args.end c.requires.begun c.if-from-time.true c.if-time-end.true other (with_pending f s (Some (v, d)) c.args.from c.args.end is c.requires.gives)

pub returns-in_ok-append : goal.returns-in_ok-append
returns-in_ok-append c =
    let s = c.args.state in let f = currents c.args.trace.now in let v = c.in-Some.value in let d = c.in-Some.time in
    let is : s.pending ≡ Some (v, d) = sym c.pending.ensures ∙ c.in-Some.is in
    let so = with_pending f s (Some (v, d)) c.args.from c.args.end is c.requires.gives in
    let other : same_value v s.current ≡ false = ap (same_value v) (sym c.current.ensures) ∙ sym c.is_same.ensures ∙ c.if-not-is_same.true in
    let new = not_reached f s.current v d c.args.from c.args.end c.requires.begun c.if-from-time.true c.if-time-end.true other so in
    c.in_ok-append.ensures.ok ∙ ap (λ ws. ws ++ c.new.result ∷ []) c.requires.wave ∙ ap (λ e. wave_changes_below f c.args.from ++ e ∷ []) c.new.ensures
    ∙ sym (ap (λ b. if b then wave_changes_below f c.args.from else wave_changes_below f c.args.from ++ (d, v) ∷ []) new)
    ∙ sym (event_due f s.current v d c.args.from c.args.end c.requires.begun c.if-from-time.true c.if-time-end.true so)

pub returns-else-from-time : goal.returns-else-from-time
returns-else-from-time c =
    let s = c.args.state in let f = currents c.args.trace.now in let v = c.in-Some.value in let d = c.in-Some.time in
    let is : s.pending ≡ Some (v, d) = sym c.pending.ensures ∙ c.in-Some.is in
    let so = with_pending f s (Some (v, d)) c.args.from c.args.end is c.requires.gives in
    elim c.else-from-time.branch [
      | else-from-time-via-then-from-time+then-time-end+else-not-is_same w ↦
          let same : v ≡ s.current = is_same v s.current (ap (same_value v) (sym w.current.ensures) ∙ sym w.is_same.ensures ∙ w.if-not-is_same.false) in
          c.requires.wave ∙ sym (event_of_same f s.current v d c.args.from c.args.end c.requires.begun c.requires.order same so)
      | else-from-time-via-then-from-time+else-time-end w ↦
          c.requires.wave ∙ sym (event_to_come f s.current v d c.args.from c.args.end c.requires.begun c.requires.order w.if-time-end.false so)
      | else-from-time-via-else-from-time w ↦
          c.requires.wave ∙ sym (event_past f s.current v d c.args.from c.args.end c.requires.begun c.requires.order w.if-from-time.false so)
    ]

pub returns-in_default : goal.returns-in_default
returns-in_default c =
    let s = c.args.state in let f = currents c.args.trace.now in
    c.requires.wave ∙ sym (none_pending f s.current c.args.from c.args.end c.requires.begun c.requires.order (with_pending f s None c.args.from c.args.end (sym c.in_default.ensures) c.requires.gives))
