use Rattle.std.proofs.Common.{◌≡◌, ◌<◌, ◌≤◌, ◌+◌, ◌-◌, ◌++◌, ◌∙◌, ap, sym, subst, min, suc, Some, [], All, IsTrue, length, append-nil, arith}
use Rattle.fourstate.specs.Gates.{takes_inputs}
use Rattle.fourstate.specs.kept.Delays.{AreDelays}
use Rattle.gatestep.proofs.Jobs.{on_err}
use Rattle.gateline.proofs.Copied.{states, unasked}
use Rattle.gateline.proofs.Lists.{if_ok_then, on_ok}
use Rattle.gateline.proofs.Still.{asked_more, work_splits}
use Rattle.gateline.proofs.Walking.{settled_line, still_at}
use Rattle.gateline.proofs.walk.Walk.go_on.Goals as goal
use Rattle.gateline.specs.declared.walk.Course.{Course}
use Rattle.gateline.specs.kept.Line.{line_trace, line_work_from, state_by, work_at}
use Rattle.gateline.specs.kept.OldLines.{line_if, line_seen, wanted_by}
use Rattle.gateline.specs.kept.Walks.{IsAt}
use Rattle.gateline.specs.kept.Waves.{inputs_by}
use Rattle.waveform.specs.kept.Changes.{state_at, trace_below}

pub returns-in_err-pass-clause-part : goal.returns-in_err-pass-clause-part
returns-in_err-pass-clause-part g c =
    let answer = g.S.Stepper.answer in let cell = c.args.cell.now in let inputs = inputs_by c.args.waves.now cell.inputs in
    let t = c.loop-t.t in let done = t - 1 in let begin = c.args.begin in let first = g.S.Stepper.asked c.args.stepper.now in let from = c.loop-t.invariant.from in
    let wanted = wanted_by (line_if c.args.self.course.beside) cell.inputs in
    let low : t ≤ c.args.last = c.loop-t-test.true in let stood : min c.args.last done ≡ done = omega arith in
    let more = asked_more answer cell.kind cell.delays inputs wanted first (g.S.Stepper.asked c.loop-t.stepper) (g.S.Stepper.asked c.pass.new.stepper) (suc begin) (suc done) (omega arith)
    (c.loop-t.invariant.asked ∙ ap (λ m. first ++ line_work_from answer cell.kind cell.delays inputs wanted (suc begin) (suc m)) stood)
    (c.pass.ensures.asked ∙ ap (λ o. g.S.Stepper.asked c.loop-t.stepper ++ work_at answer cell.kind cell.delays inputs (wanted_by (line_if o) cell.inputs) (suc done)) c.loop-t.invariant.beside) in
    on_err c.from_residual.result (suc (suc done), omega arith, omega arith, more)

pub pass-requires-clause-at : goal.pass-requires-clause-at
pass-requires-clause-at g c =
    let low : c.loop-t.t ≤ c.args.last = c.loop-t-test.true in let stood : min c.args.last (c.loop-t.t - 1) ≡ c.loop-t.t - 1 = omega arith in
    subst (IsAt g.S.Stepper.answer c.args.cell.now c.args.waves.now c.loop-t.situation c.loop-t.course) stood c.loop-t.invariant.at

pub pass-requires-clause-followed : goal.pass-requires-clause-followed
pass-requires-clause-followed g c = λ old is.
    let low : c.loop-t.t ≤ c.args.last = c.loop-t-test.true in let from : c.args.begin < c.loop-t.t = c.loop-t.invariant.from in
    (c.requires.beside old (sym c.loop-t.invariant.beside ∙ is)).followed (suc (c.loop-t.t - 1)) (omega arith)

pub next_moment-t-requires-in-loop-t-clause-at : goal.next_moment-t-requires-in-loop-t-clause-at
next_moment-t-requires-in-loop-t-clause-at g c =
    let from : c.args.begin < c.loop-t.t = c.loop-t.invariant.from in let after : suc (c.loop-t.t - 1) ≡ c.loop-t.t = omega arith in
    subst (IsAt g.S.Stepper.answer c.args.cell.now c.args.waves.now c.pass.new.situation c.met.new.self) after (still_at g.S.Stepper.answer c.args.cell.now c.args.waves.now (suc (c.loop-t.t - 1)) c.in_ok-pass.ensures.at c.met.ensures.same)

pub loop-t-preserved : goal.loop-t-preserved
loop-t-preserved g c =
    let answer = g.S.Stepper.answer in let cell = c.args.cell.now in let inputs = inputs_by c.args.waves.now cell.inputs in
    let t = c.loop-t.t in let done = t - 1 in let begin = c.args.begin in let first = g.S.Stepper.asked c.args.stepper.now in let from = c.loop-t.invariant.from in
    let wanted = wanted_by (line_if c.args.self.course.beside) cell.inputs in
    let low : t ≤ c.args.last = c.loop-t-test.true in let stood : min c.args.last done ≡ done = omega arith in
    let more = asked_more answer cell.kind cell.delays inputs wanted first (g.S.Stepper.asked c.loop-t.stepper) (g.S.Stepper.asked c.pass.new.stepper) (suc begin) (suc done) (omega arith)
    (c.loop-t.invariant.asked ∙ ap (λ m. first ++ line_work_from answer cell.kind cell.delays inputs wanted (suc begin) (suc m)) stood)
    (c.pass.ensures.asked ∙ ap (λ o. g.S.Stepper.asked c.loop-t.stepper ++ work_at answer cell.kind cell.delays inputs (wanted_by (line_if o) cell.inputs) (suc done)) c.loop-t.invariant.beside) in
    let after : t ≡ suc done = omega arith in
    let rest = c.next_moment-t-in-loop-t.ensures in
    record {
      at = rest.at;
      from = let later = rest.later in omega arith;
      next = rest.next;
      beside = ap (λ (w : Course). w.beside) c.met.ensures.same ∙ c.pass.ensures.beside ∙ c.loop-t.invariant.beside;
      asked = more ∙ ap (λ l. first ++ l) (ap (λ m. line_work_from answer cell.kind cell.delays inputs wanted (suc begin) (suc m)) (sym after) ∙ sym (rest.idle wanted (suc begin) (omega arith)));
      lost = c.pass.ensures.lost ∙ c.loop-t.invariant.lost;
    }

pub returns : goal.returns
returns g c =
    let cell = c.args.cell.now in let inputs = inputs_by c.args.waves.now cell.inputs in
    let all : min c.args.last (c.loop-t.t - 1) ≡ c.args.last = (let past = c.loop-t-test.false in let from = c.loop-t.invariant.from in omega arith) in
    record {
      trace = c.loop-t.invariant.at.trace ∙ ap (λ m. line_trace g.S.Stepper.answer cell.kind cell.delays inputs (suc m)) all;
      asked = c.loop-t.invariant.asked
          ∙ ap (λ m. g.S.Stepper.asked c.args.stepper.now ++ line_work_from g.S.Stepper.answer cell.kind cell.delays inputs (wanted_by (line_if c.args.self.course.beside) cell.inputs) (suc c.args.begin) (suc m)) all;
      part = tt;
      lost = c.loop-t.invariant.lost;
    }

pub go_along-requires-clause-early : goal.go_along-requires-clause-early
go_along-requires-clause-early g c =
    let answer = g.S.Stepper.answer in let cell = c.args.cell.now in let inputs = inputs_by c.args.waves.now cell.inputs in
    let t = c.loop-t.t in let done = t - 1 in let from : c.args.begin < t = c.loop-t.invariant.from in let end : suc (suc done) ≡ t + 1 = omega arith in
    subst (All (λ e. e.0 < t + 1)) (sym (ap (λ (w : Course). w.trace) c.met.ensures.same ∙ c.in_ok-pass.ensures.at.trace))
    (subst (λ n. All (λ e. e.0 < n) (line_trace answer cell.kind cell.delays inputs (suc (suc done)))) end
    (c.changes_lie_before.ensures (λ u. state_by answer cell.kind cell.delays inputs (suc u)) (suc (suc done))))

pub returns-in-Some : goal.returns-in-Some
returns-in-Some g c =
    let law = g.met.S.Stepper in let answer = g.S.Stepper.answer in let cell = c.args.cell.now in let waves = c.args.waves.now in let inputs = inputs_by waves cell.inputs in
    let t = c.loop-t.t in let done = t - 1 in let last = c.args.last in let begin = c.args.begin in let first = g.S.Stepper.asked c.args.stepper.now in let from = c.loop-t.invariant.from in
    let after : t ≡ suc done = omega arith in
    let wanted = wanted_by (line_if c.args.self.course.beside) cell.inputs in
    let low : t ≤ c.args.last = c.loop-t-test.true in let stood : min c.args.last done ≡ done = omega arith in
    let more = asked_more answer cell.kind cell.delays inputs wanted first (g.S.Stepper.asked c.loop-t.stepper) (g.S.Stepper.asked c.pass.new.stepper) (suc begin) (suc done) (omega arith)
    (c.loop-t.invariant.asked ∙ ap (λ m. first ++ line_work_from answer cell.kind cell.delays inputs wanted (suc begin) (suc m)) stood)
    (c.pass.ensures.asked ∙ ap (λ o. g.S.Stepper.asked c.loop-t.stepper ++ work_at answer cell.kind cell.delays inputs (wanted_by (line_if o) cell.inputs) (suc done)) c.loop-t.invariant.beside) in
    let fit : IsTrue (takes_inputs cell.kind (length cell.inputs)) = subst (λ inputs. IsTrue (takes_inputs cell.kind (length inputs))) c.inputs-inputs.ensures.inputs c.inputs-inputs.ensures.fit in
    let are : AreDelays cell.delays = subst (λ delays. AreDelays delays) c.delays.ensures c.delays_in_range.ensures.each in
    let met = c.in-Some.ensures.met in let trace = c.in-Some.old.now in
    let is : c.args.self.course.beside ≡ Some met.old = sym (c.pass.ensures.beside ∙ c.loop-t.invariant.beside) ∙ met.is in
    let line = c.requires.beside met.old is in
    let alike = c.requires.meeting met.old is in let late = c.in-Some.ensures.late in
    let agree = ap (λ l. state_at l (suc done)) met.same ∙ ap (state_at trace) (sym after) ∙ met.stood ∙ c.in_ok-pass.ensures.at.state in
    let states = states answer cell waves (line_seen met.old) (suc (suc done)) (suc last) (λ u before. line.followed u (omega arith)) met.there (λ u from before. alike u (omega arith) (omega arith)) agree in
    let none : line_work_from answer cell.kind cell.delays inputs wanted (suc (suc done)) (suc last) ≡ [] =
    ap (λ o. line_work_from answer cell.kind cell.delays inputs (wanted_by (line_if o) cell.inputs) (suc (suc done)) (suc last)) is
    ∙ unasked answer cell waves (line_seen met.old) (suc (suc done)) (suc last) (λ u before. line.followed u (omega arith)) met.there (λ u from before. alike u (omega arith) (omega arith)) agree
    (suc (suc done)) (suc last) (omega arith) (omega arith) in
    let made = line_work_from answer cell.kind cell.delays inputs wanted (suc begin) (suc (suc done)) in
    record {
      trace = if_ok_then c.go_along.result
          (λ new goes. goes (λ u. state_by answer cell.kind cell.delays inputs (suc u)) (settled_line answer cell waves fit are law.answer_pending)
          (ap (λ (w : Course). w.trace) c.met.ensures.same ∙ c.in_ok-pass.ensures.at.trace ∙ ap (λ n. line_trace answer cell.kind cell.delays inputs (suc n)) (sym after))
          (subst (λ l. l ≡ trace_below (state_at l) (suc last)) met.same line.whole)
          (λ u behind within. ap (λ l. state_at l u) (sym met.same) ∙ states (suc u) (omega arith) (omega arith)))
          c.go_along.ensures;
      asked = on_ok c.go_along.result
          (more
          ∙ ap (λ l. first ++ l)
          (sym (append-nil made) ∙ ap (λ l. made ++ l) (sym none) ∙ sym (work_splits answer cell.kind cell.delays inputs wanted (suc begin) (suc (suc done)) (suc last) (omega arith) (omega arith))));
      part = on_err c.go_along.result (suc (suc done), omega arith, omega arith, more);
      lost = c.pass.ensures.lost ∙ c.loop-t.invariant.lost;
    }
