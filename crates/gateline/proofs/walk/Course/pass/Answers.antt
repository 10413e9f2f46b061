use Rattle.std.proofs.Common.{◌≡◌, ◌<◌, ◌+◌, ◌++◌, ◌∙◌, ap, sym, subst, refl, suc, List, IsTrue, All, length, append-nil, add-one, arith}
use Rattle.std.specs.Option.{ForSome}
use Rattle.fourstate.specs.Gates.{takes_inputs}
use Rattle.fourstate.specs.declared.value.Value.{Value}
use Rattle.fourstate.specs.kept.Delays.{AreDelays}
use Rattle.gatestep.specs.Step.{due}
use Rattle.gatestep.specs.Tasks.{PendingFrom}
use Rattle.gateline.proofs.Stands.{few_readers, inputs_are}
use Rattle.gateline.proofs.Still.{nothing_at, still_state, still_trace}
use Rattle.gateline.proofs.Walking.{fits, grown, reached_line, read_next, ready_line, stirred_is, storable_line}
use Rattle.gateline.proofs.walk.Course.pass.Goals as goal
use Rattle.gateline.specs.kept.Line.{line_trace, state_by}
use Rattle.gateline.specs.kept.OldLines.{IsFollowedAt, line_if, line_seen, wanted_by}
use Rattle.gateline.specs.kept.Readers.{next_among}
use Rattle.gateline.specs.kept.Waves.{inputs_by}
use Rattle.waveform.specs.Entries.{same_state}
use Rattle.waveform.specs.kept.Entries.{CanStore}
use Rattle.waveform.specs.kept.Timelines.{is_reached, pushed}

pub read_on-reading-requires : goal.read_on-reading-requires
read_on-reading-requires g c =
    let cell = c.args.cell.now in let waves = c.args.waves.now in let readers = c.args.self.now.readers.items in let at = c.requires.at in let m = c.args.done in
    let next : c.args.situation.now.next ≡ next_among readers = at.next in
    record {
      few = few_readers waves cell.inputs readers m at.readers cell.kind (subst (λ inputs. IsTrue (takes_inputs cell.kind (length inputs))) c.inputs-inputs.ensures.inputs c.inputs-inputs.ensures.fit);
      inputs = at.inputs ∙ sym (inputs_are waves cell.inputs readers m at.readers);
      next = next;
      order = let below = c.requires.next in omega arith;
    }

pub returns-then-not-is_stirred : goal.returns-then-not-is_stirred
returns-then-not-is_stirred g c =
    let law = g.met.S.Stepper in let answer = g.S.Stepper.answer in let cell = c.args.cell.now in let waves = c.args.waves.now in let inputs = inputs_by waves cell.inputs in
    let situation = c.args.situation.now in let course = c.args.self.now in let at = c.requires.at in let m = c.args.done in let asked = g.S.Stepper.asked c.args.stepper.now in
    let reading = read_next answer cell waves situation course m c.read_on-reading.new.readers.items c.read_on-reading.result.inputs at c.requires.next c.read_on-reading.ensures.readers c.read_on-reading.ensures.inputs in
    let off = stirred_is answer cell waves situation course m c.read_on-reading.result.inputs c.is_stirred.result at reading.are c.is_stirred.ensures ∙ c.if-not-is_stirred.true in
    record {
      at = record {
        state = at.state ∙ sym (still_state answer cell.kind cell.delays inputs law.answer_stays m off);
        inputs = reading.are;
        trace = at.trace ∙ sym (still_trace answer cell.kind cell.delays inputs law.answer_stays c.no_change_by_drift.ensures m off);
        readers = reading.stand;
        next = c.read_on-reading.ensures.next;
      };
      beside = refl;
      asked = sym (append-nil asked) ∙ ap (λ l. asked ++ l) (sym (nothing_at answer cell.kind cell.delays inputs (wanted_by (line_if course.beside) cell.inputs) (suc m) off));
      lost = refl;
    }

pub next_state-situation-requires : goal.next_state-situation-requires
next_state-situation-requires g c =
    let law = g.met.S.Stepper in let answer = g.S.Stepper.answer in let cell = c.args.cell.now in let waves = c.args.waves.now in
    let situation = c.args.situation.now in let course = c.args.self.now in let at = c.requires.at in let m = c.args.done in
    let fit : IsTrue (takes_inputs cell.kind (length cell.inputs)) = subst (λ inputs. IsTrue (takes_inputs cell.kind (length inputs))) c.inputs-inputs.ensures.inputs c.inputs-inputs.ensures.fit in
    let are : AreDelays cell.delays = subst (λ delays. AreDelays delays) c.delays.ensures c.delays_in_range.ensures.each in
    let reading = read_next answer cell waves situation course m c.read_on-reading.new.readers.items c.read_on-reading.result.inputs at c.requires.next c.read_on-reading.ensures.readers c.read_on-reading.ensures.inputs in
    let pend : PendingFrom (suc m) situation.state = subst (PendingFrom (suc m)) (sym at.state) (ready_line answer cell waves fit are law.answer_pending (suc m)) in
    record {
      none_lost = c.requires.none_lost;
      fit = subst (λ (values : List Value). IsTrue (takes_inputs cell.kind (length values))) (sym reading.are) (fits cell waves fit (suc m));
      ready = subst (λ t. PendingFrom t situation.state) (sym (add-one m)) pend;
      within = let low = c.requires.within in omega arith;
      followed = subst (λ t. ForSome course.beside (λ old. IsFollowedAt answer cell (line_seen old) t)) (sym (add-one m)) c.requires.followed;
    }

pub push_known-requires : goal.push_known-requires
push_known-requires g c =
    let law = g.met.S.Stepper in let answer = g.S.Stepper.answer in let cell = c.args.cell.now in let waves = c.args.waves.now in let inputs = inputs_by waves cell.inputs in
    let situation = c.args.situation.now in let course = c.args.self.now in let at = c.requires.at in let m = c.args.done in let after = add-one m in
    let fit : IsTrue (takes_inputs cell.kind (length cell.inputs)) = subst (λ inputs. IsTrue (takes_inputs cell.kind (length inputs))) c.inputs-inputs.ensures.inputs c.inputs-inputs.ensures.fit in
    let are : AreDelays cell.delays = subst (λ delays. AreDelays delays) c.delays.ensures c.delays_in_range.ensures.each in
    let reading = read_next answer cell waves situation course m c.read_on-reading.new.readers.items c.read_on-reading.result.inputs at c.requires.next c.read_on-reading.ensures.readers c.read_on-reading.ensures.inputs in
    let new = c.next_state-situation.result in
    record {
      later = subst (λ l. All (λ e. e.0 < m + 1) l) (sym at.trace)
          (subst (λ t. All (λ e. e.0 < t) (line_trace answer cell.kind cell.delays inputs (suc m))) (sym after)
          (c.changes_lie_before.ensures (λ t. state_by answer cell.kind cell.delays inputs (suc t)) (suc m)));
      can = subst (λ s. CanStore (m + 1) s) (sym (c.next_state-situation.ensures.state ∙ reading.next))
          (subst (λ t. CanStore t (state_by answer cell.kind cell.delays inputs (suc (suc m)))) (sym after)
          (storable_line answer cell waves fit are law.answer_pending law.answer_near (suc m) (let low = c.requires.within in omega arith)));
      known = (λ i. is_reached same_state due (at.trace i) (after i) new)
          ∙ reached_line answer cell waves fit are law.answer_pending c.reached_by_changes.ensures m new
          ∙ sym (λ i. same_state new (due (at.state i) (after i)))
          ∙ ap (same_state new) (sym c.due.ensures);
    }

pub returns-in_err-push_known-clause-asked : goal.returns-in_err-push_known-clause-asked
returns-in_err-push_known-clause-asked g c =
    let answer = g.S.Stepper.answer in let cell = c.args.cell.now in let waves = c.args.waves.now in
    let situation = c.args.situation.now in let course = c.args.self.now in let at = c.requires.at in let m = c.args.done in
    let reading = read_next answer cell waves situation course m c.read_on-reading.new.readers.items c.read_on-reading.result.inputs at c.requires.next c.read_on-reading.ensures.readers c.read_on-reading.ensures.inputs in
    let on = stirred_is answer cell waves situation course m c.read_on-reading.result.inputs c.is_stirred.result at reading.are c.is_stirred.ensures ∙ c.if-not-is_stirred.false in
    c.next_state-situation.ensures.asked ∙ ap (λ l. g.S.Stepper.asked c.args.stepper.now ++ l) (reading.asked (wanted_by (line_if course.beside) cell.inputs) on)

pub returns : goal.returns
returns g c =
    let law = g.met.S.Stepper in let answer = g.S.Stepper.answer in let cell = c.args.cell.now in let waves = c.args.waves.now in
    let situation = c.args.situation.now in let course = c.args.self.now in let at = c.requires.at in let m = c.args.done in let after = add-one m in
    let fit : IsTrue (takes_inputs cell.kind (length cell.inputs)) = subst (λ inputs. IsTrue (takes_inputs cell.kind (length inputs))) c.inputs-inputs.ensures.inputs c.inputs-inputs.ensures.fit in
    let are : AreDelays cell.delays = subst (λ delays. AreDelays delays) c.delays.ensures c.delays_in_range.ensures.each in
    let reading = read_next answer cell waves situation course m c.read_on-reading.new.readers.items c.read_on-reading.result.inputs at c.requires.next c.read_on-reading.ensures.readers c.read_on-reading.ensures.inputs in
    let on = stirred_is answer cell waves situation course m c.read_on-reading.result.inputs c.is_stirred.result at reading.are c.is_stirred.ensures ∙ c.if-not-is_stirred.false in
    let state : c.next_state-situation.result ≡ state_by answer cell.kind cell.delays (inputs_by waves cell.inputs) (suc (suc m)) = c.next_state-situation.ensures.state ∙ reading.next in
    record {
      at = record {
        state = state;
        inputs = reading.are;
        trace = c.in_ok-push_known.ensures.ok ∙ (λ i. pushed same_state due (at.trace i) (after i) (state i)) ∙ grown answer cell waves fit are law.answer_pending c.push_to_changes.ensures (suc m);
        readers = reading.stand;
        next = c.read_on-reading.ensures.next;
      };
      beside = refl;
      asked = c.next_state-situation.ensures.asked ∙ ap (λ l. g.S.Stepper.asked c.args.stepper.now ++ l) (reading.asked (wanted_by (line_if course.beside) cell.inputs) on);
      lost = c.next_state-situation.ensures.lost;
    }
