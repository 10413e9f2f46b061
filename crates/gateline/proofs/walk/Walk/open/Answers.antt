use Rattle.std.proofs.Common.{◌≡◌, ◌++◌, ◌∙◌, ap, sym, subst, refl, List, [], ◌∷◌, IsTrue, map, length, arith}
use Rattle.fourstate.specs.Gates.{takes_inputs}
use Rattle.fourstate.specs.declared.value.Value.{Value}
use Rattle.fourstate.specs.kept.Delays.{AreDelays}
use Rattle.gatestep.proofs.Jobs.{on_err}
use Rattle.gateline.proofs.Stands.{few_readers, refilled}
use Rattle.gateline.proofs.Walking.{fits, read, storable_line}
use Rattle.gateline.proofs.walk.Walk.open.Goals as goal
use Rattle.gateline.specs.kept.Line.{state_by}
use Rattle.gateline.specs.kept.OldLines.{line_if, wanted_by}
use Rattle.gateline.specs.kept.Readers.{StandAt, next_among, seen_then}
use Rattle.gateline.specs.kept.Waves.{input_functions, inputs_by}
use Rattle.waveform.specs.kept.Entries.{CanStore}

pub read-reading-requires : goal.read-reading-requires
read-reading-requires g c =
    let cell = c.args.cell.now in
    let fit : IsTrue (takes_inputs cell.kind (length cell.inputs)) = subst (λ inputs. IsTrue (takes_inputs cell.kind (length inputs))) c.inputs-places.ensures.inputs c.inputs-places.ensures.fit in
    let few = few_readers c.args.along.waves.now cell.inputs c.in_ok-readers.readers.items 0 c.in_ok-readers.ensures cell.kind fit in
    let same = ap length c.as_mut_slice.ensures.value in
    omega arith

pub next_state-state-requires-clause-fit : goal.next_state-state-requires-clause-fit
next_state-state-requires-clause-fit g c =
    let cell = c.args.cell.now in let waves = c.args.along.waves.now in let old = c.in_ok-readers.readers.items in
    let fit : IsTrue (takes_inputs cell.kind (length cell.inputs)) = subst (λ inputs. IsTrue (takes_inputs cell.kind (length inputs))) c.inputs-places.ensures.inputs c.inputs-places.ensures.fit in
    let same = c.read-reading.ensures.readers ∙ ap (map (seen_then 0)) c.as_mut_slice.ensures.value in
    let reading = read g.S.Stepper.answer cell waves c.start.result old c.read-reading.new.readers c.read-reading.result.inputs 0 0 0 c.start.ensures c.in_ok-readers.ensures (omega arith) (omega arith) same c.read-reading.ensures.inputs refl in
    subst (λ (values : List Value). IsTrue (takes_inputs cell.kind (length values))) (sym reading.are) (fits cell waves fit 0)

pub open-requires : goal.open-requires
open-requires g c =
    let law = g.met.S.Stepper in let answer = g.S.Stepper.answer in let cell = c.args.cell.now in let waves = c.args.along.waves.now in let old = c.in_ok-readers.readers.items in
    let fit : IsTrue (takes_inputs cell.kind (length cell.inputs)) = subst (λ inputs. IsTrue (takes_inputs cell.kind (length inputs))) c.inputs-places.ensures.inputs c.inputs-places.ensures.fit in
    let are : AreDelays cell.delays = subst (λ delays. AreDelays delays) c.delays.ensures c.delays_in_range.ensures.each in
    let same = c.read-reading.ensures.readers ∙ ap (map (seen_then 0)) c.as_mut_slice.ensures.value in
    let reading = read answer cell waves c.start.result old c.read-reading.new.readers c.read-reading.result.inputs 0 0 0 c.start.ensures c.in_ok-readers.ensures (omega arith) (omega arith) same c.read-reading.ensures.inputs refl in
    subst (CanStore 0) (sym (c.next_state-state.ensures.state ∙ reading.next)) (storable_line answer cell waves fit are law.answer_pending law.answer_near 0 (omega arith))

pub returns-in_err-trace-clause-part : goal.returns-in_err-trace-clause-part
returns-in_err-trace-clause-part g c =
    let cell = c.args.cell.now in let old = c.in_ok-readers.readers.items in
    let same = c.read-reading.ensures.readers ∙ ap (map (seen_then 0)) c.as_mut_slice.ensures.value in
    let reading = read g.S.Stepper.answer cell c.args.along.waves.now c.start.result old c.read-reading.new.readers c.read-reading.result.inputs 0 0 0 c.start.ensures c.in_ok-readers.ensures (omega arith) (omega arith) same c.read-reading.ensures.inputs refl in
    on_err c.from_residual-in_err-trace.result (
      1,
      omega arith,
      c.next_state-state.ensures.asked ∙ ap (λ l. g.S.Stepper.asked c.args.stepper.now ++ l) (reading.asked (wanted_by (line_if c.args.beside) cell.inputs) refl),
    )

pub returns : goal.returns
returns g c =
    let answer = g.S.Stepper.answer in let cell = c.args.cell.now in let waves = c.args.along.waves.now in
    let old = c.in_ok-readers.readers.items in let new = c.read-reading.new.readers in
    let same = c.read-reading.ensures.readers ∙ ap (map (seen_then 0)) c.as_mut_slice.ensures.value in
    let reading = read answer cell waves c.start.result old new c.read-reading.result.inputs 0 0 0 c.start.ensures c.in_ok-readers.ensures (omega arith) (omega arith) same c.read-reading.ensures.inputs refl in
    let state : c.next_state-state.result ≡ state_by answer cell.kind cell.delays (inputs_by waves cell.inputs) 1 = c.next_state-state.ensures.state ∙ reading.next in
    let whole = refilled old new 0 same in
    record {
      at = record {
        state = state;
        inputs = reading.are;
        trace = c.in_ok-trace.ensures ∙ ap (λ s. (0, s) ∷ []) state;
        readers = subst (λ readers. StandAt (input_functions waves cell.inputs) readers 0) (sym whole) reading.stand;
        next = c.read-reading.ensures.next ∙ sym (ap next_among whole);
      };
      beside = refl;
      asked = c.next_state-state.ensures.asked ∙ ap (λ l. g.S.Stepper.asked c.args.stepper.now ++ l) (reading.asked (wanted_by (line_if c.args.beside) cell.inputs) refl);
      part = tt;
      lost = c.next_state-state.ensures.lost;
    }
