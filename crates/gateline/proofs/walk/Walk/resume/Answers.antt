use Rattle.std.proofs.Common.{◌≡◌, ◌<◌, ◌∙◌, ap, sym, subst, suc, IsTrue, map, length, arith}
use Rattle.std.specs.List.{refill}
use Rattle.fourstate.specs.Gates.{takes_inputs}
use Rattle.fourstate.specs.kept.Delays.{AreDelays}
use Rattle.gatestep.specs.Step.{due, initial}
use Rattle.gateline.proofs.Stands.{refilled, ahead, few_readers, inputs_are, stands_passed}
use Rattle.gateline.proofs.Walking.{settled_line}
use Rattle.gateline.proofs.walk.Walk.resume.Goals as goal
use Rattle.gateline.specs.kept.Line.{state_by}
use Rattle.gateline.specs.kept.Readers.{StandAt, next_among, seen, seen_then}
use Rattle.gateline.specs.kept.Waves.{input_functions, inputs_by}
use Rattle.waveform.specs.Timelines.{value_by}

pub read-reading-requires : goal.read-reading-requires
read-reading-requires g c =
    let cell = c.args.cell.now in
    let fit : IsTrue (takes_inputs cell.kind (length cell.inputs)) = subst (λ inputs. IsTrue (takes_inputs cell.kind (length inputs))) c.inputs-places.ensures.inputs c.inputs-places.ensures.fit in
    let few = few_readers c.args.along.waves.now cell.inputs c.in_ok-readers.readers.items c.args.former.done c.in_ok-readers.ensures cell.kind fit in
    let same = ap length c.as_mut_slice.ensures.value in
    omega arith

pub returns-clause-at : goal.returns-clause-at
returns-clause-at g c =
    let law = g.met.S.Stepper in let answer = g.S.Stepper.answer in let cell = c.args.cell.now in let waves = c.args.along.waves.now in
    let done = c.args.former.done in let old = c.in_ok-readers.readers.items in
    let inputs = inputs_by waves cell.inputs in
    let fit : IsTrue (takes_inputs cell.kind (length cell.inputs)) = subst (λ inputs. IsTrue (takes_inputs cell.kind (length inputs))) c.inputs-places.ensures.inputs c.inputs-places.ensures.fit in
    let are : AreDelays cell.delays = subst (λ delays. AreDelays delays) c.delays.ensures c.delays_in_range.ensures.each in
    let new = c.read-reading.new.readers in
    let same : map seen new ≡ map (seen_then done) old = c.read-reading.ensures.readers ∙ ap (map (seen_then done)) c.as_mut_slice.ensures.value in
    let next : done < next_among old = ahead (input_functions waves cell.inputs) old done c.in_ok-readers.ensures (let low = c.requires.within in omega arith) in
    let stand = stands_passed (input_functions waves cell.inputs) old new done done c.in_ok-readers.ensures (omega arith) (omega arith) same in
    let whole : refill (length old) old new ≡ new = refilled old new done same in
    let settled = settled_line answer cell waves fit are law.answer_pending in
    record {
      state = c.at-state.ensures.value ∙ ap (λ line. value_by due initial line done) (c.in_ok-trace.ensures.entries ∙ c.requires.trace)
          ∙ c.value_of_changes.ensures (λ t. state_by answer cell.kind cell.delays inputs (suc t)) settled done (suc done) (omega arith);
      inputs = c.read-reading.ensures.inputs ∙ inputs_are waves cell.inputs new done stand;
      trace = c.in_ok-trace.ensures.entries ∙ c.requires.trace;
      readers = subst (λ readers. StandAt (input_functions waves cell.inputs) readers done) (sym whole) stand;
      next = c.read-reading.ensures.next ∙ sym (ap next_among whole);
    }
