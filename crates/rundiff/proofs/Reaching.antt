-- What a front keeps is right as it is before the first moment for which something is noted.
use Rattle.std.proofs.Common.{◌≡◌, ◌<◌, ◌≤◌, ℕ, zero, suc, arith}
use Rattle.fourstate.specs.Values.{same_value}
use Rattle.event_queue.specs.kept.Noted.{noted}
use Rattle.gatestep.specs.Step.{State, Evaluation, due}
use Rattle.gatestep.specs.kept.Tasks.{IsTask, NothingDue, again}
use Rattle.design.specs.kept.Lawful.{IsDesign}
use Rattle.design.specs.Netlist.{Netlist}
use Rattle.waveform.specs.Entries.{same_state, standing}
use Rattle.scratch.proofs.Still.{Stays}
use Rattle.rundiff.specs.declared.front.Front.{Front}
use Rattle.rundiff.specs.Dirty.{rework_below}
use Rattle.rundiff.specs.kept.Fronts.{IsFront}
use Rattle.rundiff.proofs.Clear.{is_clear}
use Rattle.rundiff.proofs.Jumping.{front_on, idle_on}
use Rattle.rundiff.proofs.Noted.{IsFirst, NoneBefore, first_late}

module _ (answer : Evaluation → ℕ → State) (old new : Netlist)
    (current : (e : Evaluation) (t : ℕ) → (answer e t).current ≡ (due e.state t).current)
    (pending : (e : Evaluation) (t : ℕ) → IsTask e → NothingDue t (answer e t))
    (stays : (e : Evaluation) (t u : ℕ) → t < u → NothingDue u (answer e t) → answer (again e (answer e t)) u ≡ answer e t)
    (wave_law : Stays same_value standing) (trace_law : Stays same_state due) (is_old : IsDesign old) (is : IsDesign new) (front : Front) where
  -- where nothing is noted before u all moments before it are done
  pub reach : (n u : ℕ) → IsFront answer old new front n → 0 < n → NoneBefore front u → n ≤ u → u ≤ suc old.horizon → IsFront answer old new front u × (rework_below answer old new u ≡ rework_below answer old new n)
  reach zero u right some none order within = absurd (omega arith)
  reach (suc r) zero right some none order within = absurd (omega arith)
  reach (suc r) (suc l) right some none order within =
      let clear = is_clear answer old new pending is front r (suc l) right none within in (
        front_on answer old new current stays wave_law trace_law is_old is front r (suc l) l right clear none (omega arith) (omega arith) within,
        idle_on answer old new current stays wave_law trace_law is_old is front r (suc l) l right clear none (omega arith) (omega arith) within,
      )

  -- so are those before the first moment before an end for which something is noted
  pub reach_first : (n end net input u : ℕ) → IsFront answer old new front n → 0 < n → n ≤ end → end ≤ suc old.horizon → IsFirst (noted front.nets) end net → IsFirst (noted front.inputs) net input →
      IsFirst (noted front.events) input u → IsFront answer old new front u × (rework_below answer old new u ≡ rework_below answer old new n)
  reach_first n end net input u right some order within nets inputs events =
      let until_net : net ≤ end = nets.until in
      let until_input : input ≤ net = inputs.until in
      let until : u ≤ input = events.until in
      let none : NoneBefore front u = record {
        events = events.none;
        inputs = λ v low. inputs.none v (omega arith);
        nets = λ v low. nets.none v (omega arith);
      } in
      let from_net = first_late (noted front.nets) n end net right.awaits.no_early_net order nets.some in
      let from_input = first_late (noted front.inputs) n net input right.awaits.no_early_input from_net inputs.some in
      reach n u right some none (first_late (noted front.events) n input u right.awaits.no_early_event from_input events.some) (omega arith)
