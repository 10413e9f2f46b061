-- A gate that is followed: what stands where nothing happens, and what a moment makes of it.
use Rattle.std.proofs.Common.{◌≡◌, ◌<◌, ◌≤◌, ◌-◌, ◌∙◌, ap, sym, subst, cond, IsTrue, Bool, true, false, not, ℕ, suc, ◌+◌, List, [], ◌∷◌, map, length, add-one, arith}
use Rattle.std.specs.Prelude.{◌||◌}
use Rattle.std.proofs.lemmas.List.{length-map}
use Rattle.fourstate.specs.Gates.{takes_inputs}
use Rattle.fourstate.specs.declared.limits.TheConstants.{MAX_DELAY}
use Rattle.fourstate.specs.declared.value.Value.{Value}
use Rattle.fourstate.specs.kept.Delays.{AreDelays}
use Rattle.gatestep.specs.Step.{State, Evaluation, due}
use Rattle.gatestep.specs.Tasks.{PendingFrom}
use Rattle.gatestep.specs.kept.Tasks.{IsTask, NothingDue, PendingBefore, again}
use Rattle.gateline.proofs.Stands.{inputs_are, inputs_stay, stands_later, stands_passed}
use Rattle.gateline.proofs.Still.{NoneAdded, StaysTo, ready, settled, stays_to, stirred_work, storable}
use Rattle.gateline.specs.declared.old_line.Near.{Near}
use Rattle.gateline.specs.declared.reader.Reader.{Reader}
use Rattle.gateline.specs.declared.walk.Course.{Course}
use Rattle.gateline.specs.declared.walk.Situation.{Situation}
use Rattle.gateline.specs.kept.Line.{is_stirred_by, line_trace, line_work_from, state_by, work_at}
use Rattle.gateline.specs.kept.Readers.{StandAt, next_among, seen, seen_then}
use Rattle.gateline.specs.kept.Walks.{IsAt}
use Rattle.gateline.specs.kept.Waves.{input_functions, inputs_by}
use Rattle.scratch.proofs.Runs.{Grows, Reached}
use Rattle.scratch.specs.Work.{is_due, same_values}
use Rattle.scratch.specs.kept.Cells.{CellRecord}
use Rattle.waveform.specs.Entries.{same_state}
use Rattle.waveform.specs.declared.times.TheConstants.{TIME_END}
use Rattle.waveform.specs.kept.Entries.{CanStore}
use Rattle.waveform.specs.kept.Timelines.{IsAlwaysSettled, is_reached, pushed}

-- what stands does not ask where lines of an old run were looked up
pub still_at : (answer : Evaluation → ℕ → State) (cell : CellRecord) (waves : List (List (ℕ × Value))) (m : ℕ) {situation : Situation} {w v : Course} {near : Near} →
    IsAt answer cell waves situation w m → v ≡ record w { near = near } → IsAt answer cell waves situation v m
still_at answer cell waves m {situation = situation} at same =
    subst (λ course. IsAt answer cell waves situation course m) (sym same) (record { state = at.state; inputs = at.inputs; trace = at.trace; readers = at.readers; next = at.next })

-- each gate has as many inputs at each moment as its cell
pub fits : (cell : CellRecord) (waves : List (List (ℕ × Value))) → IsTrue (takes_inputs cell.kind (length cell.inputs)) → (t : ℕ) → IsTrue (takes_inputs cell.kind (length (inputs_by waves cell.inputs t)))
fits cell waves fit t = rw length-map fit

module _ (answer : Evaluation → ℕ → State) (cell : CellRecord) (waves : List (List (ℕ × Value))) where
  abbrev inputs : ℕ → List Value
  inputs = inputs_by waves cell.inputs

  module _ (stays : (e : Evaluation) (t u : ℕ) → t < u → NothingDue u (answer e t) → answer (again e (answer e t)) u ≡ answer e t) (none_added : NoneAdded) where
    module _ (situation : Situation) (course : Course) (m r : ℕ) (at : IsAt answer cell waves situation course m) (from : m ≤ r) (below : r < next_among course.readers.items)
        (none : (u : ℕ) → u ≤ r → is_due situation.state u ≡ false) where
      all_stays : StaysTo answer cell.kind cell.delays inputs stays m r
      all_stays =
          stays_to answer cell.kind cell.delays inputs stays none_added m r from
          (λ u high low. inputs_stay waves cell.inputs course.readers.items m at.readers u high (omega arith))
          (λ u low. ap (λ s. is_due s u) (sym at.state) ∙ none u low)

      -- what stands up to a moment before which nothing happens
      pub rests : IsAt answer cell waves situation course r
      rests = record {
        state = at.state ∙ sym all_stays.states;
        inputs = at.inputs ∙ sym (inputs_stay waves cell.inputs course.readers.items m at.readers r from below);
        trace = at.trace ∙ sym all_stays.traces;
        readers = stands_later (input_functions waves cell.inputs) course.readers.items m r at.readers from below;
        next = at.next;
      }

      pub idle : (wanted : Evaluation → ℕ → Bool) (n : ℕ) → n ≤ suc m →
          line_work_from answer cell.kind cell.delays inputs wanted n (suc r) ≡ line_work_from answer cell.kind cell.delays inputs wanted n (suc m)
      idle = all_stays.works

  -- a gate whose state is this one is evaluated with these values
  abbrev task : State → List Value → Evaluation
  task state values = record { kind = cell.kind; delays = cell.delays; state = state; inputs = values }

  -- what is read at the moment n, where t is n
  pub record Read (state : State) (new : List Reader) (values : List Value) (t n : ℕ) : Type 0 where
    pub stand : StandAt (input_functions waves cell.inputs) new n
    pub are : values ≡ inputs n
    pub next : answer (task state values) t ≡ state_by answer cell.kind cell.delays inputs (suc n)
    pub asked : (wanted : Evaluation → ℕ → Bool) → is_stirred_by answer cell.kind cell.delays inputs n ≡ true →
        cond (wanted (task state values) t) ((task state values, t) ∷ []) [] ≡ work_at answer cell.kind cell.delays inputs wanted n

  pub read : (state : State) (old new : List Reader) (values : List Value) (t m n : ℕ) → state ≡ state_by answer cell.kind cell.delays inputs n →
      StandAt (input_functions waves cell.inputs) old m → m ≤ n → n ≤ next_among old → map seen new ≡ map (seen_then t) old → values ≡ map (λ reader. reader.value) new → t ≡ n →
      Read state new values t n
  read state old new values t m n stood stand from to same are here =
      let now = stands_passed (input_functions waves cell.inputs) old new m n stand from to (same ∙ ap (λ k. map (seen_then k) old) here) in
      let is : values ≡ inputs n = are ∙ inputs_are waves cell.inputs new n now in
      record {
        stand = now;
        are = is;
        next = λ i. answer (task (stood i) (is i)) (here i);
        asked = λ wanted on. (λ i. cond (wanted (task (stood i) (is i)) (here i)) ((task (stood i) (is i), here i) ∷ []) [])
            ∙ sym (stirred_work answer cell.kind cell.delays inputs wanted n on);
      }

  -- at the moment after m
  pub read_next : (situation : Situation) (course : Course) (m : ℕ) (new : List Reader) (values : List Value) → IsAt answer cell waves situation course m → m < next_among course.readers.items →
      map seen new ≡ map (seen_then (m + 1)) course.readers.items → values ≡ map (λ reader. reader.value) new → Read situation.state new values (m + 1) (suc m)
  read_next situation course m new values at below same are =
      read situation.state course.readers.items new values (m + 1) m (suc m) at.state at.readers (omega arith) (omega arith) same are (add-one m)

  -- whether it is stirred there
  pub stirred_is : (situation : Situation) (course : Course) (m : ℕ) (values : List Value) (b : Bool) → IsAt answer cell waves situation course m → values ≡ inputs (suc m) →
      b ≡ (not (same_values values situation.inputs) || is_due situation.state (m + 1)) → is_stirred_by answer cell.kind cell.delays inputs (suc m) ≡ b
  stirred_is situation course m values b at are is =
      let before : situation.inputs ≡ inputs m = at.inputs in
      let state : situation.state ≡ state_by answer cell.kind cell.delays inputs (suc m) = at.state in
      sym (is ∙ (λ i. not (same_values (are i) (before i)) || is_due (state i) (add-one m i)))

  module _ (fit : IsTrue (takes_inputs cell.kind (length cell.inputs))) (are : AreDelays cell.delays)
      (pending : (e : Evaluation) (t : ℕ) → IsTask e → NothingDue t (answer e t)) where
    pub settled_line : IsAlwaysSettled due (λ t. state_by answer cell.kind cell.delays inputs (suc t))
    settled_line = settled answer cell.kind cell.delays inputs (fits cell waves fit) are pending

    pub ready_line : (t : ℕ) → PendingFrom t (state_by answer cell.kind cell.delays inputs t)
    ready_line = ready answer cell.kind cell.delays inputs (fits cell waves fit) are pending

    -- the trace with the state after t
    pub grown : Grows same_state due → (t : ℕ) → pushed same_state due (line_trace answer cell.kind cell.delays inputs t) t (state_by answer cell.kind cell.delays inputs (suc t)) ≡ line_trace answer cell.kind cell.delays inputs (suc t)
    grown grows t = grows (λ u. state_by answer cell.kind cell.delays inputs (suc u)) settled_line t

    -- the trace of the moments up to m has reached a state at the next one where the state at m has become that
    pub reached_line : Reached same_state due → (m : ℕ) (v : State) →
        is_reached same_state due (line_trace answer cell.kind cell.delays inputs (suc m)) (suc m) v ≡ same_state v (due (state_by answer cell.kind cell.delays inputs (suc m)) (suc m))
    reached_line reaches m v =
        let f : ℕ → State = λ u. state_by answer cell.kind cell.delays inputs (suc u) in
        reaches f settled_line (suc m) (omega arith) v ∙ ap (λ k. same_state v (due (f k) (suc m))) (let same : suc m - 1 ≡ m = omega arith in same)

    pub storable_line : ((e : Evaluation) (t : ℕ) → IsTask e → PendingBefore (t + MAX_DELAY) e.state → PendingBefore (t + 1 + MAX_DELAY) (answer e t)) →
        (t : ℕ) → t < TIME_END → CanStore t (state_by answer cell.kind cell.delays inputs (suc t))
    storable_line near = storable answer cell.kind cell.delays inputs (fits cell waves fit) are pending near
