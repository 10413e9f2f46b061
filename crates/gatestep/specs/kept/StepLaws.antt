-- The rule of events meets the laws of a stepper's answer.
use Rattle.std.specs.Prelude.{◌≡◌, ◌<◌, ◌+◌, ℕ, Bool, true, false, Option, Some, None, refl}
use Rattle.std.specs.Option.{ForSome}
use Rattle.std.proofs.Common.{arith}
use Rattle.std.proofs.lemmas.Grind.{common_steps}
use Rattle.fourstate.specs.declared.limits.TheConstants.{MAX_DELAY}
use Rattle.fourstate.specs.declared.value.Value.{Value}
use Rattle.fourstate.specs.Values.{same_value}
use Rattle.fourstate.specs.kept.ValueLaws.{same_self}
use Rattle.fourstate.specs.Delays.{delay_to}
use Rattle.fourstate.specs.kept.Delays.{AreDelays, IsDelay}
use Rattle.fourstate.specs.kept.DelayLaws.{delay_in_range}
use Rattle.fourstate.specs.declared.delay_times.DelayTimes.{DelayTimes}
use Rattle.fourstate.specs.Gates.{gate_of}
use Rattle.gatestep.specs.Step.{State, Evaluation, is_pending, due_of, due, rescheduled, advance}
use Rattle.gatestep.specs.kept.Tasks.{IsTask, NothingDue, PendingBefore, again}

-- what an evaluation leaves current is what is current once a due event has become so
pub advance_current : (e : Evaluation) (t : ℕ) → (advance e t).current ≡ (due e.state t).current
advance_current e t = refl

due_later : (c : Value) (pending : Option (Value × ℕ)) (t : ℕ) → NothingDue t (due_of c pending t)
due_later c None t = λ x h. grind (arith, common_steps)
due_later c (Some event) t = λ x h. grind (arith, common_steps)

rescheduled_later : (delays : DelayTimes) → AreDelays delays → (s : State) (v : Value) (t : ℕ) → NothingDue t s →
    (kept same : Bool) → is_pending v s.pending ≡ kept → same_value v s.current ≡ same → ForSome (rescheduled delays s v t) (λ event. t < event.1)
rescheduled_later delays are s v t later true same k e = λ x h. later x (grind (arith, common_steps))
rescheduled_later delays are s v t later false true k e = λ x h. grind (arith, common_steps)
rescheduled_later delays are s v t later false false k e =
    let positive : IsDelay (delay_to delays v) = delay_in_range delays are v in λ x h. grind (arith, common_steps)

-- what an evaluation leaves pending is for a later moment
pub advance_later : (e : Evaluation) (t : ℕ) → IsTask e → NothingDue t (advance e t)
advance_later e t task =
    let s : State = due e.state t in
    let v : Value = gate_of e.kind e.inputs in
    rescheduled_later e.delays task.delays_in_range s v t (due_later e.state.current e.state.pending t) (is_pending v s.pending) (same_value v s.current) refl refl

due_near : (c : Value) (pending : Option (Value × ℕ)) (t u : ℕ) → ForSome pending (λ event. event.1 < u) → PendingBefore u (due_of c pending t)
due_near c None t u near = λ x h. grind (arith, common_steps)
due_near c (Some event) t u near = λ x h. grind (arith, common_steps)

rescheduled_near : (delays : DelayTimes) → AreDelays delays → (s : State) (v : Value) (t : ℕ) → PendingBefore (t + MAX_DELAY) s →
    (kept same : Bool) → is_pending v s.pending ≡ kept → same_value v s.current ≡ same → ForSome (rescheduled delays s v t) (λ event. event.1 < t + 1 + MAX_DELAY)
rescheduled_near delays are s v t near true same k e = λ x h. let before = near x (grind (arith, common_steps)) in omega arith
rescheduled_near delays are s v t near false true k e = λ x h. grind (arith, common_steps)
rescheduled_near delays are s v t near false false k e =
    let most : IsDelay (delay_to delays v) = delay_in_range delays are v in λ x h. grind (arith, common_steps)

-- what an evaluation leaves pending is for a moment within the greatest delay
pub advance_near : (e : Evaluation) (t : ℕ) → IsTask e → PendingBefore (t + MAX_DELAY) e.state → PendingBefore (t + 1 + MAX_DELAY) (advance e t)
advance_near e t task near =
    let s : State = due e.state t in
    let v : Value = gate_of e.kind e.inputs in
    rescheduled_near e.delays task.delays_in_range s v t (due_near e.state.current e.state.pending t (t + MAX_DELAY) near) (is_pending v s.pending) (same_value v s.current) refl refl

-- a state in which nothing is due at u or before is as it stands at u
pub not_due : (s : State) (pending : Option (Value × ℕ)) (u : ℕ) → pending ≡ s.pending → NothingDue u s → due_of s.current pending u ≡ s
not_due s None u same later = grind (arith, common_steps)
not_due s (Some event) u same later = grind (arith, common_steps)

rescheduled_again : (delays : DelayTimes) (s : State) (v : Value) (t u : ℕ) (kept same : Bool) → is_pending v s.pending ≡ kept → same_value v s.current ≡ same →
    rescheduled delays (record { current = s.current; pending = rescheduled delays s v t }) v u ≡ rescheduled delays s v t
rescheduled_again delays s v t u true same k e = grind (arith, common_steps)
rescheduled_again delays s v t u false true k e = grind (arith, common_steps)
rescheduled_again delays s v t u false false k e = grind (arith, common_steps, same_self v)

-- an answer that is asked again with the same inputs, while nothing in it is due, stays
pub advance_stays : (e : Evaluation) (t u : ℕ) → t < u → NothingDue u (advance e t) → advance (again e (advance e t)) u ≡ advance e t
advance_stays e t u before later =
    let s : State = due e.state t in
    let v : Value = gate_of e.kind e.inputs in
    let still : due (advance e t) u ≡ advance e t = not_due (advance e t) (advance e t).pending u refl later in
    rw (still, rescheduled_again e.delays s v t u (is_pending v s.pending) (same_value v s.current) refl refl) refl
