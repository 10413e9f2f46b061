-- One gate by itself: what its driver does and what is asked of it, where its inputs are a function of time.
use Rattle.std.specs.Prelude.{◌||◌, ◌&&◌, Bool, true, not, ℕ, zero, suc, nat_le, if◌then◌else◌, List, [], ◌∷◌, ◌++◌}
use Rattle.fourstate.specs.declared.delay_times.DelayTimes.{DelayTimes}
use Rattle.fourstate.specs.declared.gate.GateKind.{GateKind}
use Rattle.fourstate.specs.declared.value.Value.{Value}
use Rattle.gatestep.specs.Step.{Evaluation, State, initial}
use Rattle.scratch.specs.Work.{is_due, same_values}
use Rattle.waveform.specs.kept.Changes.{trace_below}

module _ (answer : Evaluation → ℕ → State) (kind : GateKind) (delays : DelayTimes) (inputs : ℕ → List Value) where
  -- its state before t
  abbrev pub state_by : ℕ → State
  state_by zero = initial
  state_by (suc t) = answer (record { kind = kind; delays = delays; state = state_by t; inputs = inputs t }) t

  -- what is evaluated of it at t, if it is
  abbrev pub task_by : ℕ → Evaluation
  task_by t = record { kind = kind; delays = delays; state = state_by t; inputs = inputs t }

  -- it is stirred at t: t is 0, or its inputs have other values than at the moment before, or its event is due
  abbrev pub is_stirred_by : ℕ → Bool
  is_stirred_by zero = true
  is_stirred_by (suc t) = not (same_values (inputs (suc t)) (inputs t)) || is_due (state_by (suc t)) (suc t)

  -- its trace at the moments below n
  abbrev pub line_trace : ℕ → List (ℕ × State)
  line_trace n = trace_below (λ t. state_by (suc t)) n

-- each task is wanted
abbrev pub always_wanted : Evaluation → ℕ → Bool
always_wanted task t = true

-- What is asked of it where some of its tasks are wanted: those of them at which it is stirred.
module _ (answer : Evaluation → ℕ → State) (kind : GateKind) (delays : DelayTimes) (inputs : ℕ → List Value) (wanted : Evaluation → ℕ → Bool) where
  abbrev pub is_asked_by : ℕ → Bool
  is_asked_by t = wanted (task_by answer kind delays inputs t) t && is_stirred_by answer kind delays inputs t

  -- its task at t, if it is asked then
  abbrev pub work_at : ℕ → List (Evaluation × ℕ)
  work_at t = if is_asked_by t then (task_by answer kind delays inputs t, t) ∷ [] else []

  -- its tasks at the moments from n on and below m, in order of time, each with its moment
  abbrev pub line_work_from : ℕ → ℕ → List (Evaluation × ℕ)
  line_work_from n zero = []
  line_work_from n (suc t) = if nat_le n t then line_work_from n t ++ work_at t else []
