-- One gate at one moment: its driver's state, and how an evaluation changes it (IEEE 1364-2005, 6.1.3 and 11; the rule
-- for a pending event, and that due events come first, are this project's).
use Rattle.std.specs.Prelude.{Bool, true, false, ℕ, ◌+◌, ◌==◌, ◌&&◌, nat_le, if◌then◌else◌, List, Option, Some, None}
use Rattle.fourstate.specs.declared.value.Value.{Value}
use Rattle.fourstate.specs.declared.value.Value.TheVariants.{Unknown}
use Rattle.fourstate.specs.declared.gate.GateKind.{GateKind}
use Rattle.fourstate.specs.Values.{same_value}
use Rattle.fourstate.specs.Delays.{delay_to}
use Rattle.fourstate.specs.declared.delay_times.DelayTimes.{DelayTimes}
use Rattle.fourstate.specs.Gates.{gate_of}

-- the value that a gate drives, and the event that it has pending: a value and the moment at which it becomes current
pub record State : Type 0 where
  pub current : Value
  pub pending : Option (Value × ℕ)

-- before moment 0
abbrev pub initial : State
initial = record { current = Unknown; pending = None }

-- an event of this value is pending
abbrev pub is_pending : Value → Option (Value × ℕ) → Bool
is_pending v None = false
is_pending v (Some event) = same_value v event.0

-- two pending events are the same, of value and time
abbrev pub same_pending : Option (Value × ℕ) → Option (Value × ℕ) → Bool
same_pending None None = true
same_pending (Some d) (Some e) = same_value d.0 e.0 && d.1 == e.1
same_pending _ _ = false

-- two states are the same
abbrev pub same_state : State → State → Bool
same_state s r = same_value s.current r.current && same_pending s.pending r.pending

-- the state of this current value and pending event, once the event is current if it is due at t or before
abbrev pub due_of : Value → Option (Value × ℕ) → ℕ → State
due_of c None t = record { current = c; pending = None }
due_of c (Some event) t =
    if nat_le event.1 t then record { current = event.0; pending = None } else record { current = c; pending = Some event }

-- the state once an event that is due at t or before is current
abbrev pub due : State → ℕ → State
due s t = due_of s.current s.pending t

-- what is pending once the gate gives v at t: an event with the same value keeps its time; else nothing where v is the
-- current value; else v after its delay. Any other event is descheduled.
abbrev pub rescheduled : DelayTimes → State → Value → ℕ → Option (Value × ℕ)
rescheduled delays s v t =
    if is_pending v s.pending then s.pending else (if same_value v s.current then None else Some (v, t + delay_to delays v))

-- what an evaluation reads: the gate's kind and delays, its state before the moment, and its inputs at the moment
pub record Evaluation : Type 0 where
  pub kind : GateKind
  pub delays : DelayTimes
  pub state : State
  pub inputs : List Value

-- the gate's state after the moment t: first a due event becomes current, then the gate is evaluated
abbrev pub advance : Evaluation → ℕ → State
advance e t =
    record { current = (due e.state t).current; pending = rescheduled e.delays (due e.state t) (gate_of e.kind e.inputs) t }
