-- What a gate did in the run of an old design, beside which it is followed.
use Rattle.std.specs.Prelude.{◌≡◌, ◌≤◌, ◌||◌, ◌&&◌, Bool, true, false, not, ℕ, zero, suc, List, map, Option, Some, None}
use Rattle.fourstate.specs.declared.value.Value.{Value}
use Rattle.gatestep.specs.Step.{Evaluation, State, initial}
use Rattle.gateline.specs.declared.old_line.OldLine.{OldLine}
use Rattle.gateline.specs.kept.Waves.{inputs_by}
use Rattle.scratch.specs.Work.{same_values}
use Rattle.scratch.specs.declared.wiring.Input.{Input}
use Rattle.scratch.specs.kept.Cells.{CellRecord}
use Rattle.waveform.specs.Entries.{same_state}
use Rattle.waveform.specs.kept.Changes.{state_at, trace_below}

-- whether the old design has no such gate, its trace there, and the waves there, by the places of the nets in the new design
pub record OldRecord : Type 0 where
  pub is_other : Bool
  pub trace : List (ℕ × State)
  pub waves : List (List (ℕ × Value))

-- what a line of the code says of it
abbrev pub line_seen : OldLine → OldRecord
line_seen old = record { is_other = old.is_other; trace = old.trace.now; waves = map (λ wave. wave.now) old.waves.now }

-- if there is one
abbrev pub line_if : Option OldLine → Option OldRecord
line_if None = None
line_if (Some old) = Some (line_seen old)

-- its state before t, by its trace
abbrev pub state_till : List (ℕ × State) → ℕ → State
state_till entries zero = initial
state_till entries (suc t) = state_at entries t

-- the values that some inputs had there at t
abbrev pub old_inputs : OldRecord → List Input → ℕ → List Value
old_inputs old inputs t = inputs_by old.waves inputs t

-- beside it the task of a gate with these inputs is wanted, unless the old design has the gate and it had the same task there
abbrev pub wanted_beside : OldRecord → List Input → Evaluation → ℕ → Bool
wanted_beside old inputs task t =
    old.is_other || not (same_state (state_till old.trace t) task.state && same_values (old_inputs old inputs t) task.inputs)

-- where there is none each task is wanted
abbrev pub wanted_by : Option OldRecord → List Input → Evaluation → ℕ → Bool
wanted_by None inputs task t = true
wanted_by (Some old) inputs task t = wanted_beside old inputs task t

-- where the old design has the gate, its state there after t was the answer to its task
abbrev pub IsFollowedAt : (Evaluation → ℕ → State) → CellRecord → OldRecord → ℕ → Type 0
IsFollowedAt answer cell old t =
    old.is_other ≡ false
    → state_at old.trace t ≡ answer (record { kind = cell.kind; delays = cell.delays; state = state_till old.trace t; inputs = old_inputs old cell.inputs t }) t

-- this is what the gate of a cell did there up to and with the moment `last`
pub record IsOldLine (answer : Evaluation → ℕ → State) (cell : CellRecord) (last : ℕ) (old : OldRecord) : Type 0 where
  pub followed : (t : ℕ) → t ≤ last → IsFollowedAt answer cell old t
  pub whole : old.trace ≡ trace_below (state_at old.trace) (suc last)
