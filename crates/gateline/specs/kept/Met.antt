-- When a gate does again what it did in the run of an old design.
use Rattle.std.specs.Prelude.{◌≡◌, false, ℕ, List, Option, Some}
use Rattle.gatestep.specs.Step.{State}
use Rattle.gateline.specs.declared.old_line.OldLine.{OldLine}
use Rattle.waveform.specs.kept.Changes.{state_at}

-- the old design has the gate, whose trace there is this one, and it had this state there after t
pub record HasMet (beside : Option OldLine) (t : ℕ) (state : State) (trace : List (ℕ × State)) : Type 0 where
  pub old : OldLine
  pub is : beside ≡ Some old
  pub there : old.is_other ≡ false
  pub same : old.trace.now ≡ trace
  pub stood : state_at trace t ≡ state
