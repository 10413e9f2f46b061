-- What a run leaves.
use Rattle.std.specs.Prelude.{ℕ, List, Option}
use Rattle.fourstate.specs.declared.value.Value.{Value}
use Rattle.gatestep.specs.Step.{State}

-- the wave of each net under the net's key, the trace of each gate's driver under the gate's, and the last moment of the run
pub record RunRecord : Type 0 where
  pub waves : List (Option (List (ℕ × Value)))
  pub traces : List (Option (List (ℕ × State)))
  pub horizon : ℕ
