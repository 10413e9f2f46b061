-- What is kept of a value and of a driver's state.
use Rattle.std.specs.Prelude.{ℕ}
use Rattle.fourstate.specs.declared.value.Value.{Value}
pub use Rattle.gatestep.specs.Step.{same_pending, same_state}

-- a value stands while time goes on
abbrev pub standing : Value → ℕ → Value
standing v t = v
