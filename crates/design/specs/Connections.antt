-- What the inputs of gates are connected to, by name (IEEE 1364-2005, 7.1.6).
use Rattle.std.specs.Prelude.{ℕ, List}
use Rattle.fourstate.specs.declared.value.Value.{Value}

-- the net of a name, or a value that never changes
pub data Connection : Type 0 where
  to_net : List ℕ → Connection
  to_constant : Value → Connection
