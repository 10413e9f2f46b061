-- Lists that have the same values.
use Rattle.std.specs.Prelude.{List, Contains}
use Rattle.fourstate.specs.declared.value.Value.{Value}

-- the same values are members of both lists, in whatever order and however often
abbrev pub AreSameSet : List Value → List Value → Type 0
AreSameSet values others = (v : Value) → (Contains values v → Contains others v) × (Contains others v → Contains values v)
