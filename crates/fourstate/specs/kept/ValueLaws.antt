-- `same_value` decides equality, and so does it value by value.
use Rattle.std.specs.Bool.{Decides}
use Rattle.std.specs.Prelude.{◌≡◌, true, List, refl}
use Rattle.std.specs.Cmp.Lexicographic.{pointwise, pointwise_decides}
use Rattle.fourstate.specs.Values.{same_value}
use Rattle.fourstate.specs.declared.value.Value.{Value}
use Rattle.fourstate.specs.declared.value.Value.TheVariants.{Zero, One, Unknown, HighZ}

-- values that are the same are equal
pub is_same : (v w : Value) → same_value v w ≡ true → v ≡ w
is_same Zero Zero e = refl
is_same One One e = refl
is_same Unknown Unknown e = refl
is_same HighZ HighZ e = refl
is_same _ _ e = cc

-- a value is the same as itself
pub same_self : (v : Value) → same_value v v ≡ true
same_self Zero = refl
same_self One = refl
same_self Unknown = refl
same_self HighZ = refl

pub same_value_decides : (v w : Value) → Decides (same_value v w) (v ≡ w)
same_value_decides v w = (is_same v w, λ e. rw e (same_self w))

-- lists have the same values where they are equal
pub same_values_decides : (values others : List Value) → Decides (pointwise same_value values others) (values ≡ others)
same_values_decides = pointwise_decides same_value_decides
