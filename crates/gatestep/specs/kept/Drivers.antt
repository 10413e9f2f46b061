-- How the state of a driver is kept in 16 bytes: the two values, and the moment at which the next one becomes current.
use Rattle.std.specs.Prelude.{◌≡◌, ◌≢◌, ℕ, Option, Some, None, refl}
use Rattle.std.specs.Option.{ForSome, ForNone, option_map, option_map_or}
use Rattle.fourstate.specs.declared.value.Value.{Value}
use Rattle.gatestep.specs.Step.{State}
use Rattle.gatestep.specs.declared.driver.Driver.TheInside.{Inside}

-- the state that a driver keeps
abbrev pub state_of : Inside → State
state_of a = record { current = a.current; pending = option_map (λ v. (v, a.time)) a.next }

-- the next value is another than the current one; with none the time is 0
pub record IsDriver (a : Inside) : Type 0 where
  pub other : ForSome a.next (λ v. v ≢ a.current)
  pub unused : ForNone a.next (a.time ≡ 0)

-- the fields that keep a state
abbrev pub fields_of : State → Inside
fields_of s =
    record {
      time = option_map_or (λ event. event.1) s.pending 0;
      current = s.current;
      next = option_map (λ event. event.0) s.pending;
    }

restored : (time : ℕ) (current : Value) (next : Option Value) → ForNone next (time ≡ 0) →
    fields_of (state_of (record { time = time; current = current; next = next })) ≡ record { time = time; current = current; next = next }
restored time current None unused = let none : time ≡ 0 = unused refl in cc
restored time current (Some v) unused = refl

-- the fields are those that keep what they show
pub fields_of-kept : (a : Inside) → IsDriver a → fields_of (state_of a) ≡ a
fields_of-kept a is = restored a.time a.current a.next is.unused
