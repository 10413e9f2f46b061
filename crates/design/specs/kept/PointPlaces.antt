-- Where a stimulus point is among points in order of time, or belongs.
use Rattle.std.specs.Prelude.{◌≡◌, ◌<◌, ◌≤◌, ℕ, List, length, insert}
use Rattle.std.specs.Ordering.{nat_cmp}
use Rattle.std.specs.BTreeMap.{insert_entry}
use Rattle.std.specs.List.{slice_set}
use Rattle.fourstate.specs.declared.value.Value.{Value}

-- a point at t is at this place
pub record IsPlaceOf (points : List (ℕ × Value)) (t place : ℕ) : Type 0 where
  pub within : place < length points
  pub set : (v : Value) → slice_set points place (t, v) ≡ insert_entry nat_cmp points t v

-- no point is at t, and one belongs at this place
pub record IsPlaceFor (points : List (ℕ × Value)) (t place : ℕ) : Type 0 where
  pub within : place ≤ length points
  pub set : (v : Value) → insert points place (t, v) ≡ insert_entry nat_cmp points t v
