-- The next stimulus point of a net.
use Rattle.std.proofs.Common.{◌≡◌, ◌<◌, ◌≤◌, sym, true, ℕ, List, Option, Some, None, IfSome, IsSomeAnd}
use Rattle.fourstate.specs.declared.value.Value.{Value}
use Rattle.design.specs.kept.Lawful.{AreRising}
use Rattle.design.specs.Netlist.{has_point}
use Rattle.design.specs.kept.Netlist.{next_point}
use Rattle.scratch.proofs.Notes.{next_is_first, next_is_later, none_later}

-- it lies later
pub point_after : (points : List (ℕ × Value)) (t : ℕ) (o : Option ℕ) → o ≡ next_point points t → IfSome o (λ m. t < m)
point_after points t None is = tt
point_after points t (Some m) is = next_is_later points t m (sym is)

-- and no point lies between
pub point_first : (points : List (ℕ × Value)) (t : ℕ) (o : Option ℕ) → o ≡ next_point points t → AreRising points → (u : ℕ) → t < u → has_point points u ≡ true → IsSomeAnd o (λ m. m ≤ u)
point_first points t None is rising u low there = absurd (none_later points t u (sym is) low there)
point_first points t (Some m) is rising u low there = next_is_first points t rising m u (sym is) low there
