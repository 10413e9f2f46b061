-- The order of differences (own): by moments, and those of one moment by numbers.
use Rattle.std.specs.Prelude.{◌≡◌, ◌≤◌}
use Rattle.differences.specs.declared.room.Difference.{Difference}

-- one difference goes before another one, or is that one
pub record GoesFirst (a b : Difference) : Type 0 where
  pub moments : a.moment ≤ b.moment
  pub numbers : a.moment ≡ b.moment → a.number ≤ b.number
