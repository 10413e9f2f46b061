-- From where on a gate is followed.
use Rattle.std.specs.Prelude.{ℕ, suc, Option, Some, None}
use Rattle.gateline.specs.declared.walk.Former.{Former}

-- the first moment that is gone through: the one after those that are done, or 0
abbrev pub begin_of : Option Former → ℕ
begin_of None = 0
begin_of (Some former) = suc former.done
