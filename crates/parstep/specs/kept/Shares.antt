-- Threads may share what a reference to a value of this type shows: `IsSync`, without the type's layout.
use Rattle.std.specs.Prelude.{ℕ}
use denote.RattleType.{RattleType}
use denote.Param.Send.{Common}

abbrev pub Shares : RattleType → Type 0
Shares R = (x : R.Denot) (b o : ℕ) → Common (R.shr_at x b o)
