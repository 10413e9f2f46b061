-- How the delays of a gate are kept in 12 bytes: a turn-off delay of 0 says that none is given.
use Rattle.std.specs.Prelude.{◌≡◌, ℕ, zero, suc, Option, Some, None, refl, unwrap_or}
use Rattle.fourstate.specs.declared.delay_times.DelayTimes.{DelayTimes}
use Rattle.fourstate.specs.declared.delays.Delays.TheInside.{Inside}

-- the turn-off delay that a number keeps
abbrev pub off_of : ℕ → Option ℕ
off_of zero = None
off_of (suc n) = Some (suc n)

-- the times that are kept
abbrev pub times_of : Inside → DelayTimes
times_of a = record { rise = a.rise; fall = a.fall; off = off_of a.off }

-- the fields that keep times
abbrev pub fields_of : DelayTimes → Inside
fields_of times = record { rise = times.rise; fall = times.fall; off = unwrap_or times.off 0 }

off_kept : (number : ℕ) → unwrap_or (off_of number) 0 ≡ number
off_kept zero = refl
off_kept (suc n) = refl

-- the fields are those that keep what they show
pub fields_of-kept : (a : Inside) → fields_of (times_of a) ≡ a
fields_of-kept a = λ i. record { rise = a.rise; fall = a.fall; off = off_kept a.off i }
