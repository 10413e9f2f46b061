-- What a writer keeps of the text that its device takes, and what one call makes of it.
use Rattle.std.specs.Prelude.{◌≡◌, ℕ, ◌-◌, ◌^◌, ◌++◌, true, List, length, min, MatchBool}
use Rattle.std.specs.Io.{StartsWith}
use Rattle.std.specs.Io.KnownBytes.{Appends}
use Rattle.devices.specs.Traffic.{SinkState, failures_after}
use Rattle.devices.specs.Outgoing.{Outgoing}

-- the text stays, and some of it may go out
abbrev pub MovesOn : Outgoing → Outgoing → Type 0
MovesOn old new = new ≡ record old { gone = new.gone; stopped = new.stopped }

-- once the device failed, nothing more goes out
abbrev pub StaysStopped : Outgoing → Outgoing → Type 0
StaysStopped old new = old.stopped ≡ true → (new.stopped ≡ true) × (new.gone ≡ old.gone)

-- the number of bytes, which stops at the greatest `u64`
abbrev pub byte_count : List ℕ → ℕ
byte_count bytes = min (length bytes) (2 ^ 64 - 1)

-- The sink holds what went out behind what it had. It failed once, and that is a beginning of the text, or the rest of the text waits.
pub record IsGoingOut (w : Outgoing) (now : SinkState) (waiting : List ℕ) (sent : ℕ) : Type 0 where
  pub out : Appends w.before now.contents w.gone
  pub failed : now.failures ≡ failures_after w.failures_before w.stopped
  pub waits : MatchBool w.stopped (StartsWith w.text w.gone) (w.text ≡ w.gone ++ waiting)
  pub counted : sent ≡ byte_count w.gone
