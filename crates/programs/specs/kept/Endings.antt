-- What a program said at its end, where it is known whether the device failed.
use Rattle.std.specs.Prelude.{◌≡◌, ℕ, Bool, false, List, Option}
use Rattle.std.specs.Io.{StartsWith}
use Rattle.std.specs.Io.KnownBytes.{Appends}
use Rattle.devices.specs.Traffic.{failures_after}
use Rattle.programs.specs.Endings.{Says}

-- The same where it is known whether the device failed.
pub record Prints (before after : Option (List ℕ)) (failures failures' : ℕ) (text : List ℕ) (stopped : Bool) : Type 0 where
  pub gone : List ℕ
  pub out : Appends before after gone
  pub beginning : StartsWith text gone
  pub failed : failures' ≡ failures_after failures stopped
  pub whole : stopped ≡ false → gone ≡ text

abbrev pub says : (before after : Option (List ℕ)) (failures failures' : ℕ) (text : List ℕ) (stopped : Bool) → Prints before after failures failures' text stopped
    → Says before after failures failures' text
says before after failures failures' text stopped p =
    record { gone = p.gone; out = p.out; beginning = p.beginning; stopped = stopped; failed = p.failed; whole = p.whole }
