-- What one write of bytes to a device does.
use Rattle.std.specs.Prelude.{◌≡◌, ℕ, ◌≤◌, nat_lt, List, length, take}
use Rattle.std.specs.Io.KnownBytes.{Appends}
use Rattle.devices.specs.Traffic.{SinkState, failures_after}

-- Exactly the first n bytes went out. These are all, or the device failed once.
pub record Sends (old new : SinkState) (bytes : List ℕ) (n : ℕ) : Type 0 where
  pub within : n ≤ length bytes
  pub out : Appends old.contents new.contents (take n bytes)
  pub failed : new.failures ≡ failures_after old.failures (nat_lt n (length bytes))
