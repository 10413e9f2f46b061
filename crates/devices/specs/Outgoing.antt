-- A text on its way out to a device.
use Rattle.std.specs.Prelude.{◌≡◌, ℕ, ◌++◌, Bool, List, Option}

-- which reference leads to the device, what it had and how often it had failed before, the text so far, what of it went out, and whether the device failed since
pub record Outgoing : Type 0 where
  pub loan : ℕ
  pub before : Option (List ℕ)
  pub failures_before : ℕ
  pub text : List ℕ
  pub gone : List ℕ
  pub stopped : Bool

-- the text grows by these bytes, and some of it may go out
abbrev pub Adds : Outgoing → Outgoing → List ℕ → Type 0
Adds old new bytes = new ≡ record old { text = old.text ++ bytes; gone = new.gone; stopped = new.stopped }
