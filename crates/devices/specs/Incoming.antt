-- A text on its way in from a device.
use Rattle.std.specs.Prelude.{◌≡◌, ℕ, List, Option, None, Some}

-- all that the device had to give, where that is known
abbrev pub IsAllOf : Option (List ℕ) → List ℕ → Type 0
IsAllOf None text = Unit {0}
IsAllOf (Some bytes) text = text ≡ bytes
