-- The inputs of gates as a list of words.
use Rattle.std.specs.Prelude.{◌≡◌, ℕ, true, List, is_some}
use Rattle.session.specs.Pins.{pins_of}

-- each word is a readable input
abbrev pub ArePins : List (List ℕ) → Type 0
ArePins words = is_some (pins_of words) ≡ true
