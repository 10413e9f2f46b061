-- The inputs of gates, as words write them (own).
use Rattle.std.specs.Prelude.{◌==◌, ℕ, if◌then◌else◌, List, [], ◌∷◌, take, drop, Option, None, Some, option_map, codes}
use Rattle.std.specs.List.{list_any}
use Rattle.fourstate.specs.declared.value.Value.{Value}
use Rattle.edits.specs.declared.pin.Pin.{Pin}
use Rattle.edits.specs.declared.pin.Pin.TheVariants.{Net, Constant}
use Rattle.session.specs.Words.{same_word, value_of}

-- the value of a constant as it is written: 1'b and the value
abbrev pub constant_of : List ℕ → Option Value
constant_of word = if same_word (take 3 word) (codes "1'b") then value_of (drop 3 word) else None

-- a word with an apostrophe is a constant or unreadable; any other word names a net
abbrev pub pin_of : List ℕ → Option Pin
pin_of word = if list_any (λ byte. byte == 39) word then option_map (λ v. Constant v) (constant_of word) else Some (Net word)

-- all pins, if all are readable
abbrev pub with_pin : Option Pin → Option (List Pin) → Option (List Pin)
with_pin (Some pin) (Some pins) = Some (pin ∷ pins)
with_pin (Some pin) None = None
with_pin None pins = None

abbrev pub pins_of : List (List ℕ) → Option (List Pin)
pins_of [] = Some []
pins_of (word ∷ ws) = with_pin (pin_of word) (pins_of ws)
