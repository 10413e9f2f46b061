-- The inputs of a gate, a word at a time.
use Rattle.std.proofs.Common.{◌≡◌, ℕ, List, [], ◌∷◌, ◌++◌, true, Option, Some, None, refl, sym, ap, ◌∙◌, append_assoc}
use Rattle.std.specs.Prelude.{option_map, is_some, unwrap_or}
use Rattle.edits.specs.declared.pin.Pin.{Pin}
use Rattle.session.specs.Pins.{pin_of, pins_of, with_pin}
use Rattle.session.specs.kept.Pins.{ArePins}

-- an unreadable word spoils all
pub pins_fail : (words rest : List (List ℕ)) (word : List ℕ) → words ≡ word ∷ rest → pin_of word ≡ None → pins_of words ≡ None
pins_fail words rest word e none = ap pins_of e ∙ ap (λ p. with_pin p (pins_of rest)) none

pins_fit : (pin : Option Pin) (rest : Option (List Pin)) → is_some pin ≡ true → is_some rest ≡ is_some (with_pin pin rest)
pins_fit (Some pin) (Some rest) e = refl
pins_fit (Some pin) None e = refl
pins_fit None (Some rest) e = sym e
pins_fit None None e = refl

-- behind a readable word all depends on the others
pub pins_left : (words rest : List (List ℕ)) (word : List ℕ) → words ≡ word ∷ rest → is_some (pin_of word) ≡ true → is_some (pins_of rest) ≡ is_some (pins_of words)
pins_left words rest word e fits = pins_fit (pin_of word) (pins_of rest) fits ∙ ap (λ ws. is_some (pins_of ws)) (sym e)

behind : (pins : List Pin) (pin : Pin) (rest : Option (List Pin)) → option_map (λ more. (pins ++ pin ∷ []) ++ more) rest ≡ option_map (λ more. pins ++ more) (with_pin (Some pin) rest)
behind pins pin (Some rest) = ap Some (append_assoc pins (pin ∷ []) rest)
behind pins pin None = refl

-- a pin more, and a word less
pub pins_more : (words rest : List (List ℕ)) (word : List ℕ) (pins : List Pin) (pin : Pin) → words ≡ word ∷ rest → pin_of word ≡ Some pin
    → option_map (λ more. (pins ++ pin ∷ []) ++ more) (pins_of rest) ≡ option_map (λ more. pins ++ more) (pins_of words)
pins_more words rest word pins pin e is =
    behind pins pin (pins_of rest) ∙ ap (λ p. option_map (λ more. pins ++ more) (with_pin p (pins_of rest))) (sym is)
    ∙ ap (λ ws. option_map (λ more. pins ++ more) (pins_of ws)) (sym e)

first_of : (pin : Option Pin) (rest : Option (List Pin)) → is_some (with_pin pin rest) ≡ true → (is_some pin ≡ true) × (is_some rest ≡ true)
first_of (Some pin) (Some rest) e = (refl, refl)
first_of (Some pin) None e = (refl, e)
first_of None rest e = (e, absurd (cc))

-- where all words are readable, so is the first
pub first_fits : (words rest : List (List ℕ)) (word : List ℕ) → words ≡ word ∷ rest → ArePins words → is_some (pin_of word) ≡ true
first_fits words rest word e all = (first_of (pin_of word) (pins_of rest) (ap (λ ws. is_some (pins_of ws)) (sym e) ∙ all)).0

-- and so are the others
pub others_fit : (words rest : List (List ℕ)) (word : List ℕ) → words ≡ word ∷ rest → ArePins words → ArePins rest
others_fit words rest word e all = (first_of (pin_of word) (pins_of rest) (ap (λ ws. is_some (pins_of ws)) (sym e) ∙ all)).1

kept_by : (pins : Option (List Pin)) → is_some pins ≡ true → Some (unwrap_or pins []) ≡ pins
kept_by (Some pins) e = refl
kept_by None e = cc

-- what words write, where all are readable
pub pins_kept : (words : List (List ℕ)) → ArePins words → Some (unwrap_or (pins_of words) []) ≡ pins_of words
pins_kept words all = kept_by (pins_of words) all
