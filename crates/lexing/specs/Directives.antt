-- The directive `timescale (IEEE 1364-2005, 19.8), with white space between its parts, and some behind its word.
use Rattle.std.specs.Prelude.{ℕ, Bool, false, ◌==◌, ◌&&◌, if◌then◌else◌, List, [], ◌∷◌, Option, None, Some, length, drop, codes, nat_lt, nat_eq}
use Rattle.std.specs.Option.{option_map}
use Rattle.std.specs.List.{starts_with}
use Rattle.lexing.specs.Spaces.{behind_white}
use Rattle.fourstate.specs.declared.unit.Magnitude.{Magnitude}
use Rattle.fourstate.specs.declared.unit.Magnitude.TheVariants.{One, Ten, Hundred}
use Rattle.fourstate.specs.declared.unit.TimeUnit.{TimeUnit}
use Rattle.fourstate.specs.declared.unit.Unit.TheVariants.{Second, Millisecond, Microsecond, Nanosecond, Picosecond, Femtosecond}
use Rattle.fourstate.specs.declared.unit.Unit.{Unit}

-- whether the bytes begin with these
abbrev pub begins_with : List ℕ → List ℕ → Bool
begins_with front bytes = starts_with nat_eq bytes front

-- what stands in front is read: its meaning, and the bytes behind it
abbrev pub Reading : Type 0 → Type 0
Reading A = Option (A × List ℕ)

-- what is read of the bytes behind another reading
abbrev pub then_read : {A B : Type 0} → Reading A → (A → List ℕ → Reading B) → Reading B
then_read None next = None
then_read (Some part) next = next part.0 part.1

-- the first of these words that stands in front of the bytes
abbrev pub word_of : {A : Type 0} → List (List ℕ × A) → List ℕ → Reading A
word_of [] bytes = None
word_of (word ∷ words) bytes = if begins_with word.0 bytes then Some (word.1, drop (length word.0) bytes) else word_of words bytes

abbrev pub magnitudes : List (List ℕ × Magnitude)
magnitudes = (codes "100", Hundred) ∷ (codes "10", Ten) ∷ (codes "1", One) ∷ []

abbrev pub units : List (List ℕ × Unit)
units =
    (codes "s", Second) ∷ (codes "ms", Millisecond) ∷ (codes "us", Microsecond) ∷ (codes "ns", Nanosecond) ∷ (codes "ps", Picosecond)
    ∷ (codes "fs", Femtosecond) ∷ []

unfoldable pub magnitude : List ℕ → Reading Magnitude
magnitude bytes = word_of magnitudes bytes

unfoldable pub unit : List ℕ → Reading Unit
unit bytes = word_of units bytes

-- a magnitude and a unit, white space before each where there is some
unfoldable pub literal : List ℕ → Reading TimeUnit
literal bytes =
    then_read (magnitude (behind_white bytes)) (λ magnitude rest.
    then_read (unit (behind_white rest)) (λ unit rest.
    Some (record { magnitude = magnitude; unit = unit }, rest)))

-- a slash and a literal, white space before each where there is some
unfoldable pub precision : List ℕ → Reading TimeUnit
precision bytes = if begins_with (codes "/") (behind_white bytes) then literal (drop 1 (behind_white bytes)) else None

-- a literal, a slash and a literal: the meaning is that of the first
unfoldable pub literals : List ℕ → Reading TimeUnit
literals bytes =
    then_read (literal bytes) (λ unit rest.
    then_read (precision rest) (λ precision rest. Some (unit, rest)))

-- the whole directive
unfoldable pub directive : List ℕ → Reading TimeUnit
directive bytes =
    if begins_with (codes "`timescale") bytes && nat_lt (length (behind_white (drop 10 bytes))) (length (drop 10 bytes))
    then literals (drop 10 bytes) else None

-- all bytes were read
abbrev pub is_whole : {A : Type 0} → Reading A → Bool
is_whole None = false
is_whole (Some part) = length part.1 == 0

-- the time unit of a directive: its first literal
abbrev pub timescale_of : List ℕ → Option TimeUnit
timescale_of bytes = option_map (λ part. part.0) (directive bytes)
