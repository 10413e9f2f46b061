-- What the tokens of a text say to the grammar.
use Rattle.std.specs.Prelude.{ℕ, ◌+◌, ◌==◌, Bool, true, false, if◌then◌else◌, List, [], Option, Some, map, drop, slice_index}
use Rattle.std.specs.List.{find, fold}
use Rattle.std.specs.Option.{option_and_then}
use Rattle.lexing.specs.Constants.{constant_of}
use Rattle.lexing.specs.Directives.{timescale_of}
use Rattle.lexing.specs.Numbers as numbers
use Rattle.lexing.specs.Texts.{bytes_of, name_bytes}
use Rattle.lexing.specs.declared.token.Shape.{Shape}
use Rattle.lexing.specs.declared.token.Shape.TheVariants as shape
use Rattle.lexing.specs.declared.token.Token.{Token}
use Rattle.fourstate.specs.declared.unit.Magnitude.{Magnitude}
use Rattle.fourstate.specs.declared.unit.Magnitude.TheVariants as magnitude
use Rattle.fourstate.specs.declared.unit.Unit.{Unit as TimeScale}
use Rattle.fourstate.specs.declared.unit.Unit.TheVariants as unit
use Rattle.fourstate.specs.declared.unit.TimeUnit.{TimeUnit}
use Rattle.vtext.specs.declared.word.Word.{Word}
use Rattle.vtext.specs.declared.word.Word.TheVariants.{Number, Literal, Timescale, Refused, Broken, Stray}
use Rattle.vtext.specs.declared.word.Placed.{Placed}
use Rattle.vtext.specs.Keywords.{mark_of, name_word, plain_word}
use Rattle.vtext.specs.Names.{with_name}

-- Names.

-- the shape of a name or a word, or of an escaped name
abbrev pub is_named : Shape → Bool
is_named shape.Name = true
is_named shape.Escaped = true
is_named kind = false

-- the table with the name of one more token, if it has one
abbrev pub with_token : List ℕ → List (List ℕ) → Token → List (List ℕ)
with_token text names token = if is_named token.shape then with_name names (name_bytes text token) else names

-- the names of a text, in the order of their first appearance
abbrev pub names_of : List ℕ → List Token → List (List ℕ)
names_of text tokens = fold (with_token text) [] tokens

-- Time units.

abbrev pub magnitude_power : Magnitude → ℕ
magnitude_power magnitude.One = 0
magnitude_power magnitude.Ten = 1
magnitude_power magnitude.Hundred = 2

abbrev pub unit_power : TimeScale → ℕ
unit_power unit.Femtosecond = 0
unit_power unit.Picosecond = 3
unit_power unit.Nanosecond = 6
unit_power unit.Microsecond = 9
unit_power unit.Millisecond = 12
unit_power unit.Second = 15

-- the power of ten by which a unit is longer than a femtosecond; two units are the same where this is
abbrev pub power_of : TimeUnit → ℕ
power_of u = unit_power u.unit + magnitude_power u.magnitude

abbrev pub same_unit : TimeUnit → TimeUnit → Bool
same_unit a b = power_of a == power_of b

-- the unit of a directive
abbrev pub unit_at : List ℕ → Token → Option TimeUnit
unit_at text token = timescale_of (drop token.start text)

abbrev pub is_timescale : Shape → Bool
is_timescale shape.Timescale = true
is_timescale kind = false

-- the unit of the first directive of a text
abbrev pub first_unit : List ℕ → List Token → Option TimeUnit
first_unit text tokens = option_and_then (unit_at text) (find (λ (token : Token). is_timescale token.shape) tokens)

-- a directive whose unit is that of the first one; another unit is refused (own)
abbrev pub directive_word : Option TimeUnit → Option TimeUnit → Word
directive_word (Some first) (Some this) = if same_unit first this then Timescale this else Refused
directive_word first this = Refused

-- Words.

-- what a token says, by its shape
abbrev pub word_by : Shape → List (List ℕ) → Option TimeUnit → List ℕ → Token → Word
word_by shape.Name names first text token = plain_word names (name_bytes text token)
word_by shape.Escaped names first text token = name_word names (name_bytes text token)
word_by shape.Number names first text token = Number (numbers.number_of (bytes_of text token))
word_by shape.Constant names first text token = Literal (constant_of (bytes_of text token))
word_by shape.Timescale names first text token = directive_word first (unit_at text token)
word_by shape.Other names first text token = mark_of (slice_index (bytes_of text token) 0)
word_by shape.Unending names first text token = Broken
word_by shape.Stray names first text token = Stray

abbrev pub word_of : List (List ℕ) → Option TimeUnit → List ℕ → Token → Placed
word_of names first text token = record { word = word_by token.shape names first text token; start = token.start }

-- what the tokens of a text say, each at its place
abbrev pub words_of : List ℕ → List Token → List Placed
words_of text tokens = map (word_of (names_of text tokens) (first_unit text tokens) text) tokens
