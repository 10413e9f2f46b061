-- How long a piece of white space and its opening are.
use Rattle.std.specs.Prelude.{ℕ, ◌<◌}
use Rattle.lexing.specs.declared.spaces.Opening.{Opening}
use Rattle.lexing.specs.declared.spaces.Opening.TheVariants as opens
use Rattle.lexing.specs.declared.spaces.White.{White}
use Rattle.lexing.specs.declared.spaces.White.TheVariants as piece

-- how many bytes an opening looks at
abbrev pub opening_length : Opening → ℕ
opening_length opens.Nothing = 0
opening_length opens.Space = 1
opening_length _ = 2

-- how many bytes the piece has
abbrev pub white_length : White → ℕ
white_length (piece.Takes n) = n
white_length _ = 0

-- a piece has at least one byte
abbrev pub IsSomeWhite : White → Type 0
IsSomeWhite (piece.Takes n) = 0 < n
IsSomeWhite _ = Unit {0}
