-- White space: blanks, comments and attributes (IEEE 1364-2005, 3.2, 3.3, 3.8). That attributes are skipped is own.
use Rattle.std.specs.Prelude.{ℕ, zero, suc, ◌+◌, ◌-◌, ◌==◌, ◌&&◌, if◌then◌else◌, List, [], ◌∷◌, Option, None, Some, drop}
use Rattle.std.specs.List.{position_or_len}
use Rattle.memchr.specs.Find.{matches, first_of}
use Rattle.lexing.specs.Classes.{is_space}
use Rattle.lexing.specs.declared.spaces.Opening.{Opening}
use Rattle.lexing.specs.declared.spaces.Opening.TheVariants as opens
use Rattle.lexing.specs.declared.spaces.White.{White}
use Rattle.lexing.specs.declared.spaces.White.TheVariants as piece

-- `//`, `/*` and `(*` open a comment of a line, a comment and an attribute
abbrev pub pair_opening : ℕ → ℕ → Opening
pair_opening a b =
    if a == 47 && b == 47 then opens.Line
    else (if a == 47 && b == 42 then opens.Block
    else (if a == 40 && b == 42 then opens.Attribute else opens.Nothing))

abbrev pub second_opening : ℕ → List ℕ → Opening
second_opening a [] = opens.Nothing
second_opening a (b ∷ bs) = pair_opening a b

-- what the bytes begin with, by the first two
unfoldable pub opening_of : List ℕ → Opening
opening_of [] = opens.Nothing
opening_of (b ∷ bs) = if is_space b then opens.Space else second_opening b bs

-- the bytes before the first line feed, or up to the end
abbrev pub line_length : List ℕ → ℕ
line_length bytes = position_or_len (λ b. b == 10) bytes

-- two bytes that open, what follows them up to a place, and two bytes that close
abbrev pub enclosed_up_to : Option ℕ → White
enclosed_up_to None = piece.Unending
enclosed_up_to (Some place) = piece.Takes (place + 4)

-- the same up to the first place, behind the two that open, where `closing` stands
abbrev pub enclosed : List ℕ → List ℕ → White
enclosed bytes closing = enclosed_up_to (first_of (matches bytes closing 0))

-- the white space of an opening, by the bytes behind its first two; a line feed is no part of its comment
abbrev pub opened : Opening → List ℕ → White
opened opens.Nothing bytes = piece.Nothing
opened opens.Space bytes = piece.Takes 1
opened opens.Line bytes = piece.Takes (2 + line_length bytes)
opened opens.Block bytes = enclosed bytes (42 ∷ 47 ∷ [])
opened opens.Attribute bytes = enclosed bytes (42 ∷ 41 ∷ [])

-- the piece of white space in front of the bytes
unfoldable pub white_space : List ℕ → White
white_space bytes = opened (opening_of bytes) (drop 2 bytes)

-- what follows all white space in front of the bytes, where as many bytes are known to be white space
unfoldable pub behind : ℕ → List ℕ → List ℕ
behind known [] = []
behind (suc known) (b ∷ bs) = behind known bs
behind zero (b ∷ bs) = elim (white_space (b ∷ bs)) [ piece.Nothing ↦ b ∷ bs | piece.Takes n ↦ behind (n - 1) bs | piece.Unending ↦ b ∷ bs ]

-- what follows all white space in front of the bytes; a comment or an attribute that doesn't end is none
abbrev pub behind_white : List ℕ → List ℕ
behind_white bytes = behind 0 bytes
