-- The lines of a session's input (own).
use Rattle.std.specs.Prelude.{Bool, true, false, ℕ, ◌-◌, ◌==◌, if◌then◌else◌, List, [], ◌∷◌, ◌++◌, length, take, slice_index}

-- Below, a text is cut into its whole lines, without their line feeds, and the rest behind the last line feed.

-- a byte in front of whole lines and a rest: it belongs to the first line, or to the rest where no whole line follows
abbrev pub in_front : ℕ → List (List ℕ) → List ℕ → List (List ℕ) × List ℕ
in_front byte [] rest = ([], byte ∷ rest)
in_front byte (line ∷ lines) rest = ((byte ∷ line) ∷ lines, rest)

-- a byte in front of whole lines and a rest, where the test says whether it is a line feed: that ends an empty line
abbrev pub put_before : Bool → ℕ → List (List ℕ) → List ℕ → List (List ℕ) × List ℕ
put_before true byte lines rest = ([] ∷ lines, rest)
put_before false byte lines rest = in_front byte lines rest

abbrev pub cut : List ℕ → List (List ℕ) × List ℕ
cut [] = ([], [])
cut (byte ∷ bytes) = put_before (byte == 10) byte (cut bytes).0 (cut bytes).1

-- the lines that a line feed ended
abbrev pub whole_lines : List ℕ → List (List ℕ)
whole_lines text = (cut text).0

-- what stands behind the last line feed
abbrev pub unfinished : List ℕ → List ℕ
unfinished text = (cut text).1

-- the input's end ends a line too, if it is not empty
abbrev pub last_line : List ℕ → List (List ℕ)
last_line [] = []
last_line (byte ∷ bytes) = (byte ∷ bytes) ∷ []

abbrev pub lines : List ℕ → List (List ℕ)
lines text = whole_lines text ++ last_line (unfinished text)

-- a line without the one byte 13 at its very end
abbrev pub without_return : List ℕ → List ℕ
without_return line = if slice_index line (length line - 1) == 13 then take (length line - 1) line else line
