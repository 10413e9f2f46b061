-- A window of a wave cut into parts of one length, and the line of each part in which something changes (own).
use Rattle.std.specs.Prelude.{Bool, true, false, ℕ, ◌+◌, ◌-◌, ◌*◌, ◌/◌, List, [], ◌∷◌}
use Rattle.std.specs.List.{flat_map, range_with_len}
use Rattle.fourstate.specs.declared.value.Value.{Value}
use Rattle.waveform.specs.Changes.{wave_at}
use Rattle.listing.specs.Lines.{part_line}
use Rattle.listing.specs.Windows.{changes_between}

-- the moment behind which the part of a number begins; the part before it ends with it
abbrev pub part_start : (from to parts number : ℕ) → ℕ
part_start from to parts number = from + number * (to - from) / parts

abbrev pub has_changes : List (ℕ × Value) → Bool
has_changes [] = false
has_changes (c ∷ cs) = true

-- the line of a part with the values at its beginning and its end and with its changes, if there are any
abbrev pub line_of_part : (first last : Value) → List (ℕ × Value) → List ℕ
line_of_part first last [] = []
line_of_part first last (c ∷ cs) = part_line c.0 first last (has_changes cs)

-- the line of the part from behind one moment up to and with another one
abbrev pub lines_between : List (ℕ × Value) → (start end : ℕ) → List ℕ
lines_between changes start end = line_of_part (wave_at changes start) (wave_at changes end) (changes_between changes start end)

-- the lines of the first parts, so many
abbrev pub first_parts : List (ℕ × Value) → (from to parts count : ℕ) → List ℕ
first_parts changes from to parts count =
    flat_map (λ number. lines_between changes (part_start from to parts number) (part_start from to parts (number + 1))) (range_with_len 0 count)

-- the lines of all parts
abbrev pub window_parts : List (ℕ × Value) → (from to parts : ℕ) → List ℕ
window_parts changes from to parts = first_parts changes from to parts parts
