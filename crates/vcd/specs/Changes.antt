-- The changes in a dump, moment by moment (IEEE 1364-2005, 18.2.2 and 18.2.3).
use Rattle.std.specs.Prelude.{ℕ, zero, suc, Bool, ◌==◌, ◌||◌, if◌then◌else◌, List, [], ◌∷◌, ◌++◌, codes, decimal}
use Rattle.std.specs.List.{enumerate_from, flat_map, list_any}
use Rattle.fourstate.specs.declared.value.Value.{Value}
use Rattle.fourstate.specs.Values.{symbol_of}
use Rattle.waveform.specs.Changes.{wave_at}
use Rattle.waveform.specs.Timelines.{moments}
use Rattle.vcd.specs.Codes.{code_of}

-- Below, a wave is the list of a net's changes, and the waves are those of the nets in order.

-- a wave changes at t
abbrev pub changes_at : List (ℕ × Value) → ℕ → Bool
changes_at wave t = list_any (λ change. change.0 == t) wave

-- a wave among them does
abbrev pub some_changes_at : List (List (ℕ × Value)) → ℕ → Bool
some_changes_at waves t = list_any (λ wave. changes_at wave t) waves

abbrev pub value_line : ℕ → Value → List ℕ
value_line n value = (symbol_of value ∷ []) ++ code_of n ++ codes "\n"

abbrev pub time_line : ℕ → List ℕ
time_line t = codes "#" ++ decimal t ++ codes "\n"

-- the value at t of net n, if it changes there
abbrev pub change_line : ℕ → List (ℕ × Value) → ℕ → List ℕ
change_line n wave t = if changes_at wave t then value_line n (wave_at wave t) else []

-- the value at t of each net that changes there, in the nets' order
abbrev pub change_lines : List (List (ℕ × Value)) → ℕ → List ℕ
change_lines waves t = flat_map (λ e. change_line e.0 e.1 t) (enumerate_from 0 waves)

-- the lines of a moment up to the last one: at 0 all values, for every wave has a change there; at a later moment the time
-- and the changes, where there is a change, and at the last moment the time in any case
abbrev pub moment_lines : List (List (ℕ × Value)) → ℕ → ℕ → List ℕ
moment_lines waves last zero = time_line 0 ++ codes "$dumpvars\n" ++ change_lines waves 0 ++ codes "$end\n"
moment_lines waves last (suc t) =
    if suc t == last || some_changes_at waves (suc t) then time_line (suc t) ++ change_lines waves (suc t) else []

-- the lines of the moments below n
abbrev pub lines_below : List (List (ℕ × Value)) → ℕ → ℕ → List ℕ
lines_below waves last n = flat_map (moment_lines waves last) (moments n)
