-- The head of a dump (IEEE 1364-2005, 18.2.3).
use Rattle.std.specs.Prelude.{ℕ, suc, List, [], ◌∷◌, ◌++◌, codes}
use Rattle.fourstate.specs.declared.unit.Magnitude.{Magnitude}
use Rattle.fourstate.specs.declared.unit.Magnitude.TheVariants.{One, Ten, Hundred}
use Rattle.fourstate.specs.declared.unit.Unit.{Unit}
use Rattle.fourstate.specs.declared.unit.Unit.TheVariants.{Second, Millisecond, Microsecond, Nanosecond, Picosecond, Femtosecond}
use Rattle.fourstate.specs.declared.unit.TimeUnit.{TimeUnit}
use Rattle.fourstate.specs.Keywords.{net_keyword}
use Rattle.design.specs.Netlist.{NetEntry, Netlist}
use Rattle.vcd.specs.Codes.{code_of}
use Rattle.vcd.specs.Scopes.{scopes_of, reference_of, open_line, close_line, close_lines, scope_lines}

abbrev pub magnitude_text : Magnitude → List ℕ
magnitude_text One = codes "1"
magnitude_text Ten = codes "10"
magnitude_text Hundred = codes "100"

abbrev pub unit_text : Unit → List ℕ
unit_text Second = codes "s"
unit_text Millisecond = codes "ms"
unit_text Microsecond = codes "us"
unit_text Nanosecond = codes "ns"
unit_text Picosecond = codes "ps"
unit_text Femtosecond = codes "fs"

abbrev pub timescale_line : TimeUnit → List ℕ
timescale_line unit = codes "$timescale " ++ magnitude_text unit.magnitude ++ codes " " ++ unit_text unit.unit ++ codes " $end\n"

-- net n is a variable of one bit, with its kind, its code and its name within its scopes
abbrev pub var_line : ℕ → NetEntry → List ℕ
var_line n net =
    codes "$var " ++ net_keyword net.kind ++ codes " 1 " ++ code_of n ++ codes " " ++ reference_of net.name ++ codes " $end\n"

-- the lines of the nets from net n on, after a net in these scopes: before each net the way from the scopes of the net before
-- it to its own, and behind the last one the end of its scopes
abbrev pub var_lines : ℕ → List (List ℕ) → List NetEntry → List ℕ
var_lines n scopes [] = close_lines scopes
var_lines n scopes (net ∷ nets) =
    scope_lines scopes (scopes_of net.name) ++ var_line n net ++ var_lines (suc n) (scopes_of net.name) nets

abbrev pub head_lines : Netlist → List ℕ
head_lines d =
    codes "$version gatebench $end\n" ++ timescale_line d.unit ++ open_line d.top ++ var_lines 0 [] d.nets ++ close_line ++
    codes "$enddefinitions $end\n"
