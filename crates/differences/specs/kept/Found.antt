-- Differences while they are gathered (own): each the first moment of a net and the net's number in a list of names. No contract
-- that other crates see says any of it.
use Rattle.std.specs.Prelude.{◌≡◌, ◌<◌, ℕ, length, slice_get, suc, List, [], ◌∷◌, ◌++◌, map, Option, None, Some, if◌then◌else◌}
use Rattle.std.specs.List.{slice_index_or}
use Rattle.design.specs.Netlist.{Netlist, has_net, net_named}
use Rattle.differences.specs.Differences.{difference_line, first_moment}
use Rattle.differences.specs.declared.room.Difference.{Difference}

-- that of a net of this number, if it has a first moment
abbrev pub difference_of : ℕ → Option ℕ → List Difference
difference_of number None = []
difference_of number (Some t) = record { moment = t; number = number } ∷ []

-- those of the names of a list, which are numbered from a number on, by the first moment of each
abbrev pub differences_in : (List ℕ → Option ℕ) → ℕ → List (List ℕ) → List Difference
differences_in first number [] = []
differences_in first number (name ∷ names) = difference_of number (first name) ++ differences_in first (suc number) names

-- a net that d does not have differs from 0 on
abbrev pub moment_beyond : Netlist → List ℕ → Option ℕ
moment_beyond d name = if has_net d name then None else Some 0

-- the names of the nets of a design, in order
abbrev pub names_in : Netlist → List (List ℕ)
names_in d = map (λ n. n.name) d.nets

-- the differences as they are found: those of the nets of d, and behind them those of the nets that only e has
abbrev pub all_found : Netlist → Netlist → List Difference
all_found d e = differences_in (first_moment d e) 0 (names_in d) ++ differences_in (moment_beyond d) (length d.nets) (names_in e)

-- the line of a difference, by the names of all numbers
abbrev pub line_of : List (List ℕ) → Difference → List ℕ
line_of names found = difference_line (slice_index_or names found.number []) found.moment

-- the name of the net at a place
abbrev pub name_at : Netlist → ℕ → List ℕ
name_at d place = slice_index_or (names_in d) place []

-- d has the net of this name at the place, or none
abbrev pub IsPlaceOf : Netlist → List ℕ → Option ℕ → Type 0
IsPlaceOf d name None = net_named d name ≡ None
IsPlaceOf d name (Some place) = (place < length d.nets) × (slice_get d.nets place ≡ net_named d name)
