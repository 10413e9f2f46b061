-- Which nets differ between two designs, and from which moment on (own).
use Rattle.std.specs.Prelude.{Bool, true, false, not, ℕ, suc, ◌==◌, ◌++◌, List, map, Option, None, Some, option_map, min, codes, decimal}
use Rattle.std.specs.List.{filter, find, flat_map}
use Rattle.std.specs.Option.{option_map_or}
use Rattle.fourstate.specs.declared.value.Value.{Value}
use Rattle.fourstate.specs.Values.{same_value}
use Rattle.gatestep.specs.Step.{advance}
use Rattle.design.specs.Netlist.{Netlist, has_net, net_named}
use Rattle.scratch.specs.Run.{value}
use Rattle.waveform.specs.Timelines.{moments}

-- the moments of both runs: those up to the lesser of the two horizons
abbrev pub common_moments : Netlist → Netlist → List ℕ
common_moments d e = moments (suc (min d.horizon e.horizon))

-- what the net of this name has at t; nothing where there is no such net
abbrev pub value_named : Netlist → List ℕ → ℕ → Option Value
value_named d name t = option_map (λ n. value advance d n t) (net_named d name)

-- these are the same value, or none both times
abbrev pub same_or_none : Option Value → Option Value → Bool
same_or_none None None = true
same_or_none None (Some w) = false
same_or_none (Some v) None = false
same_or_none (Some v) (Some w) = same_value v w

-- the net of this name differs at t: it has another value in the one than in the other, or only one of them has it
abbrev pub differs_at : Netlist → Netlist → List ℕ → ℕ → Bool
differs_at d e name t = not (same_or_none (value_named d name t) (value_named e name t))

-- the first of the moments of both runs at which it differs
unfoldable pub first_moment : Netlist → Netlist → List ℕ → Option ℕ
first_moment d e name = find (differs_at d e name) (common_moments d e)

-- the names of all nets: those of d in order, then, in the order of e, those that only e has
abbrev pub names_of_both : Netlist → Netlist → List (List ℕ)
names_of_both d e = map (λ n. n.name) d.nets ++ map (λ n. n.name) (filter (λ n. not (has_net d n.name)) e.nets)

-- the moment is t
abbrev pub is_moment : ℕ → Option ℕ → Bool
is_moment t first = option_map_or (λ u. u == t) first false

-- the names of the nets that differ from t on
abbrev pub names_from : Netlist → Netlist → ℕ → List (List ℕ)
names_from d e t = filter (λ name. is_moment t (first_moment d e name)) (names_of_both d e)

-- `N T`
abbrev pub difference_line : List ℕ → ℕ → List ℕ
difference_line name t = name ++ codes " " ++ decimal t ++ codes "\n"

-- a line for each net that differs: moment by moment, and for each of them in the order of the nets those that differ from it on
unfoldable pub difference_lines : Netlist → Netlist → List ℕ
difference_lines d e = flat_map (λ t. flat_map (λ name. difference_line name t) (names_from d e t)) (common_moments d e)
