-- Of designs by name: one with nothing in it, nets that gates may drive, and the next point of a net.
use Rattle.std.specs.Prelude.{Bool, false, ℕ, not, nat_lt, List, [], Option, option_map}
use Rattle.std.specs.List.{find}
use Rattle.std.specs.Option.{option_map_or}
use Rattle.fourstate.specs.declared.value.Value.{Value}
use Rattle.fourstate.specs.declared.unit.TimeUnit.{TimeUnit}
use Rattle.design.specs.Netlist.{Netlist, net_named}

-- a design with no nets and no gates
abbrev pub empty_netlist : List ℕ → TimeUnit → Netlist
empty_netlist top unit = record { top = top; unit = unit; nets = []; gates = []; horizon = 0 }

-- a net of this name that is no input is there: gates may drive it
abbrev pub is_drivable : Netlist → List ℕ → Bool
is_drivable d name = option_map_or (λ n. not n.is_input) (net_named d name) false

-- the moment of the first point after t
abbrev pub next_point : List (ℕ × Value) → ℕ → Option ℕ
next_point points t = option_map (λ point. point.0) (find (λ point. nat_lt t point.0) points)
