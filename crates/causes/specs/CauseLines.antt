-- The lines that tell what made a net change, and what its change led to, in the words of a session, each with its line feed (own).
use Rattle.std.specs.Prelude.{◌==◌, ◌&&◌, ◌++◌, if◌then◌else◌, ℕ, List, [], ◌∷◌, codes, decimal}
use Rattle.std.specs.List.{filter, flat_map}
use Rattle.std.specs.Option.{option_map_or}
use Rattle.fourstate.specs.declared.value.Value.{Value}
use Rattle.fourstate.specs.Values.{symbol_of}
use Rattle.gatestep.specs.Step.{advance}
use Rattle.design.specs.Netlist.{GateEntry, NetEntry, Netlist, drivers_of, has_point, net_named}
use Rattle.scratch.specs.Run.{value}
use Rattle.listing.specs.Listings.{readers_of}
use Rattle.causes.specs.Causes.{changed_among, changes_at, ends, starts}

-- ` N V`: the name of a net, and a value
abbrev pub value_words : List ℕ → Value → List ℕ
value_words name v = codes " " ++ name ++ codes " " ++ (symbol_of v ∷ [])

-- a net, with its value at t
abbrev pub net_words : Netlist → ℕ → NetEntry → List ℕ
net_words d t n = value_words n.name (value advance d n t)

-- `G U IN V..`: a gate that turns from U on, and the nets that made it turn, with their values at U
abbrev pub turn_line : Netlist → GateEntry → ℕ → List ℕ
turn_line d g u = g.name ++ codes " " ++ decimal u ++ flat_map (net_words d u) (changed_among d u g.inputs) ++ codes "\n"

-- the lines of a gate that drives a net which changes at t
abbrev pub driver_lines : Netlist → ℕ → GateEntry → List ℕ
driver_lines d t g = flat_map (turn_line d g) (starts d g t)

-- what made the change of the net at t: a point of its stimulus, the beginning, or gates that drive it
abbrev pub cause_lines : Netlist → NetEntry → ℕ → List ℕ
cause_lines d n t =
    if n.is_input && has_point n.points t then codes "stimulus\n" else (if t == 0 then codes "beginning\n" else flat_map (driver_lines d t) (drivers_of d n.name))

-- the same, if the net changes at t
abbrev pub why_lines : Netlist → NetEntry → ℕ → List ℕ
why_lines d n t = if changes_at d n t then cause_lines d n t else codes "none\n"

-- `G U OUT V`: a gate that turns at U, and the net that it drives, with its value at U
abbrev pub reach_line : Netlist → GateEntry → NetEntry → ℕ → List ℕ
reach_line d g out u = g.name ++ codes " " ++ decimal u ++ net_words d u out ++ codes "\n"

-- the lines of a gate that reads a net which changes at t: those of its turns from t on at which the net that it drives changes
abbrev pub reader_lines : Netlist → ℕ → GateEntry → List ℕ
reader_lines d t g = option_map_or (λ out. flat_map (reach_line d g out) (filter (changes_at d out) (ends d g t))) (net_named d g.output) []

-- what the change of the net at t made change next
abbrev pub reach_lines : Netlist → NetEntry → ℕ → List ℕ
reach_lines d n t = if changes_at d n t then flat_map (reader_lines d t) (readers_of d n.name) else codes "none\n"
