-- Stimulus points that copies share.
use Rattle.std.specs.Prelude.{ℕ, List, [], Option, None, Some}
use Rattle.std.specs.Global.{Global}
use Rattle.std.specs.Arc.{arc_value}
use Rattle.std.specs.declared.sync.Arc.{Arc}
use Rattle.fourstate.specs.declared.value.Value.{Value}

-- the points, none where none are kept
abbrev pub stimulus_in : Option (Arc (List (ℕ × Value)) Global) → List (ℕ × Value)
stimulus_in None = []
stimulus_in (Some points) = arc_value points
