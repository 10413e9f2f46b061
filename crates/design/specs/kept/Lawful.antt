-- What holds of every net, gate and design.
use Rattle.std.specs.Prelude.{◌≡◌, ◌≢◌, ◌≤◌, ◌<◌, ℕ, false, IsTrue, List, [], length, All, AllPairs}
use Rattle.std.specs.List.{list_all}
use Rattle.fourstate.specs.declared.limits.TheConstants.{MAX_TIME}
use Rattle.fourstate.specs.declared.value.Value.{Value}
use Rattle.fourstate.specs.kept.Delays.{AreDelays}
use Rattle.fourstate.specs.Gates.{takes_inputs}
use Rattle.design.specs.declared.limits.TheConstants.{MAX_NETS, MAX_GATES, MAX_POINTS}
use Rattle.design.specs.Names.{is_name}
use Rattle.design.specs.Netlist.{NetEntry, GateEntry, Netlist, is_readable, point_total}
use Rattle.design.specs.kept.Netlist.{is_drivable}

-- points are in order of time, at most one at each time
abbrev pub AreRising : List (ℕ × Value) → Type 0
AreRising points = AllPairs (λ p q. p.0 < q.0) points

-- a net by itself: only an input has points
pub record IsNet (n : NetEntry) : Type 0 where
  pub named : IsTrue (is_name n.name)
  pub rising : AreRising n.points
  pub timely : All (λ p. p.0 ≤ MAX_TIME) n.points
  pub only_inputs : n.is_input ≡ false → n.points ≡ []

-- a gate by itself
pub record IsGate (g : GateEntry) : Type 0 where
  pub named : IsTrue (is_name g.name)
  pub inputs_fit : IsTrue (takes_inputs g.kind (length g.inputs))
  pub delays_in_range : AreDelays g.delays

-- a gate in its design: its output is a net that is no input, and each input is a constant or a net
pub record IsWired (d : Netlist) (g : GateEntry) : Type 0 where
  pub output : IsTrue (is_drivable d g.output)
  pub inputs : IsTrue (list_all (is_readable d) g.inputs)

-- a design
pub record IsDesign (d : Netlist) : Type 0 where
  pub named : IsTrue (is_name d.top)
  pub nets : All IsNet d.nets
  pub gates : All IsGate d.gates
  pub wiring : All (IsWired d) d.gates
  pub distinct_nets : AllPairs (λ n m. n.name ≢ m.name) d.nets
  pub distinct_gates : AllPairs (λ g h. g.name ≢ h.name) d.gates
  pub net_count : length d.nets ≤ MAX_NETS
  pub gate_count : length d.gates ≤ MAX_GATES
  pub point_count : point_total d.nets ≤ MAX_POINTS
  pub horizon : d.horizon ≤ MAX_TIME
