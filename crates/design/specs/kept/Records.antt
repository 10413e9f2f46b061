-- Nets and gates with one part changed.
use Rattle.std.specs.Prelude.{◌≡◌, ◌≤◌, ◌<◌, ℕ, ◌==◌, true, false, not, List}
use Rattle.std.specs.List.{filter}
use Rattle.fourstate.specs.declared.gate.GateKind.{GateKind}
use Rattle.fourstate.specs.declared.net.NetKind.{NetKind}
use Rattle.fourstate.specs.declared.delay_times.DelayTimes.{DelayTimes}
use Rattle.design.specs.declared.terminal.Terminal.{Terminal}
use Rattle.design.specs.declared.net_change.NetChange.{NetChange}
use Rattle.design.specs.declared.net_change.NetChange.TheVariants.{Kind, Point, NoPoint}
use Rattle.fourstate.specs.declared.limits.TheConstants.{MAX_TIME}
use Rattle.design.specs.declared.limits.TheConstants.{MAX_POINTS}
use Rattle.design.specs.Keys.{KeyedGate}
use Rattle.design.specs.Netlist.{NetEntry, has_point, net_with_point}

-- the net with another kind
abbrev pub net_with_kind : NetEntry → NetKind → NetEntry
net_with_kind n kind = record { name = n.name; kind = kind; is_input = n.is_input; points = n.points }

-- the net without its point at t
abbrev pub net_without_point : NetEntry → ℕ → NetEntry
net_without_point n t =
    record { name = n.name; kind = n.kind; is_input = n.is_input; points = filter (λ point. not (point.0 == t)) n.points }

-- the net with a change
abbrev pub net_changed : NetChange → NetEntry → NetEntry
net_changed (Kind kind) n = net_with_kind n kind
net_changed (Point t v) n = net_with_point n t v
net_changed (NoPoint t) n = net_without_point n t

-- a change that the net by itself allows: only an input gets points, and none is behind the last moment of all
abbrev pub IsNetChange : NetChange → NetEntry → Type 0
IsNetChange (Kind kind) n = Unit {0}
IsNetChange (Point t v) n = (n.is_input ≡ true) × (t ≤ MAX_TIME)
IsNetChange (NoPoint t) n = Unit {0}

-- the change leaves no more points than there may be, where all nets together have so many now
abbrev pub HasRoom : NetChange → NetEntry → ℕ → Type 0
HasRoom (Kind kind) n total = Unit {0}
HasRoom (Point t v) n total = has_point n.points t ≡ false → total < MAX_POINTS
HasRoom (NoPoint t) n total = Unit {0}

-- the gate with other delays
abbrev pub gate_with_delays : KeyedGate → DelayTimes → KeyedGate
gate_with_delays g delays = record { name = g.name; kind = g.kind; delays = delays; output = g.output; inputs = g.inputs }

-- the gate with another kind
abbrev pub gate_with_kind : KeyedGate → GateKind → KeyedGate
gate_with_kind g kind = record { name = g.name; kind = kind; delays = g.delays; output = g.output; inputs = g.inputs }

-- the gate at other nets
abbrev pub gate_with_wiring : KeyedGate → ℕ → List Terminal → KeyedGate
gate_with_wiring g output inputs = record { name = g.name; kind = g.kind; delays = g.delays; output = output; inputs = inputs }

-- a gate in place of another one: it has the same name and the same connections
pub record IsInPlaceOf (old new : KeyedGate) : Type 0 where
  pub name : new.name ≡ old.name
  pub output : new.output ≡ old.output
  pub inputs : new.inputs ≡ old.inputs
