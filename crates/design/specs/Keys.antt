-- A design as it is kept: each net and each gate with its key, a number that names it, and connections by key; and the
-- same design by names.
use Rattle.std.specs.Prelude.{ℕ, List, [], map}
use Rattle.std.specs.Option.{option_map_or}
use Rattle.fourstate.specs.declared.gate.GateKind.{GateKind}
use Rattle.fourstate.specs.declared.delay_times.DelayTimes.{DelayTimes}
use Rattle.catalog.specs.Catalog.{record_at, records_of}
use Rattle.design.specs.declared.terminal.Terminal.{Terminal}
use Rattle.design.specs.declared.terminal.Terminal.TheVariants.{Net, Constant}
use Rattle.fourstate.specs.declared.unit.TimeUnit.{TimeUnit}
use Rattle.design.specs.Connections.{Connection, to_net, to_constant}
use Rattle.design.specs.Netlist.{NetEntry, GateEntry, Netlist}

-- a gate drives the net of the key output, and reads nets by key, or constants
pub record KeyedGate : Type 0 where
  pub name : List ℕ
  pub kind : GateKind
  pub delays : DelayTimes
  pub output : ℕ
  pub inputs : List Terminal

-- a design: its nets and its gates in order, each with its key
pub record Keyed : Type 0 where
  pub top : List ℕ
  pub unit : TimeUnit
  pub horizon : ℕ
  pub nets : List (ℕ × NetEntry)
  pub gates : List (ℕ × KeyedGate)

-- The design by names.

-- the name of the net of this key, no bytes without one
abbrev pub name_of : List (ℕ × NetEntry) → ℕ → List ℕ
name_of nets key = option_map_or (λ n. n.name) (record_at nets key) []

abbrev pub connection_in : List (ℕ × NetEntry) → Terminal → Connection
connection_in nets (Net key) = to_net (name_of nets key)
connection_in nets (Constant v) = to_constant v

-- the gate with the names of its nets
abbrev pub entry_in : List (ℕ × NetEntry) → KeyedGate → GateEntry
entry_in nets g = record {
  name = g.name;
  kind = g.kind;
  delays = g.delays;
  output = name_of nets g.output;
  inputs = map (connection_in nets) g.inputs;
}

-- the gates with the names of their nets, each with its key
abbrev pub named_gates : List (ℕ × NetEntry) → List (ℕ × KeyedGate) → List (ℕ × GateEntry)
named_gates nets gates = map (λ e. (e.0, entry_in nets e.1)) gates

-- the design by names
unfoldable pub netlist : Keyed → Netlist
netlist d = record {
  top = d.top;
  unit = d.unit;
  nets = records_of d.nets;
  gates = records_of (named_gates d.nets d.gates);
  horizon = d.horizon;
}
