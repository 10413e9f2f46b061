-- Look-ups by key, what holds of the keys of every design, and what edits by key make of one.
use Rattle.std.specs.Prelude.{◌≡◌, ◌≢◌, Bool, false, IsTrue, ℕ, ◌==◌, ◌++◌, List, [], ◌∷◌, length, Option, IsSome, IsSomeAnd, All, AllPairs}
use Rattle.std.specs.List.{filter, list_any}
use Rattle.fourstate.specs.kept.Delays.{AreDelays}
use Rattle.fourstate.specs.Gates.{takes_inputs}
use Rattle.catalog.specs.kept.Catalog as Catalog
use Rattle.catalog.specs.Catalog.{record_at, records_of}
use Rattle.catalog.specs.kept.Catalog.{key_named, keys_of, with_record}
use Rattle.design.specs.declared.terminal.Terminal.{Terminal}
use Rattle.design.specs.declared.terminal.Terminal.TheVariants.{Net, Constant}
use Rattle.fourstate.specs.declared.unit.TimeUnit.{TimeUnit}
use Rattle.design.specs.Names.{is_name}
use Rattle.design.specs.Netlist.{NetEntry}
use Rattle.design.specs.Keys.{KeyedGate, Keyed}

-- Look-ups.

-- the net that has this key
abbrev pub net_by_key : Keyed → ℕ → Option NetEntry
net_by_key d key = record_at d.nets key

-- the gate that has this key
abbrev pub gate_by_key : Keyed → ℕ → Option KeyedGate
gate_by_key d key = record_at d.gates key

-- the key of the net of this name
abbrev pub net_key : Keyed → List ℕ → Option ℕ
net_key d name = key_named (λ n. n.name) d.nets name

-- the key of the gate of this name
abbrev pub gate_key : Keyed → List ℕ → Option ℕ
gate_key d name = key_named (λ g. g.name) d.gates name

-- Connections.

-- the terminal is at the net of this key
abbrev pub is_at : Terminal → ℕ → Bool
is_at (Net net) key = key == net
is_at (Constant v) key = false

-- the net of this key is among these
abbrev pub is_among : List Terminal → ℕ → Bool
is_among inputs key = list_any (λ terminal. is_at terminal key) inputs

-- the gate reads the net of this key at one of its inputs, or drives it
abbrev pub reads_key : KeyedGate → ℕ → Bool
reads_key g key = is_among g.inputs key

abbrev pub drives_key : KeyedGate → ℕ → Bool
drives_key g key = key == g.output

-- the keys of the entries that pass, in order
abbrev pub keys_where : {X : Type 0} → (ℕ × X → Bool) → List (ℕ × X) → List ℕ
keys_where test entries = keys_of (filter test entries)

-- the keys of the gates that read the net of this key, each once, in the gates' order
abbrev pub reader_keys : Keyed → ℕ → List ℕ
reader_keys d key = keys_where (λ e. reads_key e.1 key) d.gates

-- the keys of the gates that drive the net of this key, in the gates' order
abbrev pub driver_keys : Keyed → ℕ → List ℕ
driver_keys d key = keys_where (λ e. drives_key e.1 key) d.gates

-- the terminal is a constant, or the net of its key is there
abbrev pub IsThere : List (ℕ × NetEntry) → Terminal → Type 0
IsThere nets (Net key) = IsSome (record_at nets key)
IsThere nets (Constant v) = Unit {0}

-- the net of this key is there and no input: a gate may drive it
abbrev pub IsDrivable : List (ℕ × NetEntry) → ℕ → Type 0
IsDrivable nets key = IsSomeAnd (record_at nets key) (λ n. n.is_input ≡ false)

-- a gate in its design: its output is a net that is no input, and each input is a constant or a net
pub record IsConnected (nets : List (ℕ × NetEntry)) (g : KeyedGate) : Type 0 where
  pub output : IsDrivable nets g.output
  pub inputs : All (IsThere nets) g.inputs

-- a gate by itself
pub record IsKeyedGate (g : KeyedGate) : Type 0 where
  pub named : IsTrue (is_name g.name)
  pub inputs_fit : IsTrue (takes_inputs g.kind (length g.inputs))
  pub delays_in_range : AreDelays g.delays

-- what holds of the keys of every design: no two nets and no two gates have the same one, and each connection is there
pub record AreKeys (d : Keyed) : Type 0 where
  pub distinct_nets : AllPairs (λ a b. a ≢ b) (keys_of d.nets)
  pub distinct_gates : AllPairs (λ a b. a ≢ b) (keys_of d.gates)
  pub connected : All (IsConnected d.nets) (records_of d.gates)

-- Edits.

-- a design with no nets and no gates
abbrev pub empty_design : List ℕ → TimeUnit → Keyed
empty_design top unit = record { top = top; unit = unit; horizon = 0; nets = []; gates = [] }

-- the design with a net more, and its key
abbrev pub with_keyed_net : Keyed → NetEntry → ℕ → Keyed
with_keyed_net d n key = record d { nets = d.nets ++ (key, n) ∷ [] }

-- the design with a gate more, and its key
abbrev pub with_keyed_gate : Keyed → KeyedGate → ℕ → Keyed
with_keyed_gate d g key = record d { gates = d.gates ++ (key, g) ∷ [] }

-- the design without the net of this key
abbrev pub without_keyed_net : Keyed → ℕ → Keyed
without_keyed_net d key = record d { nets = Catalog.without_key d.nets key }

-- the design without the gate of this key
abbrev pub without_keyed_gate : Keyed → ℕ → Keyed
without_keyed_gate d key = record d { gates = Catalog.without_key d.gates key }

-- the design with this net in place of that of the key
abbrev pub with_net_at : Keyed → ℕ → NetEntry → Keyed
with_net_at d key n = record d { nets = with_record d.nets key n }

-- the design with this gate in place of that of the key
abbrev pub with_gate_at : Keyed → ℕ → KeyedGate → Keyed
with_gate_at d key g = record d { gates = with_record d.gates key g }
