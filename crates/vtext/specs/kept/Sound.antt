-- What holds of the modules of every text: their names are parts of names of a design; nets, their bits, gates and
-- instances have different ones each; gates and instances fit the nets.
use Rattle.std.specs.Prelude.{◌≡◌, ◌≢◌, ◌≤◌, ℕ, true, IsTrue, IsSome, IsSomeAnd, MatchOption, None, List, Some, length, All, AllPairs}
use Rattle.fourstate.specs.kept.Delays.{AreDelays}
use Rattle.fourstate.specs.Gates.{takes_inputs}
use Rattle.design.specs.declared.limits.TheConstants.{MAX_NAME}
use Rattle.design.specs.Names.{is_part}
use Rattle.vtext.specs.declared.gate.Terminal.{Terminal}
use Rattle.vtext.specs.declared.gate.Terminal.TheVariants.{Net, Bit, Constant}
use Rattle.vtext.specs.declared.module_instance.PortConnection.{PortConnection}
use Rattle.vtext.specs.declared.net.Net as nets
use Rattle.vtext.specs.declared.word.Word.{Word}
use Rattle.vtext.specs.declared.word.Word.TheVariants.{Name}
use Rattle.vtext.specs.declared.word.Placed.{Placed}
use Rattle.vtext.specs.declared.range.TheConstants.{MAX_INDEX}
use Rattle.vtext.specs.Bits.{bit_bytes}
use Rattle.vtext.specs.GateNames.{gate_bytes}
use Rattle.vtext.specs.Modules.{GateEntry, InstanceEntry, ModuleEntry}
use Rattle.vtext.specs.Names.{name_at, number_of}
use Rattle.vtext.specs.Nets.{is_scalar, is_used, net_of}
use Rattle.vtext.specs.Ranges.{has_bit}

-- the number of a name of the table, which is one part of a name and no longer than one
pub record IsGoodNumber (names : List (List ℕ)) (n : ℕ) : Type 0 where
  pub known : number_of names (name_at names n) ≡ Some n
  pub part : IsTrue (is_part (name_at names n))
  pub short : length (name_at names n) ≤ MAX_NAME

-- where a word is a name, it is a good one
abbrev pub IsGoodWord : List (List ℕ) → Word → Type 0
IsGoodWord names (Name n) = IsGoodNumber names n
IsGoodWord names word = Unit {0}

abbrev pub AreGoodWords : List (List ℕ) → List Placed → Type 0
AreGoodWords names words = All (λ (p : Placed). IsGoodWord names p.word) words

-- Nets.

-- a net: it was declared or used, and the bounds of its range are within the limit
pub record IsSoundNet (names : List (List ℕ)) (net : ℕ × nets.Net) : Type 0 where
  pub name : IsGoodNumber names net.0
  pub used : is_used net.1 ≡ true
  pub bounds : MatchOption net.1.range (Unit {0}) (λ range. (range.left ≤ MAX_INDEX) × (range.right ≤ MAX_INDEX))

-- the first net, a scalar, doesn't have the name of a bit of the second one, a vector
abbrev pub IsApart : List (List ℕ) → ℕ × nets.Net → ℕ × nets.Net → Type 0
IsApart names a b = a.1.range ≡ None → (i : ℕ) → has_bit b.1.range i ≡ true → name_at names a.0 ≢ bit_bytes (name_at names b.0) i

-- each of two nets is apart from the other one
pub record AreApart (names : List (List ℕ)) (a b : ℕ × nets.Net) : Type 0 where
  pub first : IsApart names a b
  pub second : IsApart names b a

-- Terminals.

-- a scalar, or a bit of a vector
abbrev pub IsSingle : List (ℕ × nets.Net) → Terminal → Type 0
IsSingle nets (Net n) = IsSomeAnd (net_of nets n) (λ net. is_scalar net ≡ true)
IsSingle nets (Bit n i) = IsSomeAnd (net_of nets n) (λ net. has_bit net.range i ≡ true)
IsSingle nets (Constant value) = Unit {0}

-- what a gate drives is no constant
abbrev pub IsDriven : List (ℕ × nets.Net) → Terminal → Type 0
IsDriven nets (Constant value) = ⊥
IsDriven nets terminal = IsSingle nets terminal

-- what a port may be connected to: a whole vector too
abbrev pub IsJoinable : List (ℕ × nets.Net) → Terminal → Type 0
IsJoinable nets (Net n) = IsSome (net_of nets n)
IsJoinable nets terminal = IsSingle nets terminal

-- a gate among the nets of its module: its name is one part, of any length
pub record IsSoundGate (names : List (List ℕ)) (nets : List (ℕ × nets.Net)) (g : GateEntry) : Type 0 where
  pub spelled : IsTrue (is_part (gate_bytes names g))
  pub fits : IsTrue (takes_inputs g.kind (length g.inputs))
  pub delays : AreDelays g.delays
  pub output : IsDriven nets g.output
  pub inputs : All (IsSingle nets) g.inputs

abbrev pub IsPortConnected : List (ℕ × nets.Net) → PortConnection → Type 0
IsPortConnected nets connection = MatchOption connection.terminal (Unit {0}) (IsJoinable nets)

-- an instance of a module among the nets of the module that it is in
pub record IsSoundInstance (names : List (List ℕ)) (nets : List (ℕ × nets.Net)) (i : InstanceEntry) : Type 0 where
  pub name : IsGoodNumber names i.name
  pub connections : All (IsPortConnected nets) i.connections

-- a module with its name
pub record IsSoundModule (names : List (List ℕ)) (m : ℕ × ModuleEntry) : Type 0 where
  pub name : IsGoodNumber names m.0
  pub nets : All (IsSoundNet names) m.1.nets
  pub distinct_nets : AllPairs (λ a b. a.0 ≢ b.0) m.1.nets
  pub apart_nets : AllPairs (AreApart names) m.1.nets
  pub gates : All (IsSoundGate names m.1.nets) m.1.gates
  pub distinct_gates : AllPairs (λ g h. gate_bytes names g ≢ gate_bytes names h) m.1.gates
  pub instances : All (IsSoundInstance names m.1.nets) m.1.instances
  pub distinct_instances : AllPairs (λ i j. i.name ≢ j.name) m.1.instances
