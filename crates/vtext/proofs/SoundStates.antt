-- What holds of a reading in each state of a walk over good words: what is read is sound so far, and all is ready for what follows.
use Rattle.std.proofs.Common.{◌≡◌, ◌≢◌, ℕ, true, false, List, [], Option, Some, None, Result, Ok, Err, All, AllPairs, refl}
use Rattle.std.specs.Option.{is_some}
use Rattle.fourstate.specs.kept.Delays.{AreDelays}
use Rattle.vtext.specs.declared.cause.Cause.{Cause}
use Rattle.vtext.specs.declared.gate.Terminal.{Terminal}
use Rattle.vtext.specs.declared.module_instance.PortConnection.{PortConnection}
use Rattle.vtext.specs.declared.net.Net.{Net}
use Rattle.vtext.specs.declared.parser_state.Declared.{Declared}
use Rattle.vtext.specs.declared.parser_state.Declared.TheVariants as declared
use Rattle.vtext.specs.declared.parser_state.Indexed.{Indexed}
use Rattle.vtext.specs.declared.parser_state.Indexed.TheVariants as indexed
use Rattle.vtext.specs.declared.parser_state.ParserState.{ParserState}
use Rattle.vtext.specs.declared.parser_state.ParserState.TheVariants.{Outside, ModuleName, InlineStart, InlineKind, InlineName, InlineNext, InlineMore, PortStart, PortKind, PortName, PortNext, NetStart, NetName, NetNext, LeftBound, BoundColon, RightBound, RangeEnd, IndexStart, Index, IndexEnd, RiseEnd, FallDelay, FallEnd, OffDelay, OffEnd, GateStart, InstanceStart, InstanceOpen, TerminalStart, TerminalEnd, InstanceEnd, ModuleInstanceOpen, Connections, OrderedStart, OrderedEnd, NamedStart, NamedPort, NamedOpen, NamedTerminal, NamedClose, NamedEnd}
use Rattle.vtext.specs.declared.word.Word.{Word}
use Rattle.vtext.specs.Causes.{is_hash}
use Rattle.vtext.specs.GateNames.{is_taken}
use Rattle.vtext.specs.Modules.{GateEntry, InstanceEntry, ModuleEntry}
use Rattle.vtext.specs.Readings.{Reading}
use Rattle.vtext.specs.kept.Sound.{IsGoodNumber, IsPortConnected, IsSingle, IsSoundGate, IsSoundInstance, IsSoundModule}
use Rattle.vtext.specs.Turns.{Walk, unless}
use Rattle.vtext.proofs.CompletedLemmas.{IsApart, IsStarted}
use Rattle.vtext.proofs.NetReadings.{AreNets, IsBounded}

-- the names of these instances are taken
abbrev pub AreTaken : List ℕ → List InstanceEntry → Type 0
AreTaken taken instances = All (λ i. is_taken taken i.name ≡ true) instances

-- of the finished modules, and of the nets, gates, instances and terminals of the one that is being read; so many words are left
pub record AreSound (names : List (List ℕ)) (room : ℕ) (modules : List (ℕ × ModuleEntry)) (nets : List (ℕ × Net)) (gates : List GateEntry)
    (instances : List InstanceEntry) (taken : List ℕ) (unnamed : ℕ) (terminals : List Terminal) : Type 0 where
  pub finished : All (IsSoundModule names) modules
  pub sound_nets : AreNets names nets
  pub fitting : All (IsSoundGate names nets) gates
  pub instantiated : All (IsSoundInstance names nets) instances
  pub instances_apart : AllPairs (λ i j. i.name ≢ j.name) instances
  pub instances_taken : AreTaken taken instances
  pub names_apart : IsApart names room gates taken unnamed terminals

-- the instance of a module that is being read has a good name that no other one has, and fits the nets
pub record IsBegun (names : List (List ℕ)) (nets : List (ℕ × Net)) (instances : List InstanceEntry) (taken : List ℕ) (name : ℕ)
    (connections : List PortConnection) : Type 0 where
  pub good : IsGoodNumber names name
  pub taken_now : is_taken taken name ≡ true
  pub apart : All (λ i. i.name ≢ name) instances
  pub connected : All (IsPortConnected nets) connections

module _ (names : List (List ℕ)) where
  abbrev pub IsSoFar : ℕ → Reading → Type 0
  IsSoFar room r = AreSound names room r.modules r.nets r.gates r.instances r.taken r.unnamed r.terminals

  -- within a module, with no terminal at hand
  abbrev pub IsWithin : Reading → Type 0
  IsWithin r = IsGoodNumber names r.name × (r.terminals ≡ [])

  -- the gate instance that is being read has a name that no gate has, or none
  abbrev pub IsReady : Reading → Type 0
  IsReady r = IsStarted names r.instance r.gates r.taken

  -- among the terminals of a gate instance
  abbrev pub IsAmong : Reading → Type 0
  IsAmong r = IsGoodNumber names r.name × All (IsSingle r.nets) r.terminals × AreDelays r.delays × IsReady r

  -- among the port connections of an instance of a module
  abbrev pub IsJoined : Reading → Type 0
  IsJoined r = IsWithin r × IsBegun names r.nets r.instances r.taken r.instance_name r.connections

  -- in a declaration, whose range is within the limit
  abbrev pub IsDeclared : Reading → Type 0
  IsDeclared r = IsWithin r × IsBounded r.range

  -- in a net declaration, which writes a kind
  abbrev pub IsKind : Reading → Type 0
  IsKind r = IsDeclared r × (is_some r.kind ≡ true)

  -- in the range of a declaration, from its left bound on
  abbrev pub IsRanged : Declared → Reading → Type 0
  IsRanged declared.Net r = IsKind r
  IsRanged of r = IsDeclared r

  -- before the left bound
  abbrev pub IsUnranged : Declared → Reading → Type 0
  IsUnranged declared.Net r = IsWithin r × (is_some r.kind ≡ true)
  IsUnranged of r = IsWithin r

  -- in the index of a terminal
  abbrev pub IsIndexed : Indexed → Reading → Type 0
  IsIndexed indexed.Gate r = IsAmong r
  IsIndexed of r = IsJoined r

  -- what else holds in a state, before this word; behind the word of a gate the delays are good where none follows
  abbrev pub IsAt : ParserState → Option Word → Reading → Type 0
  IsAt Outside next r = r.terminals ≡ []
  IsAt ModuleName next r = r.terminals ≡ []
  IsAt InlineStart next r = IsDeclared r
  IsAt InlineKind next r = IsDeclared r
  IsAt InlineName next r = IsDeclared r
  IsAt InlineNext next r = IsDeclared r
  IsAt InlineMore next r = IsDeclared r
  IsAt PortStart next r = IsDeclared r
  IsAt PortKind next r = IsDeclared r
  IsAt PortName next r = IsDeclared r
  IsAt PortNext next r = IsDeclared r
  IsAt NetStart next r = IsKind r
  IsAt NetName next r = IsKind r
  IsAt NetNext next r = IsKind r
  IsAt (LeftBound of) next r = IsUnranged of r
  IsAt (BoundColon of) next r = IsRanged of r
  IsAt (RightBound of) next r = IsRanged of r
  IsAt (RangeEnd of) next r = IsRanged of r
  IsAt GateStart next r = IsWithin r × (is_hash next ≡ false → AreDelays r.delays)
  IsAt RiseEnd next r = IsWithin r × AreDelays r.delays
  IsAt FallDelay next r = IsWithin r × AreDelays r.delays
  IsAt FallEnd next r = IsWithin r × AreDelays r.delays
  IsAt OffDelay next r = IsWithin r × AreDelays r.delays
  IsAt OffEnd next r = IsWithin r × AreDelays r.delays
  IsAt InstanceStart next r = IsWithin r × AreDelays r.delays
  IsAt InstanceEnd next r = IsWithin r × AreDelays r.delays
  IsAt InstanceOpen next r = IsWithin r × AreDelays r.delays × IsReady r
  IsAt TerminalStart next r = IsAmong r
  IsAt TerminalEnd next r = IsAmong r
  IsAt (IndexStart of) next r = IsIndexed of r
  IsAt (Index of) next r = IsIndexed of r
  IsAt (IndexEnd of) next r = IsIndexed of r
  IsAt ModuleInstanceOpen next r = IsJoined r
  IsAt Connections next r = IsJoined r
  IsAt OrderedStart next r = IsJoined r
  IsAt OrderedEnd next r = IsJoined r
  IsAt NamedStart next r = IsJoined r
  IsAt NamedPort next r = IsJoined r
  IsAt NamedOpen next r = IsJoined r
  IsAt NamedTerminal next r = IsJoined r
  IsAt NamedClose next r = IsJoined r
  IsAt NamedEnd next r = IsJoined r
  IsAt state next r = IsWithin r

  -- where a walk stands, before this word, with so many words left
  abbrev pub Stands : ℕ → Walk → Option Word → Type 0
  Stands room walk next = IsSoFar room walk.so_far × IsAt walk.state next walk.so_far

  -- where a turn leads, if anywhere
  abbrev pub StandsAfter : ℕ → Result Walk Cause → Option Word → Type 0
  StandsAfter room (Ok walk) next = Stands room walk next
  StandsAfter room (Err why) next = Unit {0}

  pub unless_stands : (room : ℕ) (next : Option Word) (found : Option Cause) (turn : Result Walk Cause) → (found ≡ None → StandsAfter room turn next)
      → StandsAfter room (unless found turn) next
  unless_stands room next None turn stands = stands refl
  unless_stands room next (Some why) turn stands = tt
