-- What is left of a tree behind a point within a line of the grammar, with no cause at it, and the marks of it.
use Rattle.std.proofs.Common.{◌≡◌, ◌⊎◌, inl, inr, true, ℕ, List, [], ◌∷◌, Option, Some, None, fold}
use Rattle.fourstate.specs.Delays.{delay_times, uniform_delays, with_fall, with_off}
use Rattle.fourstate.specs.Gates.{takes_off}
use Rattle.fourstate.specs.declared.gate.GateKind.{GateKind}
use Rattle.fourstate.specs.declared.net.NetKind.{NetKind}
use Rattle.vtext.specs.declared.gate.Terminal.{Terminal}
use Rattle.vtext.specs.declared.parser_state.Declared.{Declared}
use Rattle.vtext.specs.declared.parser_state.Declared.TheVariants as declared
use Rattle.vtext.specs.declared.parser_state.Indexed.{Indexed}
use Rattle.vtext.specs.declared.parser_state.Indexed.TheVariants as indexed
use Rattle.vtext.specs.declared.range.Range.{Range}
use Rattle.vtext.specs.declared.word.Word.TheVariants.{Endmodule, Name, Number, Open, Close, Comma, Semicolon, Colon, CloseBracket}
use Rattle.vtext.specs.declared.cause.Cause.{Cause}
use Rattle.vtext.specs.Causes.{bound_cause, completed_cause, delay_cause, end_cause, header_cause, index_cause, inline_cause, net_cause, port_cause}
use Rattle.vtext.specs.Instances.{completed}
use Rattle.vtext.specs.Notes.{add_bit, connect, declare_net, declare_port, direct_port, finished, instantiated, list_port, use_terminal}
use Rattle.vtext.specs.Readings.{Reading}
use Rattle.vtext.specs.Trees.{AreAdmitted, AreConnectionsAdmitted, AreInstancesAdmitted, AreItemsAdmitted, AreModuleInstancesAdmitted, AreNamedAdmitted, ArePartsAdmitted, ArePlacesAdmitted, ArePortsAdmitted, AreTerminalsAdmitted, Connections, Delay, Header, Instance, IsHeaderAdmitted, IsInstanceAdmitted, IsPlaceAdmitted, IsRangeAdmitted, IsTerminalAdmitted, Item, Mark, ModuleInstance, NamedPort, Part, Port, after_connections, after_header, after_instance, after_items, after_module_instance, after_named, after_parts, after_port, connections_then, delay_then, header_then, instance_then, instances_then, items_then, kind_then, module_instances_then, more_named_then, names_then, parts_then, place_then, places_then, plain, ports_then, range_then, terminal_then, terminals_then}
use Rattle.vtext.specs.Trees.Delay.{no_delay, one_delay, enclosed_delay, two_delays, three_delays}
use Rattle.vtext.specs.Turns.{with_right}

-- with the net kind that a declaration writes, if any
abbrev pub kinded : Reading → Option NetKind → Reading
kinded r None = r
kinded r (Some kind) = record r { kind = Some kind }

-- with the range that a declaration writes, if any
abbrev pub ranged : Reading → Option Range → Reading
ranged r None = r
ranged r (Some range) = record r { range = Some range }

-- with the delay that a gate item writes, if any
abbrev pub delayed : Reading → Delay → Reading
delayed r no_delay = r
delayed r (one_delay d) = record r { delays = uniform_delays d }
delayed r (enclosed_delay d) = record r { delays = uniform_delays d }
delayed r (two_delays rise fall) = record r { delays = delay_times rise fall }
delayed r (three_delays rise fall off) = record r { delays = with_off (delay_times rise fall) off }

-- the numbers of a delay are in their limits, and this kind takes as many
abbrev pub IsInLimits : GateKind → Delay → Type 0
IsInLimits kind no_delay = Unit {0}
IsInLimits kind (one_delay d) = delay_cause d ≡ None
IsInLimits kind (enclosed_delay d) = delay_cause d ≡ None
IsInLimits kind (two_delays rise fall) = (delay_cause rise ≡ None) × (delay_cause fall ≡ None)
IsInLimits kind (three_delays rise fall off) =
    (takes_off kind ≡ true) × (delay_cause rise ≡ None) × (delay_cause fall ≡ None) × (delay_cause off ≡ None)

-- a walk: the delay of a gate item without one, the table of names, and what has been read in the end
pub record Setting : Type 0 where
  pub default : Option ℕ
  pub table : List (List ℕ)
  pub last : Reading

module _ (s : Setting) where
  -- the items that are left of a module, after this reading, and the parts that are left of the text
  pub record Tail (r : Reading) : Type 0 where
    pub items : List Item
    pub parts : List Part
    pub items_free : AreItemsAdmitted s.default s.table r items
    pub end_free : end_cause (after_items s.default s.table r items) ≡ None
    pub parts_free : ArePartsAdmitted s.default s.table (finished (after_items s.default s.table r items)) parts
    pub last_same : s.last ≡ after_parts s.default s.table (finished (after_items s.default s.table r items)) parts

  abbrev pub body : {r : Reading} → Tail r → List Mark
  body tail = items_then tail.items (plain Endmodule ∷ parts_then tail.parts [])

  abbrev pub ended : {r : Reading} → Tail r → List Mark
  ended tail = plain Semicolon ∷ body tail

  abbrev pub headed : {r : Reading} → Tail r → List Mark
  headed tail = plain Close ∷ ended tail

  -- Headers.

  pub record Head (r : Reading) : Type 0 where
    pub header : Header
    pub free : IsHeaderAdmitted s.table r header
    pub tail : Tail (after_header r header)

  abbrev pub head_marks : {r : Reading} → Head r → List Mark
  head_marks rest = header_then rest.header (body rest.tail)

  -- names of a list, to which this verb applies, unless this cause holds
  pub record Names (after : Reading → ℕ → Reading) (cause : Reading → ℕ → Option Cause) (r : Reading) : Type 0 where
    pub names : List ℕ
    pub free : AreAdmitted after (λ now name. cause now name ≡ None) r names
    pub tail : Tail (fold after r names)

  abbrev pub Listed : Reading → Type 0
  Listed r = Names list_port header_cause r

  abbrev pub listed_marks : {r : Reading} → Listed r → List Mark
  listed_marks rest = names_then rest.names (headed rest.tail)

  pub record Ports (r : Reading) : Type 0 where
    pub ports : List Port
    pub free : ArePortsAdmitted s.table r ports
    pub tail : Tail (fold after_port r ports)

  abbrev pub ports_marks : {r : Reading} → Ports r → List Mark
  ports_marks rest = ports_then rest.ports (headed rest.tail)

  -- Declarations.

  abbrev pub Directed : Reading → Type 0
  Directed r = Names direct_port (port_cause s.table) r

  abbrev pub directed_marks : {r : Reading} → Directed r → List Mark
  directed_marks rest = names_then rest.names (ended rest.tail)

  abbrev pub Nets : Reading → Type 0
  Nets r = Names declare_net (net_cause s.table) r

  abbrev pub nets_marks : {r : Reading} → Nets r → List Mark
  nets_marks rest = names_then rest.names (ended rest.tail)

  -- the first name of a declaration, and what is left behind it
  abbrev pub Declaration : Declared → Reading → Type 0
  Declaration declared.InlinePort r = (n : ℕ) × ((inline_cause s.table r n ≡ None) × Ports (declare_port r n))
  Declaration declared.Port r = (n : ℕ) × ((port_cause s.table r n ≡ None) × Directed (direct_port r n))
  Declaration declared.Net r = (n : ℕ) × ((net_cause s.table r n ≡ None) × Nets (declare_net r n))

  abbrev pub declaration_marks : (of : Declared) (r : Reading) → Declaration of r → List Mark
  declaration_marks declared.InlinePort r d = plain (Name d.0) ∷ ports_marks d.1.1
  declaration_marks declared.Port r d = plain (Name d.0) ∷ directed_marks d.1.1
  declaration_marks declared.Net r d = plain (Name d.0) ∷ nets_marks d.1.1

  -- a right bound, and what is left behind it
  abbrev pub Right : Declared → Reading → Type 0
  Right of r = (right : ℕ) × ((bound_cause right ≡ None) × Declaration of (record r { range = with_right r.range right }))

  abbrev pub right_marks : (of : Declared) (r : Reading) → Right of r → List Mark
  right_marks of r d = plain (Number d.0) ∷ plain CloseBracket ∷ declaration_marks of (record r { range = with_right r.range d.0 }) d.1.1

  -- both bounds
  abbrev pub Bounds : Declared → Reading → Type 0
  Bounds of r = (range : Range) × (IsRangeAdmitted (Some range) × Declaration of (record r { range = Some range }))

  abbrev pub bounds_marks : (of : Declared) (r : Reading) → Bounds of r → List Mark
  bounds_marks of r d =
      plain (Number d.0.left) ∷ plain Colon ∷ plain (Number d.0.right) ∷ plain CloseBracket ∷ declaration_marks of (record r { range = Some d.0 }) d.1.1

  -- a range, if there is one
  abbrev pub Ranged : Declared → Reading → Type 0
  Ranged of r = (range : Option Range) × (IsRangeAdmitted range × Declaration of (ranged r range))

  abbrev pub ranged_marks : (of : Declared) (r : Reading) → Ranged of r → List Mark
  ranged_marks of r d = range_then d.0 (declaration_marks of (ranged r d.0) d.1.1)

  -- a net kind, if there is one
  abbrev pub Kinded : Declared → Reading → Type 0
  Kinded of r = (kind : Option NetKind) × Ranged of (kinded r kind)

  abbrev pub kinded_marks : (of : Declared) (r : Reading) → Kinded of r → List Mark
  kinded_marks of r d = kind_then d.0 (ranged_marks of (kinded r d.0) d.1)

  -- Gates.

  pub record Instances (r : Reading) : Type 0 where
    pub more : List Instance
    pub free : AreInstancesAdmitted s.table r more
    pub tail : Tail (fold (after_instance s.table) r more)

  abbrev pub instances_marks : {r : Reading} → Instances r → List Mark
  instances_marks rest = instances_then rest.more (ended rest.tail)

  -- a gate instance, and what is left behind it
  abbrev pub Gates : Reading → Type 0
  Gates r = (i : Instance) × (IsInstanceAdmitted s.table r i × Instances (after_instance s.table r i))

  abbrev pub gates_marks : (r : Reading) → Gates r → List Mark
  gates_marks r rest = instance_then rest.0 (instances_marks rest.1.1)

  -- a third number of a delay
  abbrev pub Off : Reading → Type 0
  Off r = (off : ℕ) × ((delay_cause off ≡ None) × Gates (record r { delays = with_off r.delays off }))

  abbrev pub off_marks : (r : Reading) → Off r → List Mark
  off_marks r rest = plain (Number rest.0) ∷ plain Close ∷ gates_marks (record r { delays = with_off r.delays rest.0 }) rest.1.1

  -- behind a second number: the end of the delay, or a third number
  abbrev pub Fallen : Reading → Type 0
  Fallen r = Gates r ⊎ ((takes_off r.gate ≡ true) × Off r)

  abbrev pub fallen_marks : (r : Reading) → Fallen r → List Mark
  fallen_marks r (inl gates) = plain Close ∷ gates_marks r gates
  fallen_marks r (inr off) = plain Comma ∷ off_marks r off.1

  -- a second number of a delay
  abbrev pub Fall : Reading → Type 0
  Fall r = (fall : ℕ) × ((delay_cause fall ≡ None) × Fallen (record r { delays = with_fall r.delays fall }))

  abbrev pub fall_marks : (r : Reading) → Fall r → List Mark
  fall_marks r rest = plain (Number rest.0) ∷ fallen_marks (record r { delays = with_fall r.delays rest.0 }) rest.1.1

  -- a delay
  abbrev pub Delayed : Reading → Type 0
  Delayed r = (delay : Delay) × (IsInLimits r.gate delay × Gates (delayed r delay))

  abbrev pub delayed_marks : (r : Reading) → Delayed r → List Mark
  delayed_marks r rest = delay_then rest.0 (gates_marks (delayed r rest.0) rest.1.1)

  pub record Terminals (r : Reading) : Type 0 where
    pub more : List Terminal
    pub free : AreTerminalsAdmitted s.table r more
    pub whole : completed_cause s.table (fold use_terminal r more) ≡ None
    pub instances : Instances (completed s.table (fold use_terminal r more))

  abbrev pub terminals_marks : {r : Reading} → Terminals r → List Mark
  terminals_marks rest = terminals_then rest.more (instances_marks rest.instances)

  -- the first terminal, and what is left behind it
  abbrev pub First : Reading → Type 0
  First r = (first : Terminal) × (IsTerminalAdmitted s.table r first × Terminals (use_terminal r first))

  abbrev pub first_marks : (r : Reading) → First r → List Mark
  first_marks r rest = terminal_then rest.0 (terminals_marks rest.1.1)

  -- Instances of modules.

  pub record ModuleInstances (r : Reading) : Type 0 where
    pub more : List ModuleInstance
    pub free : AreModuleInstancesAdmitted s.table r more
    pub tail : Tail (fold after_module_instance r more)

  abbrev pub module_instances_marks : {r : Reading} → ModuleInstances r → List Mark
  module_instances_marks rest = module_instances_then rest.more (ended rest.tail)

  pub record Places (r : Reading) : Type 0 where
    pub places : List (Option Terminal)
    pub free : ArePlacesAdmitted s.table r places
    pub instances : ModuleInstances (instantiated (fold connect r places))

  abbrev pub places_marks : {r : Reading} → Places r → List Mark
  places_marks rest = places_then rest.places (module_instances_marks rest.instances)

  pub record NamedPorts (r : Reading) : Type 0 where
    pub more : List NamedPort
    pub free : AreNamedAdmitted s.table r more
    pub instances : ModuleInstances (instantiated (fold after_named r more))

  abbrev pub named_marks : {r : Reading} → NamedPorts r → List Mark
  named_marks rest = more_named_then rest.more (module_instances_marks rest.instances)

  -- what a port that was named is connected to, and what is left behind it
  abbrev pub NamedPlace : Reading → Type 0
  NamedPlace r = (place : Option Terminal) × (IsPlaceAdmitted s.table r place × NamedPorts (connect r place))

  abbrev pub named_place_marks : (r : Reading) → NamedPlace r → List Mark
  named_place_marks r rest = place_then rest.0 (plain Close ∷ named_marks rest.1.1)

  -- a connection by name
  abbrev pub NamedConnection : Reading → Type 0
  NamedConnection r = (c : NamedPort) × (IsPlaceAdmitted s.table (record r { port = Some c.port }) c.terminal × NamedPorts (after_named r c))

  abbrev pub named_connection_marks : (r : Reading) → NamedConnection r → List Mark
  named_connection_marks r rest = plain (Name rest.0.port) ∷ plain Open ∷ place_then rest.0.terminal (plain Close ∷ named_marks rest.1.1)

  -- connections of an instance
  abbrev pub Connected : Reading → Type 0
  Connected r = (connections : Connections) × (AreConnectionsAdmitted s.table r connections × ModuleInstances (instantiated (after_connections r connections)))

  abbrev pub connected_marks : (r : Reading) → Connected r → List Mark
  connected_marks r rest = connections_then rest.0 (module_instances_marks rest.1.1)

  -- Indexes.

  -- what is left behind a terminal that has an index
  abbrev pub Behind : Indexed → Reading → Type 0
  Behind indexed.Gate r = Terminals r
  Behind indexed.Ordered r = Places r
  Behind indexed.Named r = NamedPorts r

  abbrev pub behind_marks : (of : Indexed) (r : Reading) → Behind of r → List Mark
  behind_marks indexed.Gate r rest = terminals_marks rest
  behind_marks indexed.Ordered r rest = places_marks rest
  behind_marks indexed.Named r rest = plain Close ∷ named_marks rest

  -- an index
  abbrev pub Index : Indexed → Reading → Type 0
  Index of r = (i : ℕ) × ((index_cause r i ≡ None) × Behind of (add_bit of r i))

  abbrev pub index_marks : (of : Indexed) (r : Reading) → Index of r → List Mark
  index_marks of r rest = plain (Number rest.0) ∷ plain CloseBracket ∷ behind_marks of (add_bit of r rest.0) rest.1.1

  -- what a port is connected to by a terminal
  abbrev pub Terminated : Indexed → Reading → Type 0
  Terminated of r = (terminal : Terminal) × (IsPlaceAdmitted s.table r (Some terminal) × Behind of (connect r (Some terminal)))

  abbrev pub terminated_marks : (of : Indexed) (r : Reading) → Terminated of r → List Mark
  terminated_marks of r rest = terminal_then rest.0 (behind_marks of (connect r (Some rest.0)) rest.1.1)
