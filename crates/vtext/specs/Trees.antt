-- The grammar of structural Verilog (IEEE 1364-2005, annex A, of which this is a part; own) by its lines: the parts of a text as
-- trees, the words that write each of them, and what each of them says (7.1, 12.1, 12.3). Names are numbers of the table. Braces
-- mean any number of times.
--
--   text     : { timescale | module }
--   module   : "module" NAME optional( "(" optional(ports) ")" ) ";" { item } "endmodule"
--   ports    : NAME { "," NAME }                                   older form
--            | decl { "," decl | "," NAME }                        inline form
--   decl     : direction optional(net kind) optional(range) NAME
--   range    : "[" NUMBER ":" NUMBER "]"
--   item     : direction optional(net kind) optional(range) NAME { "," NAME } ";"
--            | net kind optional(range) NAME { "," NAME } ";"
--            | gate kind optional(delay) instance { "," instance } ";"
--            | NAME minst { "," minst } ";"
--   delay    : "#" NUMBER | "#" "(" NUMBER optional("," NUMBER optional("," NUMBER)) ")"
--   instance : optional(NAME) "(" terminal { "," terminal } ")"
--   minst    : NAME "(" optional(conns) ")"                        an instance of a module
--   conns    : optional(terminal) { "," optional(terminal) }       by order
--            | conn { "," conn }                                   by name
--   conn     : "." NAME "(" optional(terminal) ")"
--   terminal : NAME | NAME "[" NUMBER "]" | CONSTANT
--
-- No connections at all are none, and not one that is empty (own). Only a gate kind that takes a turn-off delay has a third number.
use Rattle.std.specs.Prelude.{◌≡◌, true, ℕ, List, [], ◌∷◌, MatchOption, Option, Some, None, fold, unwrap_or}
use Rattle.fourstate.specs.Delays.{delay_times, uniform_delays, with_off}
use Rattle.fourstate.specs.Gates.{takes_off}
use Rattle.fourstate.specs.declared.delay_times.DelayTimes.{DelayTimes}
use Rattle.fourstate.specs.declared.gate.GateKind.{GateKind}
use Rattle.fourstate.specs.declared.net.NetKind.{NetKind}
use Rattle.fourstate.specs.declared.unit.TimeUnit.{TimeUnit}
use Rattle.vtext.specs.declared.gate.Terminal.{Terminal}
use Rattle.vtext.specs.declared.gate.Terminal.TheVariants.{Net, Bit, Constant}
use Rattle.vtext.specs.declared.range.Range.{Range}
use Rattle.vtext.specs.declared.word.Direction.{Direction}
use Rattle.vtext.specs.declared.word.Word.{Word}
use Rattle.vtext.specs.declared.word.Word.TheVariants.{Module, Endmodule, PortWord, NetWord, GateWord, Name, Number, Literal, Open, Close, Comma, Semicolon, Hash, Dot, Colon, OpenBracket, CloseBracket, Timescale}
use Rattle.vtext.specs.declared.word.Placed.{Placed}
use Rattle.vtext.specs.Causes.{bound_cause, completed_cause, default_cause, delay_cause, direction_cause, end_cause, header_cause, index_cause, inline_cause, instance_cause, module_cause, net_cause, port_cause, terminal_cause, use_cause}
use Rattle.vtext.specs.Instances.{completed}
use Rattle.vtext.specs.Notes.{connect, declare_net, declare_port, direct_port, finished, instantiated, list_port, name_instance, name_module_instance, note_index, use_terminal}
use Rattle.vtext.specs.Readings.{Reading}

-- Trees.

-- a declaration of a port in a header: direction, net kind and range if they are written, name
pub record Decl : Type 0 where
  pub direction : Direction
  pub kind : Option NetKind
  pub range : Option Range
  pub name : ℕ

-- a port in a header of the inline form: a declaration, or a bare name
pub data Port : Type 0 where
  declared : Decl → Port
  bare : ℕ → Port

pub data Header : Type 0 where
  no_ports : Header
  empty_ports : Header
  older_ports : ℕ → List ℕ → Header
  inline_ports : Decl → List Port → Header

-- no delay; `#d`; `#(d)`; `#(r,f)`; `#(r,f,z)`
pub data Delay : Type 0 where
  no_delay : Delay
  one_delay : ℕ → Delay
  enclosed_delay : ℕ → Delay
  two_delays : ℕ → ℕ → Delay
  three_delays : ℕ → ℕ → ℕ → Delay

-- a gate instance: its name, if it has one, and its terminals
pub record Instance : Type 0 where
  pub name : Option ℕ
  pub first : Terminal
  pub more : List Terminal

-- a connection that names its port
pub record NamedPort : Type 0 where
  pub port : ℕ
  pub terminal : Option Terminal

-- port connections: none; by order, the first of them a terminal, or left empty before another one; by name
pub data Connections : Type 0 where
  no_connections : Connections
  by_order : Terminal → List (Option Terminal) → Connections
  by_order_late : Option Terminal → List (Option Terminal) → Connections
  by_name : NamedPort → List NamedPort → Connections

-- an instance of a module: where its name begins, its name, and its port connections
pub record ModuleInstance : Type 0 where
  pub start : ℕ
  pub name : ℕ
  pub connections : Connections

pub data Item : Type 0 where
  port_item : Direction → Option NetKind → Option Range → ℕ → List ℕ → Item
  net_item : NetKind → Option Range → ℕ → List ℕ → Item
  gate_item : GateKind → Delay → Instance → List Instance → Item
  instance_item : ℕ → ModuleInstance → List ModuleInstance → Item

-- a module: where its word `module` begins, its name, its header and its items
pub record ModuleTree : Type 0 where
  pub start : ℕ
  pub name : ℕ
  pub header : Header
  pub items : List Item

-- Marks: what a part writes for each of its words, and, where it records where a word begins, that place.

pub record Mark : Type 0 where
  pub word : Word
  pub start : Option ℕ

abbrev pub plain : Word → Mark
plain word = record { word = word; start = None }

abbrev pub at_place : ℕ → Word → Mark
at_place start word = record { word = word; start = Some start }

-- Below, the marks of a part, and then the rest.

abbrev pub names_then : List ℕ → List Mark → List Mark
names_then [] rest = rest
names_then (n ∷ names) rest = plain Comma ∷ plain (Name n) ∷ names_then names rest

abbrev pub kind_then : Option NetKind → List Mark → List Mark
kind_then None rest = rest
kind_then (Some kind) rest = plain (NetWord kind) ∷ rest

abbrev pub range_then : Option Range → List Mark → List Mark
range_then None rest = rest
range_then (Some range) rest =
    plain OpenBracket ∷ plain (Number range.left) ∷ plain Colon ∷ plain (Number range.right) ∷ plain CloseBracket ∷ rest

abbrev pub decl_then : Decl → List Mark → List Mark
decl_then decl rest = plain (PortWord decl.direction) ∷ kind_then decl.kind (range_then decl.range (plain (Name decl.name) ∷ rest))

abbrev pub ports_then : List Port → List Mark → List Mark
ports_then [] rest = rest
ports_then (declared decl ∷ ports) rest = plain Comma ∷ decl_then decl (ports_then ports rest)
ports_then (bare n ∷ ports) rest = plain Comma ∷ plain (Name n) ∷ ports_then ports rest

abbrev pub header_then : Header → List Mark → List Mark
header_then no_ports rest = plain Semicolon ∷ rest
header_then empty_ports rest = plain Open ∷ plain Close ∷ plain Semicolon ∷ rest
header_then (older_ports n names) rest = plain Open ∷ plain (Name n) ∷ names_then names (plain Close ∷ plain Semicolon ∷ rest)
header_then (inline_ports decl ports) rest = plain Open ∷ decl_then decl (ports_then ports (plain Close ∷ plain Semicolon ∷ rest))

abbrev pub delay_then : Delay → List Mark → List Mark
delay_then no_delay rest = rest
delay_then (one_delay d) rest = plain Hash ∷ plain (Number d) ∷ rest
delay_then (enclosed_delay d) rest = plain Hash ∷ plain Open ∷ plain (Number d) ∷ plain Close ∷ rest
delay_then (two_delays r f) rest = plain Hash ∷ plain Open ∷ plain (Number r) ∷ plain Comma ∷ plain (Number f) ∷ plain Close ∷ rest
delay_then (three_delays r f z) rest =
    plain Hash ∷ plain Open ∷ plain (Number r) ∷ plain Comma ∷ plain (Number f) ∷ plain Comma ∷ plain (Number z) ∷ plain Close ∷ rest

abbrev pub terminal_then : Terminal → List Mark → List Mark
terminal_then (Net n) rest = plain (Name n) ∷ rest
terminal_then (Bit n i) rest = plain (Name n) ∷ plain OpenBracket ∷ plain (Number i) ∷ plain CloseBracket ∷ rest
terminal_then (Constant value) rest = plain (Literal value) ∷ rest

abbrev pub terminals_then : List Terminal → List Mark → List Mark
terminals_then [] rest = plain Close ∷ rest
terminals_then (terminal ∷ terminals) rest = plain Comma ∷ terminal_then terminal (terminals_then terminals rest)

abbrev pub name_then : Option ℕ → List Mark → List Mark
name_then None rest = rest
name_then (Some n) rest = plain (Name n) ∷ rest

abbrev pub instance_then : Instance → List Mark → List Mark
instance_then instance rest = name_then instance.name (plain Open ∷ terminal_then instance.first (terminals_then instance.more rest))

abbrev pub instances_then : List Instance → List Mark → List Mark
instances_then [] rest = rest
instances_then (instance ∷ instances) rest = plain Comma ∷ instance_then instance (instances_then instances rest)

-- what may be left empty
abbrev pub place_then : Option Terminal → List Mark → List Mark
place_then None rest = rest
place_then (Some terminal) rest = terminal_then terminal rest

abbrev pub places_then : List (Option Terminal) → List Mark → List Mark
places_then [] rest = plain Close ∷ rest
places_then (place ∷ places) rest = plain Comma ∷ place_then place (places_then places rest)

abbrev pub named_then : NamedPort → List Mark → List Mark
named_then connection rest = plain Dot ∷ plain (Name connection.port) ∷ plain Open ∷ place_then connection.terminal (plain Close ∷ rest)

abbrev pub more_named_then : List NamedPort → List Mark → List Mark
more_named_then [] rest = plain Close ∷ rest
more_named_then (connection ∷ more) rest = plain Comma ∷ named_then connection (more_named_then more rest)

abbrev pub connections_then : Connections → List Mark → List Mark
connections_then no_connections rest = plain Close ∷ rest
connections_then (by_order terminal places) rest = terminal_then terminal (places_then places rest)
connections_then (by_order_late place places) rest = plain Comma ∷ place_then place (places_then places rest)
connections_then (by_name first more) rest = named_then first (more_named_then more rest)

abbrev pub module_instance_then : ModuleInstance → List Mark → List Mark
module_instance_then instance rest = at_place instance.start (Name instance.name) ∷ plain Open ∷ connections_then instance.connections rest

abbrev pub module_instances_then : List ModuleInstance → List Mark → List Mark
module_instances_then [] rest = rest
module_instances_then (instance ∷ instances) rest = plain Comma ∷ module_instance_then instance (module_instances_then instances rest)

abbrev pub item_then : Item → List Mark → List Mark
item_then (port_item direction kind range n names) rest =
    plain (PortWord direction) ∷ kind_then kind (range_then range (plain (Name n) ∷ names_then names (plain Semicolon ∷ rest)))
item_then (net_item kind range n names) rest =
    plain (NetWord kind) ∷ range_then range (plain (Name n) ∷ names_then names (plain Semicolon ∷ rest))
item_then (gate_item kind delay instance instances) rest =
    plain (GateWord kind) ∷ delay_then delay (instance_then instance (instances_then instances (plain Semicolon ∷ rest)))
item_then (instance_item of instance instances) rest =
    plain (Name of) ∷ module_instance_then instance (module_instances_then instances (plain Semicolon ∷ rest))

abbrev pub items_then : List Item → List Mark → List Mark
items_then [] rest = rest
items_then (item ∷ items) rest = item_then item (items_then items rest)

abbrev pub module_then : ModuleTree → List Mark → List Mark
module_then m rest = at_place m.start Module ∷ plain (Name m.name) ∷ header_then m.header (items_then m.items (plain Endmodule ∷ rest))

-- What they say.

abbrev pub after_decl : Reading → Decl → Reading
after_decl r decl = declare_port (record r { direction = decl.direction; kind = decl.kind; range = decl.range }) decl.name

abbrev pub after_port : Reading → Port → Reading
after_port r (declared decl) = after_decl r decl
after_port r (bare n) = declare_port r n

abbrev pub after_header : Reading → Header → Reading
after_header r no_ports = r
after_header r empty_ports = r
after_header r (older_ports n names) = fold list_port r (n ∷ names)
after_header r (inline_ports decl ports) = fold after_port (after_decl (record r { inline = true }) decl) ports

-- one number is each delay; of more the first is the rise, the second the fall and the third the turn-off delay
abbrev pub times_of : Option ℕ → Delay → DelayTimes
times_of default no_delay = uniform_delays (unwrap_or default 0)
times_of default (one_delay d) = uniform_delays d
times_of default (enclosed_delay d) = uniform_delays d
times_of default (two_delays r f) = delay_times r f
times_of default (three_delays r f z) = with_off (delay_times r f) z

abbrev pub after_name : Reading → Option ℕ → Reading
after_name r None = record r { instance = None }
after_name r (Some n) = name_instance r n

abbrev pub after_terminals : Reading → Instance → Reading
after_terminals r instance = fold use_terminal (after_name r instance.name) (instance.first ∷ instance.more)

abbrev pub after_instance : List (List ℕ) → Reading → Instance → Reading
after_instance table r instance = completed table (after_terminals r instance)

abbrev pub after_gate : Option ℕ → Reading → GateKind → Delay → Reading
after_gate default r kind delay = record r { gate = kind; delays = times_of default delay }

abbrev pub after_named : Reading → NamedPort → Reading
after_named r connection = connect (record r { port = Some connection.port }) connection.terminal

abbrev pub after_connections : Reading → Connections → Reading
after_connections r no_connections = r
after_connections r (by_order terminal places) = fold connect r (Some terminal ∷ places)
after_connections r (by_order_late place places) = fold connect r (None ∷ place ∷ places)
after_connections r (by_name first more) = fold after_named r (first ∷ more)

abbrev pub after_module_instance : Reading → ModuleInstance → Reading
after_module_instance r instance = instantiated (after_connections (name_module_instance r instance.start instance.name) instance.connections)

abbrev pub after_item : Option ℕ → List (List ℕ) → Reading → Item → Reading
after_item default table r (port_item direction kind range n names) =
    fold direct_port (record r { direction = direction; kind = kind; range = range }) (n ∷ names)
after_item default table r (net_item kind range n names) = fold declare_net (record r { kind = Some kind; range = range }) (n ∷ names)
after_item default table r (gate_item kind delay instance instances) = fold (after_instance table) (after_gate default r kind delay) (instance ∷ instances)
after_item default table r (instance_item of instance instances) = fold after_module_instance (record r { of = of }) (instance ∷ instances)

abbrev pub after_items : Option ℕ → List (List ℕ) → Reading → List Item → Reading
after_items default table r items = fold (after_item default table) r items

-- Conditions: no cause holds at any word, given what has been read before it. Below, `r` is what has been read before a part.

-- each of a list is admitted, after what those before it say
abbrev pub AreAdmitted : {X : Type 0} → (Reading → X → Reading) → (Reading → X → Type 0) → Reading → List X → Type 0
AreAdmitted after P r [] = Unit {0}
AreAdmitted after P r (x ∷ more) = P r x × AreAdmitted after P (after r x) more

-- both bounds of a range are within the limit
abbrev pub IsRangeAdmitted : Option Range → Type 0
IsRangeAdmitted None = Unit {0}
IsRangeAdmitted (Some range) = (bound_cause range.left ≡ None) × (bound_cause range.right ≡ None)

-- of a gate of this kind
abbrev pub IsDelayAdmitted : Option ℕ → GateKind → Delay → Type 0
IsDelayAdmitted default kind no_delay = default_cause default ≡ None
IsDelayAdmitted default kind (one_delay d) = delay_cause d ≡ None
IsDelayAdmitted default kind (enclosed_delay d) = delay_cause d ≡ None
IsDelayAdmitted default kind (two_delays r f) = (delay_cause r ≡ None) × (delay_cause f ≡ None)
IsDelayAdmitted default kind (three_delays r f z) =
    (takes_off kind ≡ true) × (delay_cause r ≡ None) × (delay_cause f ≡ None) × (delay_cause z ≡ None)

abbrev pub IsNameAdmitted : Reading → Option ℕ → Type 0
IsNameAdmitted r None = Unit {0}
IsNameAdmitted r (Some n) = instance_cause r n ≡ None

module _ (table : List (List ℕ)) where
  -- an index is that of a bit
  abbrev pub IsBitAdmitted : Reading → ℕ → ℕ → Type 0
  IsBitAdmitted r n i = (use_cause table r n ≡ None) × (index_cause (note_index r n) i ≡ None)

  -- a terminal of a gate
  abbrev pub IsTerminalAdmitted : Reading → Terminal → Type 0
  IsTerminalAdmitted r (Net n) = terminal_cause table r n ≡ None
  IsTerminalAdmitted r (Bit n i) = IsBitAdmitted r n i
  IsTerminalAdmitted r (Constant value) = Unit {0}

  abbrev pub AreTerminalsAdmitted : Reading → List Terminal → Type 0
  AreTerminalsAdmitted = AreAdmitted use_terminal IsTerminalAdmitted

  pub record IsInstanceAdmitted (r : Reading) (instance : Instance) : Type 0 where
    pub name : IsNameAdmitted r instance.name
    pub terminals : AreTerminalsAdmitted (after_name r instance.name) (instance.first ∷ instance.more)
    pub whole : completed_cause table (after_terminals r instance) ≡ None

  abbrev pub AreInstancesAdmitted : Reading → List Instance → Type 0
  AreInstancesAdmitted = AreAdmitted (after_instance table) IsInstanceAdmitted

  -- what a port is connected to, if anything: a whole vector may be
  abbrev pub IsPlaceAdmitted : Reading → Option Terminal → Type 0
  IsPlaceAdmitted r None = Unit {0}
  IsPlaceAdmitted r (Some (Net n)) = use_cause table r n ≡ None
  IsPlaceAdmitted r (Some (Bit n i)) = IsBitAdmitted r n i
  IsPlaceAdmitted r (Some (Constant value)) = Unit {0}

  abbrev pub ArePlacesAdmitted : Reading → List (Option Terminal) → Type 0
  ArePlacesAdmitted = AreAdmitted connect IsPlaceAdmitted

  abbrev pub IsNamedAdmitted : Reading → NamedPort → Type 0
  IsNamedAdmitted r connection = IsPlaceAdmitted (record r { port = Some connection.port }) connection.terminal

  abbrev pub AreNamedAdmitted : Reading → List NamedPort → Type 0
  AreNamedAdmitted = AreAdmitted after_named IsNamedAdmitted

  abbrev pub AreConnectionsAdmitted : Reading → Connections → Type 0
  AreConnectionsAdmitted r no_connections = Unit {0}
  AreConnectionsAdmitted r (by_order terminal places) = ArePlacesAdmitted r (Some terminal ∷ places)
  AreConnectionsAdmitted r (by_order_late place places) = ArePlacesAdmitted r (None ∷ place ∷ places)
  AreConnectionsAdmitted r (by_name first more) = AreNamedAdmitted r (first ∷ more)

  pub record IsModuleInstanceAdmitted (r : Reading) (instance : ModuleInstance) : Type 0 where
    pub name : instance_cause r instance.name ≡ None
    pub connections : AreConnectionsAdmitted (name_module_instance r instance.start instance.name) instance.connections

  abbrev pub AreModuleInstancesAdmitted : Reading → List ModuleInstance → Type 0
  AreModuleInstancesAdmitted = AreAdmitted after_module_instance IsModuleInstanceAdmitted

  abbrev pub IsDeclAdmitted : Reading → Decl → Type 0
  IsDeclAdmitted r decl =
      IsRangeAdmitted decl.range × (inline_cause table (record r { direction = decl.direction; kind = decl.kind; range = decl.range }) decl.name ≡ None)

  abbrev pub IsPortAdmitted : Reading → Port → Type 0
  IsPortAdmitted r (declared decl) = IsDeclAdmitted r decl
  IsPortAdmitted r (bare n) = inline_cause table r n ≡ None

  abbrev pub ArePortsAdmitted : Reading → List Port → Type 0
  ArePortsAdmitted = AreAdmitted after_port IsPortAdmitted

  abbrev pub IsHeaderAdmitted : Reading → Header → Type 0
  IsHeaderAdmitted r no_ports = Unit {0}
  IsHeaderAdmitted r empty_ports = Unit {0}
  IsHeaderAdmitted r (older_ports n names) = AreAdmitted list_port (λ now name. header_cause now name ≡ None) r (n ∷ names)
  IsHeaderAdmitted r (inline_ports decl ports) =
      IsDeclAdmitted (record r { inline = true }) decl × ArePortsAdmitted (after_decl (record r { inline = true }) decl) ports

module _ (default : Option ℕ) (table : List (List ℕ)) where
  abbrev pub IsItemAdmitted : Reading → Item → Type 0
  IsItemAdmitted r (port_item direction kind range n names) =
      (direction_cause r ≡ None) × IsRangeAdmitted range
      × AreAdmitted direct_port (λ now name. port_cause table now name ≡ None) (record r { direction = direction; kind = kind; range = range }) (n ∷ names)
  IsItemAdmitted r (net_item kind range n names) =
      IsRangeAdmitted range × AreAdmitted declare_net (λ now name. net_cause table now name ≡ None) (record r { kind = Some kind; range = range }) (n ∷ names)
  IsItemAdmitted r (gate_item kind delay instance instances) =
      IsDelayAdmitted default kind delay × AreInstancesAdmitted table (after_gate default r kind delay) (instance ∷ instances)
  IsItemAdmitted r (instance_item of instance instances) = AreModuleInstancesAdmitted table (record r { of = of }) (instance ∷ instances)

  abbrev pub AreItemsAdmitted : Reading → List Item → Type 0
  AreItemsAdmitted = AreAdmitted (after_item default table) IsItemAdmitted

  -- Modules.

  -- what is read of a module before its items, and before its word `endmodule`
  abbrev pub after_head : Reading → ModuleTree → Reading
  after_head r m = after_header (record r { start = m.start; name = m.name }) m.header

  abbrev pub after_body : Reading → ModuleTree → Reading
  after_body r m = after_items default table (after_head r m) m.items

  -- the name is free, header and items are admitted, and each name of the header has a direction in the end
  pub record IsModuleAdmitted (r : Reading) (m : ModuleTree) : Type 0 where
    pub free : module_cause r m.name ≡ None
    pub header_admitted : IsHeaderAdmitted table (record r { start = m.start; name = m.name }) m.header
    pub items_admitted : AreItemsAdmitted (after_head r m) m.items
    pub directed : end_cause (after_body r m) ≡ None

-- Texts: directives and modules in any order.

pub data Part : Type 0 where
  directive : TimeUnit → Part
  module_part : ModuleTree → Part

abbrev pub parts_then : List Part → List Mark → List Mark
parts_then [] rest = rest
parts_then (directive unit ∷ parts) rest = plain (Timescale unit) ∷ parts_then parts rest
parts_then (module_part m ∷ parts) rest = module_then m (parts_then parts rest)

-- a word is that of a mark, and begins where the mark says, if it says where
abbrev pub IsMarked : Mark → Placed → Type 0
IsMarked mark p = (p.word ≡ mark.word) × MatchOption mark.start (Unit {0}) (λ start. p.start ≡ start)

-- the words are those of the marks, one by one
abbrev pub AreMarked : List Mark → List Placed → Type 0
AreMarked [] [] = Unit {0}
AreMarked (mark ∷ marks) (p ∷ words) = IsMarked mark p × AreMarked marks words
AreMarked marks words = ⊥

-- the parts are written by these words
abbrev pub AreWritten : List Part → List Placed → Type 0
AreWritten parts words = AreMarked (parts_then parts []) words

module _ (default : Option ℕ) (table : List (List ℕ)) where
  abbrev pub after_part : Reading → Part → Reading
  after_part r (directive unit) = record r { unit = Some unit }
  after_part r (module_part m) = finished (after_body default table r m)

  abbrev pub after_parts : Reading → List Part → Reading
  after_parts r parts = fold after_part r parts

  abbrev pub IsPartAdmitted : Reading → Part → Type 0
  IsPartAdmitted r (directive unit) = Unit {0}
  IsPartAdmitted r (module_part m) = IsModuleAdmitted default table r m

  abbrev pub ArePartsAdmitted : Reading → List Part → Type 0
  ArePartsAdmitted = AreAdmitted after_part IsPartAdmitted
