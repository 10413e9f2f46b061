-- What each state of the parser does with a word: where it leads, and what has been read then, or why it is refused. The grammar
-- itself is in Trees.antt.
use Rattle.std.specs.Prelude.{true, ℕ, List, Option, Some, None, if◌then◌else◌, option_map, unwrap_or, Result, Ok, Err}
use Rattle.fourstate.specs.Delays.{uniform_delays, with_fall, with_off}
use Rattle.fourstate.specs.Gates.{takes_off}
use Rattle.fourstate.specs.declared.delay_times.DelayTimes.{DelayTimes}
use Rattle.vtext.specs.declared.cause.Cause.{Cause}
use Rattle.vtext.specs.declared.cause.Cause.TheVariants.{BadName}
use Rattle.vtext.specs.declared.gate.Terminal.TheVariants.{Constant, Net}
use Rattle.vtext.specs.declared.parser_state.Declared.{Declared}
use Rattle.vtext.specs.declared.parser_state.Declared.TheVariants as declared
use Rattle.vtext.specs.declared.parser_state.DelayNumber.{DelayNumber}
use Rattle.vtext.specs.declared.parser_state.DelayNumber.TheVariants as number
use Rattle.vtext.specs.declared.parser_state.Indexed.{Indexed}
use Rattle.vtext.specs.declared.parser_state.Indexed.TheVariants as indexed
use Rattle.vtext.specs.declared.range.Range.{Range}
use Rattle.vtext.specs.declared.parser_state.ParserState.{ParserState}
use Rattle.vtext.specs.declared.parser_state.ParserState.TheVariants as state
use Rattle.vtext.specs.declared.word.Word.{Word}
use Rattle.vtext.specs.declared.word.Word.TheVariants.{Module, Endmodule, PortWord, NetWord, GateWord, Name, Misnamed, Number, Literal, Open, Close, Comma, Semicolon, Hash, Dot, Colon, OpenBracket, CloseBracket, Timescale}
use Rattle.vtext.specs.declared.word.Placed.{Placed}
use Rattle.vtext.specs.Causes.{bound_cause, completed_cause, delay_cause, direction_cause, end_cause, gate_cause, header_cause, index_cause, inline_cause, instance_cause, is_index, misfit, module_cause, net_cause, port_cause, terminal_cause, use_cause}
use Rattle.vtext.specs.Instances.{completed}
use Rattle.vtext.specs.Notes.{add_bit, connect, declare_net, declare_port, direct_port, finished, instantiated, list_port, name_instance, name_module_instance, note_index, use_terminal}
use Rattle.vtext.specs.Readings.{Reading}

-- where a walk stands, and what has been read
pub record Walk : Type 0 where
  pub state : ParserState
  pub so_far : Reading

abbrev pub goes : ParserState → Reading → Result Walk Cause
goes to r = Ok (record { state = to; so_far = r })

-- a word is refused where a cause holds
abbrev pub unless : Option Cause → Result Walk Cause → Result Walk Cause
unless None goes_on = goes_on
unless (Some why) goes_on = Err why

-- Modules.

abbrev pub outside : Reading → ℕ → Word → Result Walk Cause
outside r start (Timescale unit) = goes state.Outside (record r { unit = Some unit })
outside r start Module = goes state.ModuleName (record r { start = start })
outside r start word = Err (misfit word)

abbrev pub module_name : Reading → Word → Result Walk Cause
module_name r (Name n) = unless (module_cause r n) (goes state.ModuleHead (record r { name = n }))
module_name r Misnamed = Err BadName
module_name r word = Err (misfit word)

abbrev pub module_head : Reading → Word → Result Walk Cause
module_head r Open = goes state.Header r
module_head r Semicolon = goes state.Items r
module_head r word = Err (misfit word)

-- Ranges of declarations.

abbrev pub left_bound : Declared → Reading → Word → Result Walk Cause
left_bound of r (Number n) = unless (bound_cause n) (goes (state.BoundColon of) (record r { range = Some (record { left = n; right = n }) }))
left_bound of r word = Err (misfit word)

abbrev pub bound_colon : Declared → Reading → Word → Result Walk Cause
bound_colon of r Colon = goes (state.RightBound of) r
bound_colon of r word = Err (misfit word)

-- the range of this right bound
abbrev pub with_right : Option Range → ℕ → Option Range
with_right range n = option_map (λ (r : Range). record r { right = n }) range

abbrev pub right_bound : Declared → Reading → Word → Result Walk Cause
right_bound of r (Number n) = unless (bound_cause n) (goes (state.RangeEnd of) (record r { range = with_right r.range n }))
right_bound of r word = Err (misfit word)

-- where the names of a declaration are read
abbrev pub names_of : Declared → ParserState
names_of declared.InlinePort = state.InlineName
names_of declared.Port = state.PortName
names_of declared.Net = state.NetName

abbrev pub range_end : Declared → Reading → Word → Result Walk Cause
range_end of r CloseBracket = goes (names_of of) r
range_end of r word = Err (misfit word)

-- Headers.

abbrev pub older_name : Reading → Word → Result Walk Cause
older_name r (Name n) = unless (header_cause r n) (goes state.OlderNext (list_port r n))
older_name r Misnamed = Err BadName
older_name r word = Err (misfit word)

abbrev pub header : Reading → Word → Result Walk Cause
header r (PortWord direction) = goes state.InlineStart (record r { inline = true; direction = direction; kind = None; range = None })
header r Close = goes state.HeaderEnd r
header r word = older_name r word

abbrev pub older_next : Reading → Word → Result Walk Cause
older_next r Comma = goes state.OlderName r
older_next r Close = goes state.HeaderEnd r
older_next r word = Err (misfit word)

abbrev pub inline_name : List (List ℕ) → Reading → Word → Result Walk Cause
inline_name names r (Name n) = unless (inline_cause names r n) (goes state.InlineNext (declare_port r n))
inline_name names r Misnamed = Err BadName
inline_name names r word = Err (misfit word)

abbrev pub inline_kind : List (List ℕ) → Reading → Word → Result Walk Cause
inline_kind names r OpenBracket = goes (state.LeftBound declared.InlinePort) r
inline_kind names r word = inline_name names r word

abbrev pub inline_start : List (List ℕ) → Reading → Word → Result Walk Cause
inline_start names r (NetWord kind) = goes state.InlineKind (record r { kind = Some kind })
inline_start names r word = inline_kind names r word

abbrev pub inline_next : Reading → Word → Result Walk Cause
inline_next r Comma = goes state.InlineMore r
inline_next r Close = goes state.HeaderEnd r
inline_next r word = Err (misfit word)

abbrev pub inline_more : List (List ℕ) → Reading → Word → Result Walk Cause
inline_more names r (PortWord direction) = goes state.InlineStart (record r { direction = direction; kind = None; range = None })
inline_more names r word = inline_name names r word

abbrev pub header_end : Reading → Word → Result Walk Cause
header_end r Semicolon = goes state.Items r
header_end r word = Err (misfit word)

-- Items.

-- without a delay of its own a gate has the default one
abbrev pub items : Option ℕ → Reading → Word → Option Word → Result Walk Cause
items default r (PortWord direction) after = unless (direction_cause r) (goes state.PortStart (record r { direction = direction; kind = None; range = None }))
items default r (NetWord kind) after = goes state.NetStart (record r { kind = Some kind; range = None })
items default r (GateWord kind) after =
    unless (gate_cause default after) (goes state.GateStart (record r { gate = kind; delays = uniform_delays (unwrap_or default 0) }))
items default r Endmodule after = unless (end_cause r) (goes state.Outside (finished r))
items default r (Name n) after = goes state.ModuleInstanceName (record r { of = n })
items default r Misnamed after = Err BadName
items default r word after = Err (misfit word)

-- another one of a list, or its end
abbrev pub list_next : ParserState → Reading → Word → Result Walk Cause
list_next more r Comma = goes more r
list_next more r Semicolon = goes state.Items r
list_next more r word = Err (misfit word)

abbrev pub port_name : List (List ℕ) → Reading → Word → Result Walk Cause
port_name names r (Name n) = unless (port_cause names r n) (goes state.PortNext (direct_port r n))
port_name names r word = Err (misfit word)

abbrev pub port_kind : List (List ℕ) → Reading → Word → Result Walk Cause
port_kind names r OpenBracket = goes (state.LeftBound declared.Port) r
port_kind names r word = port_name names r word

abbrev pub port_start : List (List ℕ) → Reading → Word → Result Walk Cause
port_start names r (NetWord kind) = goes state.PortKind (record r { kind = Some kind })
port_start names r word = port_kind names r word

abbrev pub net_name : List (List ℕ) → Reading → Word → Result Walk Cause
net_name names r (Name n) = unless (net_cause names r n) (goes state.NetNext (declare_net r n))
net_name names r Misnamed = Err BadName
net_name names r word = Err (misfit word)

abbrev pub net_start : List (List ℕ) → Reading → Word → Result Walk Cause
net_start names r OpenBracket = goes (state.LeftBound declared.Net) r
net_start names r word = net_name names r word

-- Indexes of terminals.

-- a net that an index follows is named
abbrev pub index_name : Indexed → List (List ℕ) → Reading → ℕ → Result Walk Cause
index_name of names r n = unless (use_cause names r n) (goes (state.IndexStart of) (note_index r n))

abbrev pub index_start : Indexed → Reading → Word → Result Walk Cause
index_start of r OpenBracket = goes (state.Index of) r
index_start of r word = Err (misfit word)

abbrev pub index : Indexed → Reading → Word → Result Walk Cause
index of r (Number n) = unless (index_cause r n) (goes (state.IndexEnd of) (add_bit of r n))
index of r word = Err (misfit word)

-- behind a terminal that has an index
abbrev pub behind : Indexed → ParserState
behind indexed.Gate = state.TerminalEnd
behind indexed.Ordered = state.OrderedEnd
behind indexed.Named = state.NamedClose

abbrev pub index_end : Indexed → Reading → Word → Result Walk Cause
index_end of r CloseBracket = goes (behind of) r
index_end of r word = Err (misfit word)

-- Gates.

abbrev pub instance_start : Reading → Word → Result Walk Cause
instance_start r (Name n) = unless (instance_cause r n) (goes state.InstanceOpen (name_instance r n))
instance_start r Misnamed = Err BadName
instance_start r Open = goes state.TerminalStart (record r { instance = None })
instance_start r word = Err (misfit word)

abbrev pub gate_start : Reading → Word → Result Walk Cause
gate_start r Hash = goes state.Delay r
gate_start r word = instance_start r word

-- the first number of a delay is the second one too where none follows; the third is the turn-off delay
abbrev pub with_number : DelayTimes → DelayNumber → ℕ → DelayTimes
with_number delays number.Rise n = uniform_delays n
with_number delays number.Fall n = with_fall delays n
with_number delays number.Off n = with_off delays n

abbrev pub delay_number : DelayNumber → ParserState → Reading → Word → Result Walk Cause
delay_number of to r (Number n) = unless (delay_cause n) (goes to (record r { delays = with_number r.delays of n }))
delay_number of to r word = Err (misfit word)

abbrev pub delay : Reading → Word → Result Walk Cause
delay r Open = goes state.RiseDelay r
delay r word = delay_number number.Rise state.InstanceStart r word

abbrev pub rise_end : Reading → Word → Result Walk Cause
rise_end r Comma = goes state.FallDelay r
rise_end r Close = goes state.InstanceStart r
rise_end r word = Err (misfit word)

-- a third number follows only where the kind of the gate takes a turn-off delay
abbrev pub fall_end : Reading → Word → Result Walk Cause
fall_end r Comma = if takes_off r.gate then goes state.OffDelay r else Err (misfit Comma)
fall_end r Close = goes state.InstanceStart r
fall_end r word = Err (misfit word)

abbrev pub off_end : Reading → Word → Result Walk Cause
off_end r Close = goes state.InstanceStart r
off_end r word = Err (misfit word)

abbrev pub instance_open : Reading → Word → Result Walk Cause
instance_open r Open = goes state.TerminalStart r
instance_open r word = Err (misfit word)

-- a terminal without an index
abbrev pub plain_terminal : List (List ℕ) → Reading → ℕ → Result Walk Cause
plain_terminal names r n = unless (terminal_cause names r n) (goes state.TerminalEnd (use_terminal r (Net n)))

abbrev pub terminal_start : List (List ℕ) → Reading → Word → Option Word → Result Walk Cause
terminal_start names r (Name n) after = if is_index after then index_name indexed.Gate names r n else plain_terminal names r n
terminal_start names r Misnamed after = Err BadName
terminal_start names r (Literal value) after = goes state.TerminalEnd (use_terminal r (Constant value))
terminal_start names r word after = Err (misfit word)

abbrev pub terminal_end : List (List ℕ) → Reading → Word → Result Walk Cause
terminal_end names r Comma = goes state.TerminalStart r
terminal_end names r Close = unless (completed_cause names r) (goes state.InstanceEnd (completed names r))
terminal_end names r word = Err (misfit word)

-- Instances of modules.

abbrev pub module_instance_name : Reading → ℕ → Word → Result Walk Cause
module_instance_name r start (Name n) = unless (instance_cause r n) (goes state.ModuleInstanceOpen (name_module_instance r start n))
module_instance_name r start Misnamed = Err BadName
module_instance_name r start word = Err (misfit word)

abbrev pub module_instance_open : Reading → Word → Result Walk Cause
module_instance_open r Open = goes state.Connections r
module_instance_open r word = Err (misfit word)

-- a net that a port is connected to, a scalar or a whole vector
abbrev pub plain_connection : Indexed → List (List ℕ) → Reading → ℕ → Result Walk Cause
plain_connection of names r n = unless (use_cause names r n) (goes (behind of) (connect r (Some (Net n))))

-- what a port is connected to
abbrev pub connected : Indexed → List (List ℕ) → Reading → Word → Option Word → Result Walk Cause
connected of names r (Name n) after = if is_index after then index_name of names r n else plain_connection of names r n
connected of names r Misnamed after = Err BadName
connected of names r (Literal value) after = goes (behind of) (connect r (Some (Constant value)))
connected of names r word after = Err (misfit word)

abbrev pub connections : List (List ℕ) → Reading → Word → Option Word → Result Walk Cause
connections names r Close after = goes state.ModuleInstanceEnd (instantiated r)
connections names r Dot after = goes state.NamedPort r
connections names r Comma after = goes state.OrderedStart (connect r None)
connections names r word after = connected indexed.Ordered names r word after

abbrev pub ordered_start : List (List ℕ) → Reading → Word → Option Word → Result Walk Cause
ordered_start names r Comma after = goes state.OrderedStart (connect r None)
ordered_start names r Close after = goes state.ModuleInstanceEnd (instantiated (connect r None))
ordered_start names r word after = connected indexed.Ordered names r word after

abbrev pub ordered_end : Reading → Word → Result Walk Cause
ordered_end r Comma = goes state.OrderedStart r
ordered_end r Close = goes state.ModuleInstanceEnd (instantiated r)
ordered_end r word = Err (misfit word)

abbrev pub named_start : Reading → Word → Result Walk Cause
named_start r Dot = goes state.NamedPort r
named_start r word = Err (misfit word)

abbrev pub named_port : Reading → Word → Result Walk Cause
named_port r (Name n) = goes state.NamedOpen (record r { port = Some n })
named_port r Misnamed = Err BadName
named_port r word = Err (misfit word)

abbrev pub named_open : Reading → Word → Result Walk Cause
named_open r Open = goes state.NamedTerminal r
named_open r word = Err (misfit word)

abbrev pub named_terminal : List (List ℕ) → Reading → Word → Option Word → Result Walk Cause
named_terminal names r Close after = goes state.NamedEnd (connect r None)
named_terminal names r word after = connected indexed.Named names r word after

abbrev pub named_close : Reading → Word → Result Walk Cause
named_close r Close = goes state.NamedEnd r
named_close r word = Err (misfit word)

abbrev pub named_end : Reading → Word → Result Walk Cause
named_end r Comma = goes state.NamedStart r
named_end r Close = goes state.ModuleInstanceEnd (instantiated r)
named_end r word = Err (misfit word)

-- A word in any state. `default` is the delay of a gate item without one, `names` the table of names, and `after` the word after it,
-- which is looked at where a delay or an index may follow.
abbrev pub turn : Option ℕ → List (List ℕ) → Reading → ParserState → Placed → Option Word → Result Walk Cause
turn default names r state.Outside next after = outside r next.start next.word
turn default names r state.ModuleName next after = module_name r next.word
turn default names r state.ModuleHead next after = module_head r next.word
turn default names r state.Header next after = header r next.word
turn default names r state.OlderNext next after = older_next r next.word
turn default names r state.OlderName next after = older_name r next.word
turn default names r state.InlineStart next after = inline_start names r next.word
turn default names r state.InlineKind next after = inline_kind names r next.word
turn default names r state.InlineName next after = inline_name names r next.word
turn default names r state.InlineNext next after = inline_next r next.word
turn default names r state.InlineMore next after = inline_more names r next.word
turn default names r state.HeaderEnd next after = header_end r next.word
turn default names r state.Items next after = items default r next.word after
turn default names r state.PortStart next after = port_start names r next.word
turn default names r state.PortKind next after = port_kind names r next.word
turn default names r state.PortName next after = port_name names r next.word
turn default names r state.PortNext next after = list_next state.PortName r next.word
turn default names r state.NetStart next after = net_start names r next.word
turn default names r state.NetName next after = net_name names r next.word
turn default names r state.NetNext next after = list_next state.NetName r next.word
turn default names r (state.LeftBound of) next after = left_bound of r next.word
turn default names r (state.BoundColon of) next after = bound_colon of r next.word
turn default names r (state.RightBound of) next after = right_bound of r next.word
turn default names r (state.RangeEnd of) next after = range_end of r next.word
turn default names r state.GateStart next after = gate_start r next.word
turn default names r state.Delay next after = delay r next.word
turn default names r state.RiseDelay next after = delay_number number.Rise state.RiseEnd r next.word
turn default names r state.RiseEnd next after = rise_end r next.word
turn default names r state.FallDelay next after = delay_number number.Fall state.FallEnd r next.word
turn default names r state.FallEnd next after = fall_end r next.word
turn default names r state.OffDelay next after = delay_number number.Off state.OffEnd r next.word
turn default names r state.OffEnd next after = off_end r next.word
turn default names r state.InstanceStart next after = instance_start r next.word
turn default names r state.InstanceOpen next after = instance_open r next.word
turn default names r state.TerminalStart next after = terminal_start names r next.word after
turn default names r state.TerminalEnd next after = terminal_end names r next.word
turn default names r (state.IndexStart of) next after = index_start of r next.word
turn default names r (state.Index of) next after = index of r next.word
turn default names r (state.IndexEnd of) next after = index_end of r next.word
turn default names r state.InstanceEnd next after = list_next state.InstanceStart r next.word
turn default names r state.ModuleInstanceName next after = module_instance_name r next.start next.word
turn default names r state.ModuleInstanceOpen next after = module_instance_open r next.word
turn default names r state.Connections next after = connections names r next.word after
turn default names r state.OrderedStart next after = ordered_start names r next.word after
turn default names r state.OrderedEnd next after = ordered_end r next.word
turn default names r state.NamedStart next after = named_start r next.word
turn default names r state.NamedPort next after = named_port r next.word
turn default names r state.NamedOpen next after = named_open r next.word
turn default names r state.NamedTerminal next after = named_terminal names r next.word after
turn default names r state.NamedClose next after = named_close r next.word
turn default names r state.NamedEnd next after = named_end r next.word
turn default names r state.ModuleInstanceEnd next after = list_next state.ModuleInstanceName r next.word
