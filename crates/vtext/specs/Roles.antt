-- What a word is in its place, by the lines of the grammar in Trees.antt: the name of a module, a bound of a range, the end of a
-- gate instance, .. (own). Nothing here looks at what was read before, but the place.
use Rattle.std.specs.Prelude.{ℕ, if◌then◌else◌, Option}
use Rattle.vtext.specs.declared.parser_state.ParserState.{ParserState}
use Rattle.vtext.specs.declared.parser_state.ParserState.TheVariants as state
use Rattle.vtext.specs.declared.word.Word.{Word}
use Rattle.vtext.specs.declared.word.Word.TheVariants.{Module, Endmodule, PortWord, NetWord, GateWord, Name, Misnamed, Number, Literal, Open, Close, Comma, Semicolon, Hash, Dot, Colon, OpenBracket, CloseBracket, Timescale}
use Rattle.vtext.specs.Causes.{is_index}

pub data Role : Type 0 where
  -- it can't continue the text
  out_of_place : Role
  -- it can, whatever has been read before
  in_place : Role
  -- a name stands here, and it is none that a design may have
  bad_name : Role
  -- the name of a module that begins
  module_name : ℕ → Role
  -- `endmodule`
  module_end : Role
  -- a port, as a header of the older form names it, as one of the inline form does, and as a port declaration does
  header_name : ℕ → Role
  inline_name : ℕ → Role
  port_name : ℕ → Role
  -- a net, as a net declaration names it
  net_name : ℕ → Role
  -- a bound of a range
  bound : ℕ → Role
  -- the direction with which an item begins
  item_direction : Role
  -- the word of a gate kind
  gate_word : Role
  -- a number of a delay
  delay_number : ℕ → Role
  -- the comma before a third delay
  third_delay : Role
  -- the name of a gate instance, or of an instance of a module
  instance_name : ℕ → Role
  -- a net as a terminal of a gate, without an index
  gate_net : ℕ → Role
  -- a net that an index follows, or that is connected to a port
  other_net : ℕ → Role
  -- the number of an index
  index : ℕ → Role
  -- the `)` of a gate instance
  instance_end : Role

-- where a name is wanted
abbrev pub wants_name : (ℕ → Role) → Word → Role
wants_name part (Name n) = part n
wants_name part Misnamed = bad_name
wants_name part word = out_of_place

-- where a number is wanted
abbrev pub wants_number : (ℕ → Role) → Word → Role
wants_number part (Number n) = part n
wants_number part word = out_of_place

-- what a port is connected to
abbrev pub wants_connection : Word → Role
wants_connection (Literal value) = in_place
wants_connection word = wants_name other_net word

-- a word in any state, and the word after it
abbrev pub role_of : ParserState → Word → Option Word → Role
role_of state.Outside (Timescale unit) after = in_place
role_of state.Outside Module after = in_place
role_of state.ModuleName word after = wants_name module_name word
role_of state.ModuleHead Open after = in_place
role_of state.ModuleHead Semicolon after = in_place
role_of state.Header (PortWord direction) after = in_place
role_of state.Header Close after = in_place
role_of state.Header word after = wants_name header_name word
role_of state.OlderNext Comma after = in_place
role_of state.OlderNext Close after = in_place
role_of state.OlderName word after = wants_name header_name word
role_of state.InlineStart (NetWord kind) after = in_place
role_of state.InlineStart OpenBracket after = in_place
role_of state.InlineStart word after = wants_name inline_name word
role_of state.InlineKind OpenBracket after = in_place
role_of state.InlineKind word after = wants_name inline_name word
role_of state.InlineName word after = wants_name inline_name word
role_of state.InlineNext Comma after = in_place
role_of state.InlineNext Close after = in_place
role_of state.InlineMore (PortWord direction) after = in_place
role_of state.InlineMore word after = wants_name inline_name word
role_of state.HeaderEnd Semicolon after = in_place
role_of state.Items (PortWord direction) after = item_direction
role_of state.Items (NetWord kind) after = in_place
role_of state.Items (GateWord kind) after = gate_word
role_of state.Items Endmodule after = module_end
role_of state.Items (Name n) after = in_place
role_of state.Items Misnamed after = bad_name
role_of state.PortStart (NetWord kind) after = in_place
role_of state.PortStart OpenBracket after = in_place
role_of state.PortStart (Name n) after = port_name n
role_of state.PortKind OpenBracket after = in_place
role_of state.PortKind (Name n) after = port_name n
role_of state.PortName (Name n) after = port_name n
role_of state.PortNext Comma after = in_place
role_of state.PortNext Semicolon after = in_place
role_of state.NetStart OpenBracket after = in_place
role_of state.NetStart word after = wants_name net_name word
role_of state.NetName word after = wants_name net_name word
role_of state.NetNext Comma after = in_place
role_of state.NetNext Semicolon after = in_place
role_of (state.LeftBound of) word after = wants_number bound word
role_of (state.BoundColon of) Colon after = in_place
role_of (state.RightBound of) word after = wants_number bound word
role_of (state.RangeEnd of) CloseBracket after = in_place
role_of state.GateStart Hash after = in_place
role_of state.GateStart Open after = in_place
role_of state.GateStart word after = wants_name instance_name word
role_of state.Delay Open after = in_place
role_of state.Delay word after = wants_number delay_number word
role_of state.RiseDelay word after = wants_number delay_number word
role_of state.RiseEnd Comma after = in_place
role_of state.RiseEnd Close after = in_place
role_of state.FallDelay word after = wants_number delay_number word
role_of state.FallEnd Comma after = third_delay
role_of state.FallEnd Close after = in_place
role_of state.OffDelay word after = wants_number delay_number word
role_of state.OffEnd Close after = in_place
role_of state.InstanceStart Open after = in_place
role_of state.InstanceStart word after = wants_name instance_name word
role_of state.InstanceOpen Open after = in_place
role_of state.TerminalStart (Literal value) after = in_place
role_of state.TerminalStart (Name n) after = if is_index after then other_net n else gate_net n
role_of state.TerminalStart Misnamed after = bad_name
role_of state.TerminalEnd Comma after = in_place
role_of state.TerminalEnd Close after = instance_end
role_of (state.IndexStart of) OpenBracket after = in_place
role_of (state.Index of) word after = wants_number index word
role_of (state.IndexEnd of) CloseBracket after = in_place
role_of state.InstanceEnd Comma after = in_place
role_of state.InstanceEnd Semicolon after = in_place
role_of state.ModuleInstanceName word after = wants_name instance_name word
role_of state.ModuleInstanceOpen Open after = in_place
role_of state.Connections Close after = in_place
role_of state.Connections Dot after = in_place
role_of state.Connections Comma after = in_place
role_of state.Connections word after = wants_connection word
role_of state.OrderedStart Comma after = in_place
role_of state.OrderedStart Close after = in_place
role_of state.OrderedStart word after = wants_connection word
role_of state.OrderedEnd Comma after = in_place
role_of state.OrderedEnd Close after = in_place
role_of state.NamedStart Dot after = in_place
role_of state.NamedPort (Name n) after = in_place
role_of state.NamedPort Misnamed after = bad_name
role_of state.NamedOpen Open after = in_place
role_of state.NamedTerminal Close after = in_place
role_of state.NamedTerminal word after = wants_connection word
role_of state.NamedClose Close after = in_place
role_of state.NamedEnd Comma after = in_place
role_of state.NamedEnd Close after = in_place
role_of state.ModuleInstanceEnd Comma after = in_place
role_of state.ModuleInstanceEnd Semicolon after = in_place
role_of state word after = out_of_place
