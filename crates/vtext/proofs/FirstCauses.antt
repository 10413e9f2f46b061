-- A word is refused for the first cause of the table that holds there.
use Rattle.std.proofs.Common.{◌≡◌, ◌≢◌, ℕ, ◌+◌, Bool, true, false, cond, List, length, Option, Some, None, Result, Err, refl, sym, ap, ◌∙◌}
use Rattle.std.specs.List.{slice_get}
use Rattle.std.specs.Option.{MatchOption}
use Rattle.fourstate.specs.Gates.{takes_off}
use Rattle.vtext.specs.declared.cause.Cause.{Cause}
use Rattle.vtext.specs.declared.cause.Cause.TheVariants.{Syntax, DuplicateName, WrongArity, PortKind}
use Rattle.vtext.specs.declared.parser_state.Declared.{Declared}
use Rattle.vtext.specs.declared.parser_state.DelayNumber.{DelayNumber}
use Rattle.vtext.specs.declared.parser_state.DelayNumber.TheVariants as number
use Rattle.vtext.specs.declared.parser_state.Indexed.{Indexed}
use Rattle.vtext.specs.declared.parser_state.ParserState.{ParserState}
use Rattle.vtext.specs.declared.parser_state.ParserState.TheVariants as state
use Rattle.vtext.specs.declared.word.Word.{Word}
use Rattle.vtext.specs.declared.word.Word.TheVariants.{Endmodule, PortWord, GateWord, Name, Number, Open, Close, Comma, Semicolon, Dot, Colon, OpenBracket, CloseBracket, Timescale}
use Rattle.vtext.specs.declared.word.Placed.{Placed}
use Rattle.vtext.specs.Bits.{is_clash}
use Rattle.vtext.specs.Causes.{completed_cause, inline_cause, is_hash, is_index, net_cause, port_cause, terminal_cause, use_cause}
use Rattle.vtext.specs.CauseTable.{IsFirst, cause_in, cause_table, first_cause, rows}
use Rattle.vtext.specs.Instances.{completed, instance_name, is_arity_wrong, is_constant_driven, is_made_taken, outputs_of}
use Rattle.vtext.specs.Nets.{net_of}
use Rattle.vtext.specs.Readings.{Reading}
use Rattle.vtext.specs.Roles.{role_of}
use Rattle.vtext.specs.Roles.Role.{gate_net, other_net}
use Rattle.vtext.specs.Turns as turns
use Rattle.vtext.specs.Turns.{Walk, goes, turn, unless}
use Rattle.vtext.specs.Walks.{IsFault, word_at}
use Rattle.vtext.proofs.CauseRows.{by_cause, one, two, then_one, then_two, gate_by, use_by, terminal_by, net_by, port_by, inline_by, third_by, either_way, first_holds}

module _ (default : Option ℕ) (names : List (List ℕ)) (r : Reading) (after : Option Word) where
  -- what a word is told in a state
  abbrev Told : ParserState → Word → Result Walk Cause → Type 0
  Told at word turn = cause_in turn ≡ first_cause (rows default names r word after (role_of at word after))

  -- Modules.

  outside_told : (start : ℕ) (word : Word) → Told state.Outside word (turns.outside r start word)
  outside_told place (Timescale unit) = refl
  outside_told place word = refl

  module_name_told : (word : Word) → Told state.ModuleName word (turns.module_name r word)
  module_name_told (Name n) = by_cause _ _ _ ∙ one _ _
  module_name_told word = refl

  module_head_told : (word : Word) → Told state.ModuleHead word (turns.module_head r word)
  module_head_told Open = refl
  module_head_told word = refl

  -- Ranges.

  left_bound_told : (of : Declared) (word : Word) → Told (state.LeftBound of) word (turns.left_bound of r word)
  left_bound_told of (Number n) = by_cause _ _ _ ∙ one _ _
  left_bound_told of word = refl

  bound_colon_told : (of : Declared) (word : Word) → Told (state.BoundColon of) word (turns.bound_colon of r word)
  bound_colon_told of Colon = refl
  bound_colon_told of word = refl

  right_bound_told : (of : Declared) (word : Word) → Told (state.RightBound of) word (turns.right_bound of r word)
  right_bound_told of (Number n) = by_cause _ _ _ ∙ one _ _
  right_bound_told of word = refl

  range_end_told : (of : Declared) (word : Word) → Told (state.RangeEnd of) word (turns.range_end of r word)
  range_end_told of CloseBracket = refl
  range_end_told of word = refl

  -- Headers.

  header_told : (word : Word) → Told state.Header word (turns.header r word)
  header_told (Name n) = by_cause _ _ _ ∙ one _ _
  header_told word = refl

  older_next_told : (word : Word) → Told state.OlderNext word (turns.older_next r word)
  older_next_told Comma = refl
  older_next_told word = refl

  older_name_told : (word : Word) → Told state.OlderName word (turns.older_name r word)
  older_name_told (Name n) = by_cause _ _ _ ∙ one _ _
  older_name_told word = refl

  inline_named : (n : ℕ) (to : ParserState) (next : Reading) → cause_in (unless (inline_cause names r n) (goes to next)) ≡
      first_cause (rows default names r (Name n) after (role_of state.InlineName (Name n) after))
  inline_named n to next = by_cause _ to next ∙ inline_by (net_of r.nets n) (is_clash names r.nets n r.range)

  inline_start_told : (word : Word) → Told state.InlineStart word (turns.inline_start names r word)
  inline_start_told (Name n) = inline_named n _ _
  inline_start_told word = refl

  inline_kind_told : (word : Word) → Told state.InlineKind word (turns.inline_kind names r word)
  inline_kind_told (Name n) = inline_named n _ _
  inline_kind_told word = refl

  inline_name_told : (word : Word) → Told state.InlineName word (turns.inline_name names r word)
  inline_name_told (Name n) = inline_named n _ _
  inline_name_told word = refl

  inline_next_told : (word : Word) → Told state.InlineNext word (turns.inline_next r word)
  inline_next_told Comma = refl
  inline_next_told word = refl

  inline_more_told : (word : Word) → Told state.InlineMore word (turns.inline_more names r word)
  inline_more_told (Name n) = inline_named n _ _
  inline_more_told word = refl

  header_end_told : (word : Word) → Told state.HeaderEnd word (turns.header_end r word)
  header_end_told Semicolon = refl
  header_end_told word = refl

  -- Items.

  items_told : (word : Word) → Told state.Items word (turns.items default r word after)
  items_told (PortWord direction) = by_cause _ _ _ ∙ one _ _
  items_told (GateWord kind) = by_cause _ _ _ ∙ gate_by (is_hash after) default
  items_told Endmodule = by_cause _ _ _ ∙ one _ _
  items_told word = refl

  port_named : (n : ℕ) (to : ParserState) (next : Reading) → cause_in (unless (port_cause names r n) (goes to next)) ≡
      first_cause (rows default names r (Name n) after (role_of state.PortName (Name n) after))
  port_named n to next = by_cause _ to next ∙ port_by r.kind r.range (net_of r.nets n) (is_clash names r.nets n r.range)

  port_start_told : (word : Word) → Told state.PortStart word (turns.port_start names r word)
  port_start_told (Name n) = port_named n _ _
  port_start_told word = refl

  port_kind_told : (word : Word) → Told state.PortKind word (turns.port_kind names r word)
  port_kind_told (Name n) = port_named n _ _
  port_kind_told word = refl

  port_name_told : (word : Word) → Told state.PortName word (turns.port_name names r word)
  port_name_told (Name n) = port_named n _ _
  port_name_told word = refl

  port_next_told : (word : Word) → Told state.PortNext word (turns.list_next state.PortName r word)
  port_next_told Comma = refl
  port_next_told word = refl

  net_named : (n : ℕ) (to : ParserState) (next : Reading) → cause_in (unless (net_cause names r n) (goes to next)) ≡
      first_cause (rows default names r (Name n) after (role_of state.NetName (Name n) after))
  net_named n to next = by_cause _ to next ∙ net_by r.range (net_of r.nets n) (is_clash names r.nets n r.range)

  net_start_told : (word : Word) → Told state.NetStart word (turns.net_start names r word)
  net_start_told (Name n) = net_named n _ _
  net_start_told word = refl

  net_name_told : (word : Word) → Told state.NetName word (turns.net_name names r word)
  net_name_told (Name n) = net_named n _ _
  net_name_told word = refl

  net_next_told : (word : Word) → Told state.NetNext word (turns.list_next state.NetName r word)
  net_next_told Comma = refl
  net_next_told word = refl

  -- Indexes.

  other_named : (n : ℕ) (to : ParserState) (next : Reading) → cause_in (unless (use_cause names r n) (goes to next)) ≡
      first_cause (rows default names r (Name n) after (other_net n))
  other_named n to next = by_cause _ to next ∙ use_by (net_of r.nets n) (is_clash names r.nets n None)

  index_start_told : (of : Indexed) (word : Word) → Told (state.IndexStart of) word (turns.index_start of r word)
  index_start_told of OpenBracket = refl
  index_start_told of word = refl

  index_told : (of : Indexed) (word : Word) → Told (state.Index of) word (turns.index of r word)
  index_told of (Number n) = by_cause _ _ _ ∙ two _ _ _ _
  index_told of word = refl

  index_end_told : (of : Indexed) (word : Word) → Told (state.IndexEnd of) word (turns.index_end of r word)
  index_end_told of CloseBracket = refl
  index_end_told of word = refl

  -- Gates.

  gate_start_told : (word : Word) → Told state.GateStart word (turns.gate_start r word)
  gate_start_told (Name n) = by_cause _ _ _ ∙ one _ _
  gate_start_told word = refl

  instance_start_told : (word : Word) → Told state.InstanceStart word (turns.instance_start r word)
  instance_start_told (Name n) = by_cause _ _ _ ∙ one _ _
  instance_start_told word = refl

  delay_told : (word : Word) → Told state.Delay word (turns.delay r word)
  delay_told (Number n) = by_cause _ _ _ ∙ then_one _ _ _ _
  delay_told word = refl

  delay_number_told : (of : DelayNumber) (to : ParserState) (word : Word) → Told state.RiseDelay word (turns.delay_number of to r word)
  delay_number_told of to (Number n) = by_cause _ _ _ ∙ then_one _ _ _ _
  delay_number_told of to word = refl

  rise_end_told : (word : Word) → Told state.RiseEnd word (turns.rise_end r word)
  rise_end_told Comma = refl
  rise_end_told word = refl

  fall_end_told : (word : Word) → Told state.FallEnd word (turns.fall_end r word)
  fall_end_told Comma = third_by (takes_off r.gate) _
  fall_end_told word = refl

  off_end_told : (word : Word) → Told state.OffEnd word (turns.off_end r word)
  off_end_told Close = refl
  off_end_told word = refl

  instance_open_told : (word : Word) → Told state.InstanceOpen word (turns.instance_open r word)
  instance_open_told Open = refl
  instance_open_told word = refl

  gate_net_named : (n : ℕ) (to : ParserState) (next : Reading) → cause_in (unless (terminal_cause names r n) (goes to next)) ≡
      first_cause (rows default names r (Name n) after (gate_net n))
  gate_net_named n to next = by_cause _ to next ∙ terminal_by (net_of r.nets n) (is_clash names r.nets n None)

  -- with an index or without one
  indexed_or_not : (indexed : Bool) (n : ℕ) (this that : Result Walk Cause) →
      cause_in this ≡ first_cause (rows default names r (Name n) after (other_net n)) →
      cause_in that ≡ first_cause (rows default names r (Name n) after (gate_net n)) →
      cause_in (cond indexed this that) ≡ first_cause (rows default names r (Name n) after (cond indexed (other_net n) (gate_net n)))
  indexed_or_not true n this that p q = p
  indexed_or_not false n this that p q = q

  terminal_start_told : (word : Word) → Told state.TerminalStart word (turns.terminal_start names r word after)
  terminal_start_told (Name n) = indexed_or_not (is_index after) n _ _ (other_named n _ _) (gate_net_named n _ _)
  terminal_start_told word = refl

  terminal_end_told : (word : Word) → Told state.TerminalEnd word (turns.terminal_end names r word)
  terminal_end_told Close =
      by_cause (completed_cause names r) state.InstanceEnd (completed names r)
      ∙ then_two (is_arity_wrong r.gate r.terminals) (is_constant_driven r.gate r.terminals)
      (is_made_taken names r.taken (instance_name r) (length (outputs_of r.gate r.terminals))) WrongArity PortKind DuplicateName
  terminal_end_told word = refl

  instance_end_told : (word : Word) → Told state.InstanceEnd word (turns.list_next state.InstanceStart r word)
  instance_end_told Comma = refl
  instance_end_told word = refl

  -- Instances of modules.

  module_instance_name_told : (start : ℕ) (word : Word) → Told state.ModuleInstanceName word (turns.module_instance_name r start word)
  module_instance_name_told place (Name n) = by_cause _ _ _ ∙ one _ _
  module_instance_name_told place word = refl

  module_instance_open_told : (word : Word) → Told state.ModuleInstanceOpen word (turns.module_instance_open r word)
  module_instance_open_told Open = refl
  module_instance_open_told word = refl

  connected_named : (of : Indexed) (n : ℕ) → cause_in (turns.connected of names r (Name n) after) ≡
      first_cause (rows default names r (Name n) after (other_net n))
  connected_named of n = either_way (is_index after) (use_cause names r n) _ _ ∙ use_by (net_of r.nets n) (is_clash names r.nets n None)

  connections_told : (word : Word) → Told state.Connections word (turns.connections names r word after)
  connections_told (Name n) = connected_named _ n
  connections_told word = refl

  ordered_start_told : (word : Word) → Told state.OrderedStart word (turns.ordered_start names r word after)
  ordered_start_told (Name n) = connected_named _ n
  ordered_start_told word = refl

  ordered_end_told : (word : Word) → Told state.OrderedEnd word (turns.ordered_end r word)
  ordered_end_told Comma = refl
  ordered_end_told word = refl

  named_start_told : (word : Word) → Told state.NamedStart word (turns.named_start r word)
  named_start_told Dot = refl
  named_start_told word = refl

  named_port_told : (word : Word) → Told state.NamedPort word (turns.named_port r word)
  named_port_told (Name n) = refl
  named_port_told word = refl

  named_open_told : (word : Word) → Told state.NamedOpen word (turns.named_open r word)
  named_open_told Open = refl
  named_open_told word = refl

  named_terminal_told : (word : Word) → Told state.NamedTerminal word (turns.named_terminal names r word after)
  named_terminal_told (Name n) = connected_named _ n
  named_terminal_told word = refl

  named_close_told : (word : Word) → Told state.NamedClose word (turns.named_close r word)
  named_close_told Close = refl
  named_close_told word = refl

  named_end_told : (word : Word) → Told state.NamedEnd word (turns.named_end r word)
  named_end_told Comma = refl
  named_end_told word = refl

  module_instance_end_told : (word : Word) → Told state.ModuleInstanceEnd word (turns.list_next state.ModuleInstanceName r word)
  module_instance_end_told Comma = refl
  module_instance_end_told word = refl

  -- Any state.
  tells_first_in : (at : ParserState) (p : Placed) → Told at p.word (turn default names r at p after)
  tells_first_in state.Outside p = outside_told p.start p.word
  tells_first_in state.ModuleName p = module_name_told p.word
  tells_first_in state.ModuleHead p = module_head_told p.word
  tells_first_in state.Header p = header_told p.word
  tells_first_in state.OlderNext p = older_next_told p.word
  tells_first_in state.OlderName p = older_name_told p.word
  tells_first_in state.InlineStart p = inline_start_told p.word
  tells_first_in state.InlineKind p = inline_kind_told p.word
  tells_first_in state.InlineName p = inline_name_told p.word
  tells_first_in state.InlineNext p = inline_next_told p.word
  tells_first_in state.InlineMore p = inline_more_told p.word
  tells_first_in state.HeaderEnd p = header_end_told p.word
  tells_first_in state.Items p = items_told p.word
  tells_first_in state.PortStart p = port_start_told p.word
  tells_first_in state.PortKind p = port_kind_told p.word
  tells_first_in state.PortName p = port_name_told p.word
  tells_first_in state.PortNext p = port_next_told p.word
  tells_first_in state.NetStart p = net_start_told p.word
  tells_first_in state.NetName p = net_name_told p.word
  tells_first_in state.NetNext p = net_next_told p.word
  tells_first_in (state.LeftBound of) p = left_bound_told of p.word
  tells_first_in (state.BoundColon of) p = bound_colon_told of p.word
  tells_first_in (state.RightBound of) p = right_bound_told of p.word
  tells_first_in (state.RangeEnd of) p = range_end_told of p.word
  tells_first_in state.GateStart p = gate_start_told p.word
  tells_first_in state.Delay p = delay_told p.word
  tells_first_in state.RiseDelay p = delay_number_told number.Rise state.RiseEnd p.word
  tells_first_in state.RiseEnd p = rise_end_told p.word
  tells_first_in state.FallDelay p = delay_number_told number.Fall state.FallEnd p.word
  tells_first_in state.FallEnd p = fall_end_told p.word
  tells_first_in state.OffDelay p = delay_number_told number.Off state.OffEnd p.word
  tells_first_in state.OffEnd p = off_end_told p.word
  tells_first_in state.InstanceStart p = instance_start_told p.word
  tells_first_in state.InstanceOpen p = instance_open_told p.word
  tells_first_in state.TerminalStart p = terminal_start_told p.word
  tells_first_in state.TerminalEnd p = terminal_end_told p.word
  tells_first_in (state.IndexStart of) p = index_start_told of p.word
  tells_first_in (state.Index of) p = index_told of p.word
  tells_first_in (state.IndexEnd of) p = index_end_told of p.word
  tells_first_in state.InstanceEnd p = instance_end_told p.word
  tells_first_in state.ModuleInstanceName p = module_instance_name_told p.start p.word
  tells_first_in state.ModuleInstanceOpen p = module_instance_open_told p.word
  tells_first_in state.Connections p = connections_told p.word
  tells_first_in state.OrderedStart p = ordered_start_told p.word
  tells_first_in state.OrderedEnd p = ordered_end_told p.word
  tells_first_in state.NamedStart p = named_start_told p.word
  tells_first_in state.NamedPort p = named_port_told p.word
  tells_first_in state.NamedOpen p = named_open_told p.word
  tells_first_in state.NamedTerminal p = named_terminal_told p.word
  tells_first_in state.NamedClose p = named_close_told p.word
  tells_first_in state.NamedEnd p = named_end_told p.word
  tells_first_in state.ModuleInstanceEnd p = module_instance_end_told p.word

pub tells_first : (default : Option ℕ) (names : List (List ℕ)) (at : Walk) (p : Placed) (after : Option Word) →
    cause_in (turn default names at.so_far at.state p after) ≡ first_cause (cause_table default names at p.word after)
tells_first default names at p after = tells_first_in default names at.so_far after at.state p

-- Faults.

by_place : (default : Option ℕ) (names : List (List ℕ)) (place : Option Placed) (before : Walk) (after : Option Word) (why : Cause) →
    MatchOption place ((before.state ≢ state.Outside) × (why ≡ Syntax)) (λ p. turn default names before.so_far before.state p after ≡ Err why) →
    MatchOption place (why ≡ Syntax) (λ (p : Placed). IsFirst (cause_table default names before p.word after) why)
by_place default names None before after why refused = refused.1
by_place default names (Some p) before after why refused =
    first_holds (cause_table default names before p.word after) why (sym (tells_first default names before p after) ∙ ap cause_in refused)

pub fault_tells_first : (default : Option ℕ) (names : List (List ℕ)) (words : List Placed) (k : ℕ) (why : Cause) (fault : IsFault default names words k why) →
    MatchOption (slice_get words k) (why ≡ Syntax) (λ (p : Placed). IsFirst (cause_table default names fault.before p.word (word_at words (k + 1))) why)
fault_tells_first default names words k why fault = by_place default names (slice_get words k) fault.before (word_at words (k + 1)) why fault.refused
