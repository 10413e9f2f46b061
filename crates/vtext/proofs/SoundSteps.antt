-- Each good word keeps what is read sound, in each state of the parser.
use Rattle.std.proofs.Common.{ℕ, suc, Bool, true, false, cond, ◌++◌, [], ◌∷◌, List, Option, Some, None, Result, refl}
use Rattle.std.specs.Option.{unwrap_or}
use Rattle.fourstate.specs.kept.DelayLaws.{uniform_in_range, with_fall_in_range, with_off_in_range}
use Rattle.fourstate.specs.Gates.{takes_off}
use Rattle.vtext.specs.declared.cause.Cause.{Cause}
use Rattle.vtext.specs.declared.cause.Cause.TheVariants.{DuplicateName}
use Rattle.vtext.specs.declared.gate.Terminal.TheVariants.{Net, Bit, Constant}
use Rattle.vtext.specs.declared.net.Net as nets
use Rattle.vtext.specs.declared.parser_state.DelayNumber.TheVariants as number
use Rattle.vtext.specs.declared.parser_state.Indexed.{Indexed}
use Rattle.vtext.specs.declared.parser_state.Indexed.TheVariants as indexed
use Rattle.vtext.specs.declared.parser_state.ParserState.{ParserState}
use Rattle.vtext.specs.declared.parser_state.ParserState.TheVariants as state
use Rattle.vtext.specs.declared.word.Word.{Word}
use Rattle.vtext.specs.declared.word.Word.TheVariants.{Name, Misnamed, Number, Literal, Open, Close, Comma, Hash, Dot, OpenBracket, CloseBracket}
use Rattle.vtext.specs.declared.word.Placed.{Placed}
use Rattle.vtext.specs.Causes.{completed_cause, delay_cause, index_cause, instance_cause, is_index, terminal_cause, use_cause}
use Rattle.vtext.specs.Instances.{completed}
use Rattle.vtext.specs.Nets.{blank, net_of, used, with_use}
use Rattle.vtext.specs.Notes.{connect, name_instance, name_module_instance, note_index, use_terminal}
use Rattle.vtext.specs.Readings.{Reading}
use Rattle.vtext.specs.kept.Sound.{IsGoodWord}
use Rattle.vtext.specs.Turns as turns
use Rattle.vtext.specs.Turns.{Walk, goes}
use Rattle.vtext.proofs.InsertLemmas.{net_there}
use Rattle.vtext.proofs.SaidNets.{bit_single, neither, scalar_used, use_said}
use Rattle.vtext.proofs.SoundInstances.{begun, instance_sound, net_joined, place_joined}
use Rattle.vtext.proofs.SoundDelays.{good_delay}
use Rattle.vtext.proofs.SoundReadings.{instance_more, less, name_more, name_ready, net_noted, nets_more, opened, terminal_added, terminal_more}
use Rattle.vtext.proofs.SoundStates.{IsAmong, IsAt, IsIndexed, IsJoined, IsSoFar, IsWithin, StandsAfter, unless_stands}
use Rattle.vtext.proofs.SoundHeads.{bound_colon, header, header_end, inline_kind, inline_more, inline_name, inline_next, inline_start, items, left_bound, list_next, module_head, module_name, net_name, net_start, older_name, older_next, outside, port_kind, port_name, port_start, range_end, right_bound}

-- Below one word less is left, and the next one is `next`.
module _ (names : List (List ℕ)) (room : ℕ) (next : Option Word) (r : Reading) where
  -- Gates.

  instance_start : (w : Word) → IsGoodWord names w → IsSoFar names (suc room) r → IsAt names state.InstanceStart (Some w) r
      → StandsAfter names room (turns.instance_start r w) next
  instance_start (Name n) good s h =
      unless_stands names room next (instance_cause r n) (goes state.InstanceOpen (name_instance r n))
      (λ none. (name_more names room r n (less names room r s), (h.0, h.1, name_ready names room r n DuplicateName s good none)))
  instance_start Misnamed good s h = tt
  instance_start Open good s h = (less names room r s, opened names (record r { instance = None }) h.0 h.1 tt)
  instance_start w good s h = tt

  gate_start : (w : Word) → IsGoodWord names w → IsSoFar names (suc room) r → IsAt names state.GateStart (Some w) r
      → StandsAfter names room (turns.gate_start r w) next
  gate_start Hash good s h = (less names room r s, h.0)
  gate_start w good s h = instance_start w good s (h.0, h.1 refl)

  -- a word is read in one of two ways
  either : (b : Bool) (x y : Result Walk Cause) → StandsAfter names room x next → StandsAfter names room y next → StandsAfter names room (cond b x y) next
  either true x y h k = h
  either false x y h k = k

  rise_delay : (w : Word) → IsSoFar names room r → IsWithin names r → StandsAfter names room (turns.delay_number number.Rise state.RiseEnd r w) next
  rise_delay (Number n) s h = unless_stands names room next (delay_cause n) _ (λ none. (s, (h, uniform_in_range n (good_delay n none))))
  rise_delay w s h = tt

  delay : (w : Word) → IsSoFar names room r → IsWithin names r → StandsAfter names room (turns.delay r w) next
  delay (Number n) s h = unless_stands names room next (delay_cause n) _ (λ none. (s, (h, uniform_in_range n (good_delay n none))))
  delay Open s h = (s, h)
  delay w s h = tt

  rise_end : (w : Word) → IsSoFar names room r → IsAt names state.RiseEnd (Some w) r → StandsAfter names room (turns.rise_end r w) next
  rise_end Comma s h = (s, h)
  rise_end Close s h = (s, h)
  rise_end w s h = tt

  fall_delay : (w : Word) → IsSoFar names room r → IsAt names state.FallDelay (Some w) r → StandsAfter names room (turns.delay_number number.Fall state.FallEnd r w) next
  fall_delay (Number n) s h =
      unless_stands names room next (delay_cause n) _ (λ none. (s, (h.0, with_fall_in_range r.delays n h.1 (good_delay n none))))
  fall_delay w s h = tt

  fall_end : (w : Word) → IsSoFar names room r → IsAt names state.FallEnd (Some w) r → StandsAfter names room (turns.fall_end r w) next
  fall_end Comma s h = either (takes_off r.gate) (goes state.OffDelay r) _ (s, h) tt
  fall_end Close s h = (s, h)
  fall_end w s h = tt

  off_delay : (w : Word) → IsSoFar names room r → IsAt names state.OffDelay (Some w) r → StandsAfter names room (turns.delay_number number.Off state.OffEnd r w) next
  off_delay (Number n) s h =
      unless_stands names room next (delay_cause n) _ (λ none. (s, (h.0, with_off_in_range r.delays n h.1 (good_delay n none))))
  off_delay w s h = tt

  off_end : (w : Word) → IsSoFar names room r → IsAt names state.OffEnd (Some w) r → StandsAfter names room (turns.off_end r w) next
  off_end Close s h = (s, h)
  off_end w s h = tt

  instance_open : (w : Word) → IsSoFar names room r → IsAt names state.InstanceOpen (Some w) r → StandsAfter names room (turns.instance_open r w) next
  instance_open Open s h = (s, opened names r h.0 h.1 h.2)
  instance_open w s h = tt

  abbrev used_net : ℕ → nets.Net
  used_net n = used (unwrap_or (net_of r.nets n) blank)

  terminal_start : (w : Word) → IsGoodWord names w → IsSoFar names (suc room) r → IsAmong names r → StandsAfter names room (turns.terminal_start names r w next) next
  terminal_start (Name n) good s h =
      either (is_index next) (turns.index_name indexed.Gate names r n) (turns.plain_terminal names r n)
      (unless_stands names room next (use_cause names r n) (goes (state.IndexStart indexed.Gate) (note_index r n))
      (λ none. let said = use_said names r n s.sound_nets none in
      (nets_more names room r n (used_net n) good (less names room r s) said, net_noted names (suc room) r n (used_net n) s said h)))
      (unless_stands names room next (terminal_cause names r n) (goes state.TerminalEnd (use_terminal r (Net n)))
      (λ none.
      let both = neither (use_cause names r n) _ none in
      let said = use_said names r n s.sound_nets both.0 in
      let longer : Reading = record r { terminals = r.terminals ++ Net n ∷ [] } in (
        nets_more names room longer n (used_net n) good (terminal_more names room r (Net n) s) said,
        terminal_added names (record r { nets = with_use r.nets n }) (Net n) (scalar_used names r n both.1) (net_noted names (suc room) r n (used_net n) s said h),
      )))
  terminal_start Misnamed good s h = tt
  terminal_start (Literal value) good s h = (terminal_more names room r (Constant value) s, terminal_added names r (Constant value) tt h)
  terminal_start w good s h = tt

  terminal_end : (w : Word) → IsSoFar names (suc room) r → IsAmong names r → StandsAfter names room (turns.terminal_end names r w) next
  terminal_end Comma s h = (less names room r s, h)
  terminal_end Close s h =
      unless_stands names room next (completed_cause names r) (goes state.InstanceEnd (completed names r))
      (λ none. (instance_more names room r none s h, ((h.0, refl), h.2)))
  terminal_end w s h = tt

  -- Instances of modules.

  module_instance_name : (start : ℕ) (w : Word) → IsGoodWord names w → IsSoFar names room r → IsWithin names r
      → StandsAfter names room (turns.module_instance_name r start w) next
  module_instance_name start (Name n) good s h =
      unless_stands names room next (instance_cause r n) (goes state.ModuleInstanceOpen (name_module_instance r start n))
      (λ none. (name_more names room r n s, (h, begun names room r n DuplicateName s good none)))
  module_instance_name start Misnamed good s h = tt
  module_instance_name start w good s h = tt

  module_instance_open : (w : Word) → IsSoFar names room r → IsJoined names r → StandsAfter names room (turns.module_instance_open r w) next
  module_instance_open Open s h = (s, h)
  module_instance_open w s h = tt

  connected : (of : Indexed) → ((now : Reading) → IsJoined names now → IsAt names (state.IndexStart of) next now)
      → ((now : Reading) → IsJoined names now → IsAt names (turns.behind of) next now) → (w : Word) → IsGoodWord names w → IsSoFar names room r
      → IsJoined names r → StandsAfter names room (turns.connected of names r w next) next
  connected of index behind (Name n) good s h =
      either (is_index next) (turns.index_name of names r n) (turns.plain_connection of names r n)
      (unless_stands names room next (use_cause names r n) (goes (state.IndexStart of) (note_index r n))
      (λ none. let said = use_said names r n s.sound_nets none in
      (nets_more names room r n (used_net n) good s said, index (note_index r n) (net_joined names room r n (used_net n) s said h))))
      (unless_stands names room next (use_cause names r n) (goes (turns.behind of) (connect r (Some (Net n))))
      (λ none.
      let said = use_said names r n s.sound_nets none in
      let noted : Reading = record r { nets = with_use r.nets n } in (
        nets_more names room r n (used_net n) good s said,
        behind (connect r (Some (Net n)))
            (place_joined names room noted (Some (Net n)) (net_there r.nets n (used_net n)) (net_joined names room r n (used_net n) s said h)),
      )))
  connected of index behind Misnamed good s h = tt
  connected of index behind (Literal value) good s h =
      (s, behind (connect r (Some (Constant value))) (place_joined names room r (Some (Constant value)) tt h))
  connected of index behind w good s h = tt

  nothing_joined : IsJoined names r → IsJoined names (connect r None)
  nothing_joined h = place_joined names room r None tt h

  connections : (w : Word) → IsGoodWord names w → IsSoFar names room r → IsJoined names r → StandsAfter names room (turns.connections names r w next) next
  connections Close good s h = (instance_sound names room r s h, h.0)
  connections Dot good s h = (s, h)
  connections Comma good s h = (s, nothing_joined h)
  connections w good s h = connected indexed.Ordered (λ now h. h) (λ now h. h) w good s h

  ordered_start : (w : Word) → IsGoodWord names w → IsSoFar names room r → IsJoined names r → StandsAfter names room (turns.ordered_start names r w next) next
  ordered_start Comma good s h = (s, nothing_joined h)
  ordered_start Close good s h = (instance_sound names room (connect r None) s (nothing_joined h), h.0)
  ordered_start w good s h = connected indexed.Ordered (λ now h. h) (λ now h. h) w good s h

  ordered_end : (w : Word) → IsSoFar names room r → IsJoined names r → StandsAfter names room (turns.ordered_end r w) next
  ordered_end Comma s h = (s, h)
  ordered_end Close s h = (instance_sound names room r s h, h.0)
  ordered_end w s h = tt

  named_start : (w : Word) → IsSoFar names room r → IsJoined names r → StandsAfter names room (turns.named_start r w) next
  named_start Dot s h = (s, h)
  named_start w s h = tt

  named_port : (w : Word) → IsSoFar names room r → IsJoined names r → StandsAfter names room (turns.named_port r w) next
  named_port (Name n) s h = (s, h)
  named_port Misnamed s h = tt
  named_port w s h = tt

  named_open : (w : Word) → IsSoFar names room r → IsJoined names r → StandsAfter names room (turns.named_open r w) next
  named_open Open s h = (s, h)
  named_open w s h = tt

  named_terminal : (w : Word) → IsGoodWord names w → IsSoFar names room r → IsJoined names r → StandsAfter names room (turns.named_terminal names r w next) next
  named_terminal Close good s h = (s, nothing_joined h)
  named_terminal w good s h = connected indexed.Named (λ now h. h) (λ now h. h) w good s h

  named_close : (w : Word) → IsSoFar names room r → IsJoined names r → StandsAfter names room (turns.named_close r w) next
  named_close Close s h = (s, h)
  named_close w s h = tt

  named_end : (w : Word) → IsSoFar names room r → IsJoined names r → StandsAfter names room (turns.named_end r w) next
  named_end Comma s h = (s, h)
  named_end Close s h = (instance_sound names room r s h, h.0)
  named_end w s h = tt

  -- Indexes of terminals.

  index_start : (of : Indexed) (w : Word) → IsSoFar names room r → IsIndexed names of r → StandsAfter names room (turns.index_start of r w) next
  index_start of OpenBracket s h = (s, h)
  index_start of w s h = tt

  index : (of : Indexed) (w : Word) → IsSoFar names (suc room) r → IsIndexed names of r → StandsAfter names room (turns.index of r w) next
  index indexed.Gate (Number n) s h =
      unless_stands names room next (index_cause r n) _
      (λ none. (terminal_more names room r (Bit r.indexed n) s, terminal_added names r (Bit r.indexed n) (bit_single r n none) h))
  index indexed.Ordered (Number n) s h =
      unless_stands names room next (index_cause r n) _
      (λ none. (less names room r s, place_joined names room r (Some (Bit r.indexed n)) (bit_single r n none) h))
  index indexed.Named (Number n) s h =
      unless_stands names room next (index_cause r n) _
      (λ none. (less names room r s, place_joined names room r (Some (Bit r.indexed n)) (bit_single r n none) h))
  index of w s h = tt

  index_end : (of : Indexed) (w : Word) → IsSoFar names room r → IsIndexed names of r → StandsAfter names room (turns.index_end of r w) next
  index_end indexed.Gate CloseBracket s h = (s, h)
  index_end indexed.Ordered CloseBracket s h = (s, h)
  index_end indexed.Named CloseBracket s h = (s, h)
  index_end of w s h = tt

  -- A word in any state.
  pub turn_stands : (default : Option ℕ) (at : ParserState) (p : Placed) → IsGoodWord names p.word → IsSoFar names (suc room) r → IsAt names at (Some p.word) r
      → StandsAfter names room (turns.turn default names r at p next) next
  turn_stands default state.Outside p good s h = outside names room next r p.start p.word (less names room r s) h
  turn_stands default state.ModuleName p good s h = module_name names room next r p.word good (less names room r s) h
  turn_stands default state.ModuleHead p good s h = module_head names room next r p.word (less names room r s) h
  turn_stands default state.Header p good s h = header names room next r p.word good (less names room r s) h
  turn_stands default state.OlderNext p good s h = older_next names room next r p.word (less names room r s) h
  turn_stands default state.OlderName p good s h = older_name names room next r p.word good (less names room r s) h
  turn_stands default state.InlineStart p good s h = inline_start names room next r p.word good (less names room r s) h
  turn_stands default state.InlineKind p good s h = inline_kind names room next r p.word good (less names room r s) h
  turn_stands default state.InlineName p good s h = inline_name names room next r p.word good (less names room r s) h
  turn_stands default state.InlineNext p good s h = inline_next names room next r p.word (less names room r s) h
  turn_stands default state.InlineMore p good s h = inline_more names room next r p.word good (less names room r s) h
  turn_stands default state.HeaderEnd p good s h = header_end names room next r p.word (less names room r s) h
  turn_stands default state.Items p good s h = items names room next r default p.word (less names room r s) h
  turn_stands default state.PortStart p good s h = port_start names room next r p.word good (less names room r s) h
  turn_stands default state.PortKind p good s h = port_kind names room next r p.word good (less names room r s) h
  turn_stands default state.PortName p good s h = port_name names room next r p.word good (less names room r s) h
  turn_stands default state.PortNext p good s h = list_next names room next r state.PortName p.word (less names room r s) h h.0
  turn_stands default state.NetStart p good s h = net_start names room next r p.word good (less names room r s) h
  turn_stands default state.NetName p good s h = net_name names room next r p.word good (less names room r s) h
  turn_stands default state.NetNext p good s h = list_next names room next r state.NetName p.word (less names room r s) h h.0.0
  turn_stands default (state.LeftBound of) p good s h = left_bound names room next r of p.word (less names room r s) h
  turn_stands default (state.BoundColon of) p good s h = bound_colon names room next r of p.word (less names room r s) h
  turn_stands default (state.RightBound of) p good s h = right_bound names room next r of p.word (less names room r s) h
  turn_stands default (state.RangeEnd of) p good s h = range_end names room next r of p.word (less names room r s) h
  turn_stands default state.GateStart p good s h = gate_start p.word good s h
  turn_stands default state.Delay p good s h = delay p.word (less names room r s) h
  turn_stands default state.RiseDelay p good s h = rise_delay p.word (less names room r s) h
  turn_stands default state.RiseEnd p good s h = rise_end p.word (less names room r s) h
  turn_stands default state.FallDelay p good s h = fall_delay p.word (less names room r s) h
  turn_stands default state.FallEnd p good s h = fall_end p.word (less names room r s) h
  turn_stands default state.OffDelay p good s h = off_delay p.word (less names room r s) h
  turn_stands default state.OffEnd p good s h = off_end p.word (less names room r s) h
  turn_stands default state.InstanceStart p good s h = instance_start p.word good s h
  turn_stands default state.InstanceOpen p good s h = instance_open p.word (less names room r s) h
  turn_stands default state.TerminalStart p good s h = terminal_start p.word good s h
  turn_stands default state.TerminalEnd p good s h = terminal_end p.word s h
  turn_stands default (state.IndexStart of) p good s h = index_start of p.word (less names room r s) h
  turn_stands default (state.Index of) p good s h = index of p.word s h
  turn_stands default (state.IndexEnd of) p good s h = index_end of p.word (less names room r s) h
  turn_stands default state.InstanceEnd p good s h = list_next names room next r state.InstanceStart p.word (less names room r s) h h.0
  turn_stands default state.ModuleInstanceName p good s h = module_instance_name p.start p.word good (less names room r s) h
  turn_stands default state.ModuleInstanceOpen p good s h = module_instance_open p.word (less names room r s) h
  turn_stands default state.Connections p good s h = connections p.word good (less names room r s) h
  turn_stands default state.OrderedStart p good s h = ordered_start p.word good (less names room r s) h
  turn_stands default state.OrderedEnd p good s h = ordered_end p.word (less names room r s) h
  turn_stands default state.NamedStart p good s h = named_start p.word (less names room r s) h
  turn_stands default state.NamedPort p good s h = named_port p.word (less names room r s) h
  turn_stands default state.NamedOpen p good s h = named_open p.word (less names room r s) h
  turn_stands default state.NamedTerminal p good s h = named_terminal p.word good (less names room r s) h
  turn_stands default state.NamedClose p good s h = named_close p.word (less names room r s) h
  turn_stands default state.NamedEnd p good s h = named_end p.word (less names room r s) h
  turn_stands default state.ModuleInstanceEnd p good s h = list_next names room next r state.ModuleInstanceName p.word (less names room r s) h h
