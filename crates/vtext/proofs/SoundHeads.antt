-- Each good word keeps what is read sound, in each state of the parser from the top of a text to the end of a declaration.
use Rattle.std.proofs.Common.{◌≡◌, ℕ, [], List, Option, None, refl}
use Rattle.std.specs.List.{list_any}
use Rattle.std.specs.Option.{unwrap_or}
use Rattle.vtext.specs.declared.cause.Cause.TheVariants.{Syntax}
use Rattle.vtext.specs.declared.net.Net as nets
use Rattle.vtext.specs.declared.parser_state.Declared.{Declared}
use Rattle.vtext.specs.declared.parser_state.Declared.TheVariants as declared
use Rattle.vtext.specs.declared.parser_state.ParserState.{ParserState}
use Rattle.vtext.specs.declared.parser_state.ParserState.TheVariants as state
use Rattle.vtext.specs.declared.word.Word.{Word}
use Rattle.vtext.specs.declared.word.Word.TheVariants.{Module, Endmodule, PortWord, NetWord, GateWord, Name, Misnamed, Number, Open, Close, Comma, Semicolon, Colon, OpenBracket, CloseBracket, Timescale}
use Rattle.vtext.specs.Causes.{bound_cause, direction_cause, end_cause, gate_cause, header_cause, inline_cause, module_cause, net_cause, port_cause}
use Rattle.vtext.specs.Nets.{blank, declared, directed, is_undirected, listed, net_of, ported}
use Rattle.vtext.specs.Notes.{declare_net, declare_port, direct_port, finished, list_port}
use Rattle.vtext.specs.Readings.{Reading}
use Rattle.vtext.specs.kept.Sound.{IsGoodWord}
use Rattle.vtext.specs.Turns as turns
use Rattle.vtext.specs.Turns.{Walk, goes}
use Rattle.vtext.proofs.SaidNets.{inline_said, lists_said, low_bound, net_said, no_cause, port_said, right_bounded}
use Rattle.vtext.proofs.SoundDelays.{default_timed}
use Rattle.vtext.proofs.SoundReadings.{module_more, nets_more}
use Rattle.vtext.proofs.SoundStates.{IsAt, IsDeclared, IsKind, IsRanged, IsSoFar, IsUnranged, IsWithin, StandsAfter, unless_stands}

-- Below one word less is left, and the next one is `next`.
module _ (names : List (List ℕ)) (room : ℕ) (next : Option Word) (r : Reading) where
  -- Modules and headers.

  pub outside : (start : ℕ) (w : Word) → IsSoFar names room r → r.terminals ≡ [] → StandsAfter names room (turns.outside r start w) next
  outside start (Timescale unit) s h = (s, h)
  outside start Module s h = (s, h)
  outside start w s h = tt

  pub module_name : (w : Word) → IsGoodWord names w → IsSoFar names room r → r.terminals ≡ [] → StandsAfter names room (turns.module_name r w) next
  module_name (Name n) good s h =
      unless_stands names room next (module_cause r n) (goes state.ModuleHead (record r { name = n })) (λ none. (s, (good, h)))
  module_name Misnamed good s h = tt
  module_name w good s h = tt

  pub module_head : (w : Word) → IsSoFar names room r → IsWithin names r → StandsAfter names room (turns.module_head r w) next
  module_head Open s h = (s, h)
  module_head Semicolon s h = (s, h)
  module_head w s h = tt

  pub older_name : (w : Word) → IsGoodWord names w → IsSoFar names room r → IsWithin names r → StandsAfter names room (turns.older_name r w) next
  older_name (Name n) good s h =
      unless_stands names room next (header_cause r n) (goes state.OlderNext (list_port r n)) (λ none. (nets_more names room r n listed good s (lists_said names r n none), h))
  older_name Misnamed good s h = tt
  older_name w good s h = tt

  pub header : (w : Word) → IsGoodWord names w → IsSoFar names room r → IsWithin names r → StandsAfter names room (turns.header r w) next
  header (PortWord direction) good s h = (s, (h, tt))
  header Close good s h = (s, h)
  header w good s h = older_name w good s h

  pub older_next : (w : Word) → IsSoFar names room r → IsWithin names r → StandsAfter names room (turns.older_next r w) next
  older_next Comma s h = (s, h)
  older_next Close s h = (s, h)
  older_next w s h = tt

  pub inline_name : (w : Word) → IsGoodWord names w → IsSoFar names room r → IsDeclared names r → StandsAfter names room (turns.inline_name names r w) next
  inline_name (Name n) good s h =
      unless_stands names room next (inline_cause names r n) (goes state.InlineNext (declare_port r n))
      (λ none. (nets_more names room r n (ported r.direction r.kind r.range) good s (inline_said names r n h.1 none), h))
  inline_name Misnamed good s h = tt
  inline_name w good s h = tt

  pub inline_kind : (w : Word) → IsGoodWord names w → IsSoFar names room r → IsDeclared names r → StandsAfter names room (turns.inline_kind names r w) next
  inline_kind OpenBracket good s h = (s, h.0)
  inline_kind w good s h = inline_name w good s h

  pub inline_start : (w : Word) → IsGoodWord names w → IsSoFar names room r → IsDeclared names r → StandsAfter names room (turns.inline_start names r w) next
  inline_start (NetWord kind) good s h = (s, h)
  inline_start w good s h = inline_kind w good s h

  pub inline_next : (w : Word) → IsSoFar names room r → IsDeclared names r → StandsAfter names room (turns.inline_next r w) next
  inline_next Comma s h = (s, h)
  inline_next Close s h = (s, h.0)
  inline_next w s h = tt

  pub inline_more : (w : Word) → IsGoodWord names w → IsSoFar names room r → IsDeclared names r → StandsAfter names room (turns.inline_more names r w) next
  inline_more (PortWord direction) good s h = (s, (h.0, tt))
  inline_more w good s h = inline_name w good s h

  pub header_end : (w : Word) → IsSoFar names room r → IsWithin names r → StandsAfter names room (turns.header_end r w) next
  header_end Semicolon s h = (s, h)
  header_end w s h = tt

  -- Items.

  pub items : (default : Option ℕ) (w : Word) → IsSoFar names room r → IsWithin names r → StandsAfter names room (turns.items default r w next) next
  items default (PortWord direction) s h =
      unless_stands names room next (direction_cause r) (goes state.PortStart (record r { direction = direction; kind = None; range = None })) (λ none. (s, (h, tt)))
  items default (NetWord kind) s h = (s, ((h, tt), refl))
  items default (GateWord kind) s h = unless_stands names room next (gate_cause default next) _ (λ none. (s, (h, default_timed default next none)))
  items default Endmodule s h = unless_stands names room next (end_cause r) (goes state.Outside (finished r)) (λ none. (module_more names room r s h (no_cause (list_any (λ net. is_undirected net.1) r.nets) Syntax none), h.1))
  items default (Name n) s h = (s, h)
  items default Misnamed s h = tt
  items default w s h = tt

  pub port_name : (w : Word) → IsGoodWord names w → IsSoFar names room r → IsDeclared names r → StandsAfter names room (turns.port_name names r w) next
  port_name (Name n) good s h =
      let net : nets.Net = directed r.direction r.kind r.range (unwrap_or (net_of r.nets n) blank) in
      unless_stands names room next (port_cause names r n) (goes state.PortNext (direct_port r n))
      (λ none. (nets_more names room r n net good s (port_said names r n h.1 none), h))
  port_name w good s h = tt

  pub port_kind : (w : Word) → IsGoodWord names w → IsSoFar names room r → IsDeclared names r → StandsAfter names room (turns.port_kind names r w) next
  port_kind OpenBracket good s h = (s, h.0)
  port_kind w good s h = port_name w good s h

  pub port_start : (w : Word) → IsGoodWord names w → IsSoFar names room r → IsDeclared names r → StandsAfter names room (turns.port_start names r w) next
  port_start (NetWord kind) good s h = (s, h)
  port_start w good s h = port_kind w good s h

  pub net_name : (w : Word) → IsGoodWord names w → IsSoFar names room r → IsKind names r → StandsAfter names room (turns.net_name names r w) next
  net_name (Name n) good s h =
      let net : nets.Net = declared r.kind r.range (unwrap_or (net_of r.nets n) blank) in
      unless_stands names room next (net_cause names r n) (goes state.NetNext (declare_net r n))
      (λ none. (nets_more names room r n net good s (net_said names r n h.0.1 h.1 none), h))
  net_name Misnamed good s h = tt
  net_name w good s h = tt

  pub net_start : (w : Word) → IsGoodWord names w → IsSoFar names room r → IsKind names r → StandsAfter names room (turns.net_start names r w) next
  net_start OpenBracket good s h = (s, (h.0.0, h.1))
  net_start w good s h = net_name w good s h

  -- Ranges of declarations.

  pub left_bound : (of : Declared) (w : Word) → IsSoFar names room r → IsUnranged names of r → StandsAfter names room (turns.left_bound of r w) next
  left_bound declared.Net (Number n) s h =
      unless_stands names room next (bound_cause n) _ (λ none. let low = low_bound n none in (s, ((h.0, (low, low)), h.1)))
  left_bound declared.Port (Number n) s h = unless_stands names room next (bound_cause n) _ (λ none. let low = low_bound n none in (s, (h, (low, low))))
  left_bound declared.InlinePort (Number n) s h =
      unless_stands names room next (bound_cause n) _ (λ none. let low = low_bound n none in (s, (h, (low, low))))
  left_bound of w s h = tt

  pub bound_colon : (of : Declared) (w : Word) → IsSoFar names room r → IsRanged names of r → StandsAfter names room (turns.bound_colon of r w) next
  bound_colon of Colon s h = (s, h)
  bound_colon of w s h = tt

  pub right_bound : (of : Declared) (w : Word) → IsSoFar names room r → IsRanged names of r → StandsAfter names room (turns.right_bound of r w) next
  right_bound declared.Net (Number n) s h =
      unless_stands names room next (bound_cause n) _ (λ none. (s, ((h.0.0, right_bounded r.range n (low_bound n none) h.0.1), h.1)))
  right_bound declared.Port (Number n) s h =
      unless_stands names room next (bound_cause n) _ (λ none. (s, (h.0, right_bounded r.range n (low_bound n none) h.1)))
  right_bound declared.InlinePort (Number n) s h =
      unless_stands names room next (bound_cause n) _ (λ none. (s, (h.0, right_bounded r.range n (low_bound n none) h.1)))
  right_bound of w s h = tt

  pub range_end : (of : Declared) (w : Word) → IsSoFar names room r → IsRanged names of r → StandsAfter names room (turns.range_end of r w) next
  range_end declared.Net CloseBracket s h = (s, h)
  range_end declared.Port CloseBracket s h = (s, h)
  range_end declared.InlinePort CloseBracket s h = (s, h)
  range_end of w s h = tt

  pub list_next : (more : ParserState) (w : Word) → IsSoFar names room r → IsAt names more next r → IsWithin names r → StandsAfter names room (turns.list_next more r w) next
  list_next more Comma s there h = (s, there)
  list_next more Semicolon s there h = (s, h)
  list_next more w s there h = tt
