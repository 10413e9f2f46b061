-- What is read is what the grammar's lines say: the words behind each state of a walk that leads to its end are the rest of some
-- tree, at which no cause holds, and what has been read in the end is what that tree says.
use Rattle.std.proofs.Common.{◌≡◌, ℕ, Bool, false, cond, List, [], ◌∷◌, Option, Some, None, Result, refl, sym, ap, subst, ◌∙◌}
use Rattle.fourstate.specs.Delays.{uniform_delays}
use Rattle.fourstate.specs.declared.gate.GateKind.{GateKind}
use Rattle.fourstate.specs.declared.net.NetKind.{NetKind}
use Rattle.std.specs.Option.{unwrap_or}
use Rattle.vtext.specs.declared.cause.Cause.{Cause}
use Rattle.vtext.specs.declared.parser_state.Declared.TheVariants as declared
use Rattle.vtext.specs.declared.parser_state.ParserState.{ParserState}
use Rattle.vtext.specs.declared.parser_state.ParserState.TheVariants as state
use Rattle.vtext.specs.declared.word.Direction.{Direction}
use Rattle.vtext.specs.declared.word.Word.{Word}
use Rattle.vtext.specs.declared.word.Word.TheVariants.{Module, Endmodule, PortWord, NetWord, GateWord, Name, Open, Timescale}
use Rattle.vtext.specs.declared.word.Placed.{Placed}
use Rattle.vtext.specs.Causes.{default_cause, direction_cause, end_cause, gate_cause, is_hash}
use Rattle.vtext.specs.Notes.{finished}
use Rattle.vtext.specs.Readings.{Reading, unread}
use Rattle.vtext.specs.Trees.{ArePartsAdmitted, AreWritten, IsItemAdmitted, Item, Mark, Part, after_item, after_parts, instance_then, name_then, plain, terminal_then, terminals_then}
use Rattle.vtext.specs.Trees.Delay.{no_delay, one_delay, enclosed_delay, two_delays, three_delays}
use Rattle.vtext.specs.Trees.Item.{port_item, net_item, gate_item, instance_item}
use Rattle.vtext.specs.Trees.Part.{directive, module_part}
use Rattle.vtext.specs.Turns.{Walk, items, outside, turn}
use Rattle.vtext.specs.Walks.{Leads, first_word, start}
use Rattle.vtext.proofs.MarkLemmas.{first_marked, first_of}
use Rattle.vtext.proofs.RestTrees.{Setting}
use Rattle.vtext.proofs.RestTrees as trees
use Rattle.vtext.proofs.Rests.{Rest, RestIn, through}
use Rattle.vtext.proofs.SpelledConnections.{connections_back, module_instance_end_back, module_instance_name_back, module_instance_open_back, named_close_back, named_end_back, named_open_back, named_port_back, named_start_back, named_terminal_back, ordered_end_back, ordered_start_back}
use Rattle.vtext.proofs.SpelledGates.{delay_back, fall_delay_back, fall_end_back, gate_start_back, instance_end_back, instance_open_back, instance_start_back, off_delay_back, off_end_back, rise_delay_back, rise_end_back, terminal_end_back, terminal_start_back}
use Rattle.vtext.proofs.SpelledHeaders.{header_back, header_end_back, inline_kind_back, inline_more_back, inline_name_back, inline_next_back, inline_start_back, module_head_back, module_name_back, older_name_back, older_next_back}
use Rattle.vtext.proofs.SpelledIndexes.{index_back, index_end_back, index_start_back}
use Rattle.vtext.proofs.SpelledItems.{net_name_back, net_next_back, net_start_back, port_kind_back, port_name_back, port_next_back, port_start_back}
use Rattle.vtext.proofs.SpelledRanges.{Whole, bound_colon_back, left_bound_back, range_end_back, right_bound_back, whole}

not_hash : (name : Option ℕ) (more : List Mark) → is_hash (first_of (name_then name (plain Open ∷ more)) None) ≡ false
not_hash None more = refl
not_hash (Some n) more = refl

module _ (s : Setting) (r : Reading) (at : ℕ) where
  -- Items.

  abbrev one_item : (item : Item) → IsItemAdmitted s.default s.table r item → trees.Tail s (after_item s.default s.table r item) → trees.Tail s r
  one_item item free tail = record {
    items = item ∷ tail.items;
    parts = tail.parts;
    items_free = (free, tail.items_free);
    end_free = tail.end_free;
    parts_free = tail.parts_free;
    last_same = tail.last_same;
  }

  port_back : (direction : Direction) (words : List Placed) → direction_cause r ≡ None → Whole s declared.Port r direction words
      → Rest s state.Items r (record { word = PortWord direction; start = at } ∷ words)
  port_back direction words none (kind, (range, (free, ((n, (first, rest)), e)))) =
      (one_item (port_item direction kind range n rest.names) (none, free, (first, rest.free)) rest.tail, ((refl, tt), e))

  net_back : (kind : NetKind) (words : List Placed) → Rest s state.NetStart (record r { kind = Some kind; range = None }) words
      → Rest s state.Items r (record { word = NetWord kind; start = at } ∷ words)
  net_back kind words ((None, (free, (n, (first, rest)))), e) = (one_item (net_item kind None n rest.names) (free, (first, rest.free)) rest.tail, ((refl, tt), e))
  net_back kind words ((Some range, (free, (n, (first, rest)))), e) =
      (one_item (net_item kind (Some range) n rest.names) (free, (first, rest.free)) rest.tail, ((refl, tt), e))

  gate_back : (kind : GateKind) (words : List Placed) → gate_cause s.default (first_word words None) ≡ None
      → Rest s state.GateStart (record r { gate = kind; delays = uniform_delays (unwrap_or s.default 0) }) words
      → Rest s state.Items r (record { word = GateWord kind; start = at } ∷ words)
  gate_back kind words none ((no_delay, (limits, (i, (free, rest)))), e) =
      let more : List Mark = trees.instances_marks s rest in
      let same : is_hash (first_word words None) ≡ false =
      ap is_hash (first_marked (instance_then i more) words None e) ∙ not_hash i.name (terminal_then i.first (terminals_then i.more more)) in
      let given : default_cause s.default ≡ None = sym (ap (λ (hash : Bool). cond hash None (default_cause s.default)) same) ∙ none in
      (one_item (gate_item kind no_delay i rest.more) (given, (free, rest.free)) rest.tail, ((refl, tt), e))
  gate_back kind words none ((one_delay d, (limits, (i, (free, rest)))), e) =
      (one_item (gate_item kind (one_delay d) i rest.more) (limits, (free, rest.free)) rest.tail, ((refl, tt), e))
  gate_back kind words none ((enclosed_delay d, (limits, (i, (free, rest)))), e) =
      (one_item (gate_item kind (enclosed_delay d) i rest.more) (limits, (free, rest.free)) rest.tail, ((refl, tt), e))
  gate_back kind words none ((two_delays rise fall, (limits, (i, (free, rest)))), e) =
      (one_item (gate_item kind (two_delays rise fall) i rest.more) (limits, (free, rest.free)) rest.tail, ((refl, tt), e))
  gate_back kind words none ((three_delays rise fall off, (limits, (i, (free, rest)))), e) =
      (one_item (gate_item kind (three_delays rise fall off) i rest.more) (limits, (free, rest.free)) rest.tail, ((refl, tt), e))

  end_back : (words : List Placed) → end_cause r ≡ None → Rest s state.Outside (finished r) words
      → Rest s state.Items r (record { word = Endmodule; start = at } ∷ words)
  end_back words none (parts, (e, (free, same))) =
      (record { items = []; parts = parts; items_free = tt; end_free = none; parts_free = free; last_same = same }, ((refl, tt), e))

  items_back : (w : Word) (words : List Placed) → RestIn s (items s.default r w (first_word words None)) words → Rest s state.Items r (record { word = w; start = at } ∷ words)
  items_back (PortWord direction) words rest =
      let x = through s (direction_cause r) state.PortStart (record r { direction = direction; kind = None; range = None }) words rest in
      port_back direction words x.0 (whole s declared.Port r direction words x.1)
  items_back (NetWord kind) words rest = net_back kind words rest
  items_back (GateWord kind) words rest =
      let now : Reading = record r { gate = kind; delays = uniform_delays (unwrap_or s.default 0) } in
      let x = through s (gate_cause s.default (first_word words None)) state.GateStart now words rest in gate_back kind words x.0 x.1
  items_back Endmodule words rest = let x = through s (end_cause r) state.Outside (finished r) words rest in end_back words x.0 x.1
  items_back (Name n) words (i, (free, (rest, e))) = (one_item (instance_item n i rest.more) (free, rest.free) rest.tail, ((refl, tt), e))
  items_back w words rest = absurd rest

  -- Texts.

  module_back : (words : List Placed) → Rest s state.ModuleName (record r { start = at }) words → Rest s state.Outside r (record { word = Module; start = at } ∷ words)
  module_back words (n, (none, (head, e))) = (
    module_part (record { start = at; name = n; header = head.header; items = head.tail.items }) ∷ head.tail.parts,
    (
      ((refl, refl), e),
      (
        (record { free = none; header_admitted = head.free; items_admitted = head.tail.items_free; directed = head.tail.end_free }, head.tail.parts_free),
        head.tail.last_same,
      ),
    ),
  )

  outside_back : (w : Word) (words : List Placed) → RestIn s (outside r at w) words → Rest s state.Outside r (record { word = w; start = at } ∷ words)
  outside_back (Timescale unit) words (parts, (e, (free, same))) = (directive unit ∷ parts, (((refl, tt), e), ((tt, free), same)))
  outside_back Module words rest = module_back words rest
  outside_back w words rest = absurd rest

  -- a word in front of the rest behind where it leads
  back : (from : ParserState) (w : Word) (words : List Placed) → RestIn s (turn s.default s.table r from (record { word = w; start = at }) (first_word words None)) words
      → Rest s from r (record { word = w; start = at } ∷ words)
  back state.Outside w words rest = outside_back w words rest
  back state.ModuleName w words rest = module_name_back s r at w words rest
  back state.ModuleHead w words rest = module_head_back s r at w words rest
  back state.Header w words rest = header_back s r at w words rest
  back state.OlderNext w words rest = older_next_back s r at w words rest
  back state.OlderName w words rest = older_name_back s r at w words rest
  back state.InlineStart w words rest = inline_start_back s r at w words rest
  back state.InlineKind w words rest = inline_kind_back s r at w words rest
  back state.InlineName w words rest = inline_name_back s r at w words rest
  back state.InlineNext w words rest = inline_next_back s r at w words rest
  back state.InlineMore w words rest = inline_more_back s r at w words rest
  back state.HeaderEnd w words rest = header_end_back s r at w words rest
  back state.Items w words rest = items_back w words rest
  back state.PortStart w words rest = port_start_back s r at w words rest
  back state.PortKind w words rest = port_kind_back s r at w words rest
  back state.PortName w words rest = port_name_back s r at w words rest
  back state.PortNext w words rest = port_next_back s r at w words rest
  back state.NetStart w words rest = net_start_back s r at w words rest
  back state.NetName w words rest = net_name_back s r at w words rest
  back state.NetNext w words rest = net_next_back s r at w words rest
  back (state.LeftBound of) w words rest = left_bound_back s of r at w words rest
  back (state.BoundColon of) w words rest = bound_colon_back s of r at w words rest
  back (state.RightBound of) w words rest = right_bound_back s of r at w words rest
  back (state.RangeEnd of) w words rest = range_end_back s of r at w words rest
  back state.GateStart w words rest = gate_start_back s r at w words rest
  back state.Delay w words rest = delay_back s r at w words rest
  back state.RiseDelay w words rest = rise_delay_back s r at w words rest
  back state.RiseEnd w words rest = rise_end_back s r at w words rest
  back state.FallDelay w words rest = fall_delay_back s r at w words rest
  back state.FallEnd w words rest = fall_end_back s r at w words rest
  back state.OffDelay w words rest = off_delay_back s r at w words rest
  back state.OffEnd w words rest = off_end_back s r at w words rest
  back state.InstanceStart w words rest = instance_start_back s r at w words rest
  back state.InstanceOpen w words rest = instance_open_back s r at w words rest
  back state.TerminalStart w words rest = terminal_start_back s r at (first_word words None) w words rest
  back state.TerminalEnd w words rest = terminal_end_back s r at w words rest
  back (state.IndexStart of) w words rest = index_start_back s of r at w words rest
  back (state.Index of) w words rest = index_back s of r at w words rest
  back (state.IndexEnd of) w words rest = index_end_back s of r at w words rest
  back state.InstanceEnd w words rest = instance_end_back s r at w words rest
  back state.ModuleInstanceName w words rest = module_instance_name_back s r at w words rest
  back state.ModuleInstanceOpen w words rest = module_instance_open_back s r at w words rest
  back state.Connections w words rest = connections_back s r at (first_word words None) w words rest
  back state.OrderedStart w words rest = ordered_start_back s r at (first_word words None) w words rest
  back state.OrderedEnd w words rest = ordered_end_back s r at w words rest
  back state.NamedStart w words rest = named_start_back s r at w words rest
  back state.NamedPort w words rest = named_port_back s r at w words rest
  back state.NamedOpen w words rest = named_open_back s r at w words rest
  back state.NamedTerminal w words rest = named_terminal_back s r at (first_word words None) w words rest
  back state.NamedClose w words rest = named_close_back s r at w words rest
  back state.NamedEnd w words rest = named_end_back s r at w words rest
  back state.ModuleInstanceEnd w words rest = module_instance_end_back s r at w words rest

rest_of : (s : Setting) (words : List Placed) (from : Walk) → Leads s.default s.table from words None (record { state = state.Outside; so_far = s.last })
    → Rest s from.state from.so_far words
rest_of s [] from e =
    let P : Walk → Type 0 = λ here. Rest s here.state here.so_far [] in
    subst P (sym e) ([], (tt, (tt, refl)))
rest_of s (p ∷ words) from leads =
    let P : Result Walk Cause → Type 0 = λ t. RestIn s t words in
    back s from.so_far p.start from.state p.word words (subst P (sym leads.1) (rest_of s words leads.0 leads.2))

-- what is read to its end is what some parts say, which these words write
pub written : (default : Option ℕ) (table : List (List ℕ)) (words : List Placed) (last : Reading)
    → Leads default table start words None (record { state = state.Outside; so_far = last })
    → (parts : List Part) × AreWritten parts words × ArePartsAdmitted default table unread parts × (last ≡ after_parts default table unread parts)
written default table words last leads =
    let rest = rest_of (record { default = default; table = table; last = last }) words start leads in
    (rest.0, rest.1.0, rest.1.1.0, rest.1.1.1)
