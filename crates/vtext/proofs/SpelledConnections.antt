-- The words of instances of modules are those of the grammar.
use Rattle.std.proofs.Common.{◌≡◌, ◌≢◌, ◌⊎◌, inl, inr, ℕ, List, [], ◌∷◌, Option, Some, None, refl}
use Rattle.vtext.specs.declared.gate.Terminal.TheVariants.{Net, Bit, Constant}
use Rattle.vtext.specs.declared.parser_state.Indexed.{Indexed}
use Rattle.vtext.specs.declared.parser_state.Indexed.TheVariants as indexed
use Rattle.vtext.specs.declared.parser_state.ParserState.TheVariants as state
use Rattle.vtext.specs.declared.word.Word.{Word}
use Rattle.vtext.specs.declared.word.Word.TheVariants.{Name, Literal, Open, Close, Comma, Semicolon, Dot}
use Rattle.vtext.specs.declared.word.Placed.{Placed}
use Rattle.vtext.specs.Causes.{instance_cause, is_index, use_cause}
use Rattle.vtext.specs.Notes.{connect, name_module_instance, note_index}
use Rattle.vtext.specs.Readings.{Reading}
use Rattle.vtext.specs.Trees.{AreMarked}
use Rattle.vtext.specs.Trees.Connections.{no_connections, by_order, by_order_late, by_name}
use Rattle.vtext.specs.Turns.{behind, connected, connections, index_name, list_next, module_instance_name, module_instance_open, named_close, named_end, named_open, named_port, named_start, named_terminal, ordered_end, ordered_start, plain_connection}
use Rattle.vtext.proofs.RestTrees.{Setting}
use Rattle.vtext.proofs.RestTrees as trees
use Rattle.vtext.proofs.Rests.{Rest, RestIn, either, through}
use Rattle.vtext.proofs.SpelledIndexes.{behind_rest}

module _ (s : Setting) (r : Reading) (start : ℕ) where
  pub module_instance_name_back : (w : Word) (words : List Placed) → RestIn s (module_instance_name r start w) words
      → Rest s state.ModuleInstanceName r (record { word = w; start = start } ∷ words)
  module_instance_name_back (Name n) words rest =
      let x = through s (instance_cause r n) state.ModuleInstanceOpen (name_module_instance r start n) words rest in
      let connected = x.1.0 in
      (record { start = start; name = n; connections = connected.0 }, (record { name = x.0; connections = connected.1.0 }, (connected.1.1, ((refl, refl), x.1.1))))
  module_instance_name_back w words rest = absurd rest

  pub module_instance_open_back : (w : Word) (words : List Placed) → RestIn s (module_instance_open r w) words
      → Rest s state.ModuleInstanceOpen r (record { word = w; start = start } ∷ words)
  module_instance_open_back Open words (rest, e) = (rest, ((refl, tt), e))
  module_instance_open_back w words rest = absurd rest

  pub module_instance_end_back : (w : Word) (words : List Placed) → RestIn s (list_next state.ModuleInstanceName r w) words
      → Rest s state.ModuleInstanceEnd r (record { word = w; start = start } ∷ words)
  module_instance_end_back Comma words (i, (free, (rest, e))) = (record { more = i ∷ rest.more; free = (free, rest.free); tail = rest.tail }, ((refl, tt), e))
  module_instance_end_back Semicolon words (tail, e) = (record { more = []; free = tt; tail = tail }, ((refl, tt), e))
  module_instance_end_back w words rest = absurd rest

  -- Terminals.

  -- a terminal that a port is connected to, and what is left behind it
  abbrev Terminated : Indexed → List Placed → Type 0
  Terminated of words = (rest : trees.Terminated s of r) × AreMarked (trees.terminated_marks s of r rest) words

  -- a bit of a net
  bit_back : (of : Indexed) (n : ℕ) (words : List Placed) → of ≢ indexed.Gate → RestIn s (index_name of s.table r n) words
      → Terminated of (record { word = Name n; start = start } ∷ words)
  bit_back of n words apart rest =
      let x = through s (use_cause s.table r n) (state.IndexStart of) (note_index r n) words rest in
      bit of apart x.0 x.1
    where
      bit : (of : Indexed) → of ≢ indexed.Gate → use_cause s.table r n ≡ None → Rest s (state.IndexStart of) (note_index r n) words
          → Terminated of (record { word = Name n; start = start } ∷ words)
      bit indexed.Gate apart none rest = absurd (apart refl)
      bit indexed.Ordered apart none ((i, (free, rest)), e) = ((Bit n i, ((none, free), rest)), ((refl, tt), e))
      bit indexed.Named apart none ((i, (free, rest)), e) = ((Bit n i, ((none, free), rest)), ((refl, tt), e))

  -- a net, with an index or without one
  net_back : (of : Indexed) (n : ℕ) (words : List Placed) → of ≢ indexed.Gate → RestIn s (index_name of s.table r n) words ⊎ RestIn s (plain_connection of s.table r n) words
      → Terminated of (record { word = Name n; start = start } ∷ words)
  net_back of n words apart (inl rest) = bit_back of n words apart rest
  net_back of n words apart (inr rest) =
      let x = through s (use_cause s.table r n) (behind of) (connect r (Some (Net n))) words rest in
      let y = behind_rest s of (connect r (Some (Net n))) words x.1 in
      ((Net n, (x.0, y.0)), ((refl, tt), y.1))

  connected_back : (of : Indexed) (after : Option Word) (w : Word) (words : List Placed) → of ≢ indexed.Gate → RestIn s (connected of s.table r w after) words
      → Terminated of (record { word = w; start = start } ∷ words)
  connected_back of after (Name n) words apart rest =
      net_back of n words apart (either s (is_index after) (index_name of s.table r n) (plain_connection of s.table r n) words rest)
  connected_back of after (Literal value) words apart rest =
      let y = behind_rest s of (connect r (Some (Constant value))) words rest in ((Constant value, (tt, y.0)), ((refl, tt), y.1))
  connected_back of after w words apart rest = absurd rest

  -- By order.

  pub connections_back : (after : Option Word) (w : Word) (words : List Placed) → RestIn s (connections s.table r w after) words
      → Rest s state.Connections r (record { word = w; start = start } ∷ words)
  connections_back after Close words (rest, e) = ((no_connections, (tt, rest)), ((refl, tt), e))
  connections_back after Dot words ((c, (free, rest)), e) = ((by_name c rest.more, ((free, rest.free), rest.instances)), ((refl, tt), e))
  connections_back after Comma words (place, (free, (rest, e))) =
      ((by_order_late place rest.places, ((tt, (free, rest.free)), rest.instances)), ((refl, tt), e))
  connections_back after w words rest =
      let x = connected_back indexed.Ordered after w words (λ same. absurd cc) rest in
      ((by_order x.0.0 x.0.1.1.places, ((x.0.1.0, x.0.1.1.free), x.0.1.1.instances)), x.1)

  pub ordered_start_back : (after : Option Word) (w : Word) (words : List Placed) → RestIn s (ordered_start s.table r w after) words
      → Rest s state.OrderedStart r (record { word = w; start = start } ∷ words)
  ordered_start_back after Comma words (place, (free, (rest, e))) =
      (None, (tt, (record { places = place ∷ rest.places; free = (free, rest.free); instances = rest.instances }, ((refl, tt), e))))
  ordered_start_back after Close words (rest, e) = (None, (tt, (record { places = []; free = tt; instances = rest }, ((refl, tt), e))))
  ordered_start_back after w words rest =
      let x = connected_back indexed.Ordered after w words (λ same. absurd cc) rest in (Some x.0.0, (x.0.1.0, (x.0.1.1, x.1)))

  pub ordered_end_back : (w : Word) (words : List Placed) → RestIn s (ordered_end r w) words → Rest s state.OrderedEnd r (record { word = w; start = start } ∷ words)
  ordered_end_back Comma words (place, (free, (rest, e))) =
      (record { places = place ∷ rest.places; free = (free, rest.free); instances = rest.instances }, ((refl, tt), e))
  ordered_end_back Close words (rest, e) = (record { places = []; free = tt; instances = rest }, ((refl, tt), e))
  ordered_end_back w words rest = absurd rest

  -- By name.

  pub named_start_back : (w : Word) (words : List Placed) → RestIn s (named_start r w) words → Rest s state.NamedStart r (record { word = w; start = start } ∷ words)
  named_start_back Dot words (rest, e) = (rest, ((refl, tt), e))
  named_start_back w words rest = absurd rest

  pub named_port_back : (w : Word) (words : List Placed) → RestIn s (named_port r w) words → Rest s state.NamedPort r (record { word = w; start = start } ∷ words)
  named_port_back (Name n) words ((place, (free, rest)), e) = ((record { port = n; terminal = place }, (free, rest)), ((refl, tt), e))
  named_port_back w words rest = absurd rest

  pub named_open_back : (w : Word) (words : List Placed) → RestIn s (named_open r w) words → Rest s state.NamedOpen r (record { word = w; start = start } ∷ words)
  named_open_back Open words (rest, e) = (rest, ((refl, tt), e))
  named_open_back w words rest = absurd rest

  pub named_terminal_back : (after : Option Word) (w : Word) (words : List Placed) → RestIn s (named_terminal s.table r w after) words
      → Rest s state.NamedTerminal r (record { word = w; start = start } ∷ words)
  named_terminal_back after Close words (rest, e) = ((None, (tt, rest)), ((refl, tt), e))
  named_terminal_back after w words rest =
      let x = connected_back indexed.Named after w words (λ same. absurd cc) rest in ((Some x.0.0, (x.0.1.0, x.0.1.1)), x.1)

  pub named_close_back : (w : Word) (words : List Placed) → RestIn s (named_close r w) words → Rest s state.NamedClose r (record { word = w; start = start } ∷ words)
  named_close_back Close words (rest, e) = (rest, ((refl, tt), e))
  named_close_back w words rest = absurd rest

  pub named_end_back : (w : Word) (words : List Placed) → RestIn s (named_end r w) words → Rest s state.NamedEnd r (record { word = w; start = start } ∷ words)
  named_end_back Comma words ((c, (free, rest)), e) = (record { more = c ∷ rest.more; free = (free, rest.free); instances = rest.instances }, ((refl, tt), e))
  named_end_back Close words (rest, e) = (record { more = []; free = tt; instances = rest }, ((refl, tt), e))
  named_end_back w words rest = absurd rest
