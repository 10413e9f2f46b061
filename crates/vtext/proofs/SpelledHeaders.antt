-- The words of headers are those of the grammar.
use Rattle.std.proofs.Common.{true, ℕ, List, [], ◌∷◌, Some, None, refl}
use Rattle.vtext.specs.declared.parser_state.Declared.TheVariants as declared
use Rattle.vtext.specs.declared.parser_state.ParserState.TheVariants as state
use Rattle.vtext.specs.declared.word.Direction.{Direction}
use Rattle.vtext.specs.declared.word.Word.{Word}
use Rattle.vtext.specs.declared.word.Word.TheVariants.{PortWord, NetWord, Name, Open, Close, Comma, Semicolon, OpenBracket}
use Rattle.vtext.specs.declared.word.Placed.{Placed}
use Rattle.vtext.specs.Causes.{header_cause, inline_cause, module_cause}
use Rattle.vtext.specs.Notes.{declare_port, list_port}
use Rattle.vtext.specs.Readings.{Reading}
use Rattle.vtext.specs.Trees.Header.{no_ports, empty_ports, older_ports, inline_ports}
use Rattle.vtext.specs.Trees.Port.{declared as decl, bare}
use Rattle.vtext.specs.Turns.{header, header_end, inline_kind, inline_more, inline_name, inline_next, inline_start, module_head, module_name, older_name, older_next}
use Rattle.vtext.proofs.RestTrees.{Setting}
use Rattle.vtext.proofs.Rests.{Rest, RestIn, through}
use Rattle.vtext.proofs.SpelledRanges.{Whole, bounds_back, rangeless_back, whole}

module _ (s : Setting) (r : Reading) (start : ℕ) where
  pub module_name_back : (w : Word) (words : List Placed) → RestIn s (module_name r w) words → Rest s state.ModuleName r (record { word = w; start = start } ∷ words)
  module_name_back (Name n) words rest =
      let x = through s (module_cause r n) state.ModuleHead (record r { name = n }) words rest in (n, (x.0, (x.1.0, ((refl, tt), x.1.1))))
  module_name_back w words rest = absurd rest

  pub module_head_back : (w : Word) (words : List Placed) → RestIn s (module_head r w) words → Rest s state.ModuleHead r (record { word = w; start = start } ∷ words)
  module_head_back Open words (head, e) = (head, e start)
  module_head_back Semicolon words (tail, e) = (record { header = no_ports; free = tt; tail = tail }, ((refl, tt), e))
  module_head_back w words rest = absurd rest

  pub header_end_back : (w : Word) (words : List Placed) → RestIn s (header_end r w) words → Rest s state.HeaderEnd r (record { word = w; start = start } ∷ words)
  header_end_back Semicolon words (tail, e) = (tail, ((refl, tt), e))
  header_end_back w words rest = absurd rest

  -- The older form.

  pub older_next_back : (w : Word) (words : List Placed) → RestIn s (older_next r w) words → Rest s state.OlderNext r (record { word = w; start = start } ∷ words)
  older_next_back Comma words (n, (none, (rest, e))) = (record { names = n ∷ rest.names; free = (none, rest.free); tail = rest.tail }, ((refl, tt), e))
  older_next_back Close words (tail, e) = (record { names = []; free = tt; tail = tail }, ((refl, tt), e))
  older_next_back w words rest = absurd rest

  pub older_name_back : (w : Word) (words : List Placed) → RestIn s (older_name r w) words → Rest s state.OlderName r (record { word = w; start = start } ∷ words)
  older_name_back (Name n) words rest = let x = through s (header_cause r n) state.OlderNext (list_port r n) words rest in (n, (x.0, (x.1.0, ((refl, tt), x.1.1))))
  older_name_back w words rest = absurd rest

  -- The inline form.

  pub inline_name_back : (w : Word) (words : List Placed) → RestIn s (inline_name s.table r w) words → Rest s state.InlineName r (record { word = w; start = start } ∷ words)
  inline_name_back (Name n) words rest =
      let x = through s (inline_cause s.table r n) state.InlineNext (declare_port r n) words rest in ((n, (x.0, x.1.0)), ((refl, tt), x.1.1))
  inline_name_back w words rest = absurd rest

  pub inline_kind_back : (w : Word) (words : List Placed) → RestIn s (inline_kind s.table r w) words → Rest s state.InlineKind r (record { word = w; start = start } ∷ words)
  inline_kind_back OpenBracket words rest = bounds_back s declared.InlinePort r start words rest
  inline_kind_back w words rest =
      rangeless_back s declared.InlinePort r start (record { word = w; start = start } ∷ words) (inline_name_back w words rest)

  pub inline_start_back : (w : Word) (words : List Placed) → RestIn s (inline_start s.table r w) words → Rest s state.InlineStart r (record { word = w; start = start } ∷ words)
  inline_start_back (NetWord kind) words (d, e) = ((Some kind, d), ((refl, tt), e))
  inline_start_back w words rest = let x = inline_kind_back w words rest in ((None, x.0), x.1)

  pub inline_next_back : (w : Word) (words : List Placed) → RestIn s (inline_next r w) words → Rest s state.InlineNext r (record { word = w; start = start } ∷ words)
  inline_next_back Comma words (ports, e) = (ports, e start)
  inline_next_back Close words (tail, e) = (record { ports = []; free = tt; tail = tail }, ((refl, tt), e))
  inline_next_back w words rest = absurd rest

  decl_back : (direction : Direction) (words : List Placed) → Whole s declared.InlinePort r direction words
      → Rest s state.InlineMore r (record { word = PortWord direction; start = start } ∷ words)
  decl_back direction words (kind, (range, (free, ((n, (none, rest)), e)))) = (
    record {
      ports = decl (record { direction = direction; kind = kind; range = range; name = n }) ∷ rest.ports;
      free = ((free, none), rest.free);
      tail = rest.tail;
    },
    λ place. ((refl, tt), ((refl, tt), e)),
  )

  pub inline_more_back : (w : Word) (words : List Placed) → RestIn s (inline_more s.table r w) words → Rest s state.InlineMore r (record { word = w; start = start } ∷ words)
  inline_more_back (PortWord direction) words rest = decl_back direction words (whole s declared.InlinePort r direction words rest)
  inline_more_back (Name n) words rest =
      let x = through s (inline_cause s.table r n) state.InlineNext (declare_port r n) words rest in
      (record { ports = bare n ∷ x.1.0.ports; free = (x.0, x.1.0.free); tail = x.1.0.tail }, λ place. ((refl, tt), ((refl, tt), x.1.1)))
  inline_more_back w words rest = absurd rest

  -- Headers.

  first_decl_back : (direction : Direction) (words : List Placed) → Whole s declared.InlinePort (record r { inline = true }) direction words
      → Rest s state.Header r (record { word = PortWord direction; start = start } ∷ words)
  first_decl_back direction words (kind, (range, (free, ((n, (none, rest)), e)))) = (
    record {
      header = inline_ports (record { direction = direction; kind = kind; range = range; name = n }) rest.ports;
      free = ((free, none), rest.free);
      tail = rest.tail;
    },
    λ place. ((refl, tt), ((refl, tt), e)),
  )

  pub header_back : (w : Word) (words : List Placed) → RestIn s (header r w) words → Rest s state.Header r (record { word = w; start = start } ∷ words)
  header_back (PortWord direction) words rest = first_decl_back direction words (whole s declared.InlinePort (record r { inline = true }) direction words rest)
  header_back Close words (tail, e) = (record { header = empty_ports; free = tt; tail = tail }, λ place. ((refl, tt), ((refl, tt), e)))
  header_back (Name n) words rest =
      let x = through s (header_cause r n) state.OlderNext (list_port r n) words rest in
      (record { header = older_ports n x.1.0.names; free = (x.0, x.1.0.free); tail = x.1.0.tail }, λ place. ((refl, tt), ((refl, tt), x.1.1)))
  header_back w words rest = absurd rest
