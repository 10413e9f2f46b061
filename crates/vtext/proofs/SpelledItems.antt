-- The words of port declarations and net declarations are those of the grammar.
use Rattle.std.proofs.Common.{ℕ, List, [], ◌∷◌, Some, None, refl}
use Rattle.vtext.specs.declared.parser_state.Declared.TheVariants as declared
use Rattle.vtext.specs.declared.parser_state.ParserState.TheVariants as state
use Rattle.vtext.specs.declared.word.Word.{Word}
use Rattle.vtext.specs.declared.word.Word.TheVariants.{NetWord, Name, Comma, Semicolon, OpenBracket}
use Rattle.vtext.specs.declared.word.Placed.{Placed}
use Rattle.vtext.specs.Causes.{net_cause, port_cause}
use Rattle.vtext.specs.Notes.{declare_net, direct_port}
use Rattle.vtext.specs.Readings.{Reading}
use Rattle.vtext.specs.Turns.{list_next, net_name, net_start, port_kind, port_name, port_start}
use Rattle.vtext.proofs.RestTrees.{Setting}
use Rattle.vtext.proofs.Rests.{Rest, RestIn, through}
use Rattle.vtext.proofs.SpelledRanges.{bounds_back, rangeless_back}

module _ (s : Setting) (r : Reading) (start : ℕ) where
  -- Ports.

  pub port_name_back : (w : Word) (words : List Placed) → RestIn s (port_name s.table r w) words → Rest s state.PortName r (record { word = w; start = start } ∷ words)
  port_name_back (Name n) words rest = let x = through s (port_cause s.table r n) state.PortNext (direct_port r n) words rest in ((n, (x.0, x.1.0)), ((refl, tt), x.1.1))
  port_name_back w words rest = absurd rest

  pub port_kind_back : (w : Word) (words : List Placed) → RestIn s (port_kind s.table r w) words → Rest s state.PortKind r (record { word = w; start = start } ∷ words)
  port_kind_back OpenBracket words rest = bounds_back s declared.Port r start words rest
  port_kind_back w words rest = rangeless_back s declared.Port r start (record { word = w; start = start } ∷ words) (port_name_back w words rest)

  pub port_start_back : (w : Word) (words : List Placed) → RestIn s (port_start s.table r w) words → Rest s state.PortStart r (record { word = w; start = start } ∷ words)
  port_start_back (NetWord kind) words (d, e) = ((Some kind, d), ((refl, tt), e))
  port_start_back w words rest = let x = port_kind_back w words rest in ((None, x.0), x.1)

  pub port_next_back : (w : Word) (words : List Placed) → RestIn s (list_next state.PortName r w) words → Rest s state.PortNext r (record { word = w; start = start } ∷ words)
  port_next_back Comma words ((n, (none, rest)), e) = (record { names = n ∷ rest.names; free = (none, rest.free); tail = rest.tail }, ((refl, tt), e))
  port_next_back Semicolon words (tail, e) = (record { names = []; free = tt; tail = tail }, ((refl, tt), e))
  port_next_back w words rest = absurd rest

  -- Nets.

  pub net_name_back : (w : Word) (words : List Placed) → RestIn s (net_name s.table r w) words → Rest s state.NetName r (record { word = w; start = start } ∷ words)
  net_name_back (Name n) words rest = let x = through s (net_cause s.table r n) state.NetNext (declare_net r n) words rest in ((n, (x.0, x.1.0)), ((refl, tt), x.1.1))
  net_name_back w words rest = absurd rest

  pub net_start_back : (w : Word) (words : List Placed) → RestIn s (net_start s.table r w) words → Rest s state.NetStart r (record { word = w; start = start } ∷ words)
  net_start_back OpenBracket words rest = bounds_back s declared.Net r start words rest
  net_start_back w words rest = rangeless_back s declared.Net r start (record { word = w; start = start } ∷ words) (net_name_back w words rest)

  pub net_next_back : (w : Word) (words : List Placed) → RestIn s (list_next state.NetName r w) words → Rest s state.NetNext r (record { word = w; start = start } ∷ words)
  net_next_back Comma words ((n, (none, rest)), e) = (record { names = n ∷ rest.names; free = (none, rest.free); tail = rest.tail }, ((refl, tt), e))
  net_next_back Semicolon words (tail, e) = (record { names = []; free = tt; tail = tail }, ((refl, tt), e))
  net_next_back w words rest = absurd rest
