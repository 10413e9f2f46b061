-- Declarations of nets and ports among the items of a module are read.
use Rattle.std.proofs.Common.{◌≡◌, ℕ, List, [], ◌∷◌, Option, Some, None, fold, refl}
use Rattle.fourstate.specs.declared.net.NetKind.{NetKind}
use Rattle.vtext.specs.declared.parser_state.Declared.TheVariants as declared
use Rattle.vtext.specs.declared.parser_state.ParserState.{ParserState}
use Rattle.vtext.specs.declared.parser_state.ParserState.TheVariants.{Items, NetName, NetNext, NetStart, PortKind, PortName, PortNext, PortStart}
use Rattle.vtext.specs.declared.range.Range.{Range}
use Rattle.vtext.specs.declared.word.Direction.{Direction}
use Rattle.vtext.specs.declared.word.Word.{Word}
use Rattle.vtext.specs.declared.word.Word.TheVariants.{Name, Semicolon}
use Rattle.vtext.specs.Causes.{direction_cause, net_cause, port_cause}
use Rattle.vtext.specs.Notes.{declare_net, direct_port}
use Rattle.vtext.specs.Readings.{Reading}
use Rattle.vtext.specs.Trees.{AreAdmitted, IsItemAdmitted, IsRangeAdmitted, Mark, after_item, item_then, names_then, plain, range_then}
use Rattle.vtext.specs.Trees.Item.{port_item, net_item}
use Rattle.vtext.specs.Turns.{Walk, port_name, turn}
use Rattle.vtext.proofs.TreeRanges.{range_read}
use Rattle.vtext.proofs.TreeWords as words
use Rattle.vtext.proofs.TreeWords.{free_word_read, word_read}

module _ (default : Option ℕ) (table : List (List ℕ)) (after : Option Word) (end : Walk) where
  abbrev Reads : ParserState → Reading → List Mark → Type 0
  Reads = words.Reads default table after end

  -- kind optional(range) NAME { , NAME } ;

  more_nets : (r : Reading) (names : List ℕ) (rest : List Mark) → AreAdmitted declare_net (λ now name. net_cause table now name ≡ None) r names
      → Reads Items (fold declare_net r names) rest → Reads NetNext r (names_then names (plain Semicolon ∷ rest))
  more_nets r [] rest admitted onward = word_read Items r (λ start. refl) onward
  more_nets r (n ∷ names) rest admitted onward =
      word_read NetName r (λ start. refl)
      (free_word_read NetNext (declare_net r n) (net_cause table r n) admitted.0 (λ start. refl) (more_nets (declare_net r n) names rest admitted.1 onward))

  -- behind the kind
  nets_read : (r : Reading) (range : Option Range) (n : ℕ) (names : List ℕ) (rest : List Mark) → IsRangeAdmitted range
      → AreAdmitted declare_net (λ now name. net_cause table now name ≡ None) (record r { range = range }) (n ∷ names)
      → Reads Items (fold declare_net (record r { range = range }) (n ∷ names)) rest
      → Reads NetStart (record r { range = None }) (range_then range (plain (Name n) ∷ names_then names (plain Semicolon ∷ rest)))
  nets_read r None n names rest bounds admitted onward =
      let now : Reading = record r { range = None } in
      free_word_read NetNext (declare_net now n) (net_cause table now n) admitted.0 (λ start. refl) (more_nets (declare_net now n) names rest admitted.1 onward)
  nets_read r (Some range) n names rest bounds admitted onward =
      let now : Reading = record r { range = Some range } in
      range_read default table after end declared.Net NetStart (record r { range = None }) range (plain (Name n) ∷ names_then names (plain Semicolon ∷ rest)) bounds (λ start next. refl)
      (free_word_read NetNext (declare_net now n) (net_cause table now n) admitted.0 (λ start. refl) (more_nets (declare_net now n) names rest admitted.1 onward))

  pub net_item_read : (r : Reading) (kind : NetKind) (range : Option Range) (n : ℕ) (names : List ℕ) (rest : List Mark)
      → IsItemAdmitted default table r (net_item kind range n names) → Reads Items (after_item default table r (net_item kind range n names)) rest
      → Reads Items r (item_then (net_item kind range n names) rest)
  net_item_read r kind range n names rest admitted onward =
      word_read NetStart (record r { kind = Some kind; range = None }) (λ start. refl)
      (nets_read (record r { kind = Some kind }) range n names rest admitted.0 admitted.1 onward)

  -- direction optional(kind) optional(range) NAME { , NAME } ;

  more_ports : (r : Reading) (names : List ℕ) (rest : List Mark) → AreAdmitted direct_port (λ now name. port_cause table now name ≡ None) r names
      → Reads Items (fold direct_port r names) rest → Reads PortNext r (names_then names (plain Semicolon ∷ rest))
  more_ports r [] rest admitted onward = word_read Items r (λ start. refl) onward
  more_ports r (n ∷ names) rest admitted onward =
      word_read PortName r (λ start. refl)
      (free_word_read PortNext (direct_port r n) (port_cause table r n) admitted.0 (λ start. refl) (more_ports (direct_port r n) names rest admitted.1 onward))

  -- where names of ports are wanted
  ports_read : (at : ParserState) (r : Reading) (n : ℕ) (names : List ℕ) (rest : List Mark)
      → ((start : ℕ) (next : Option Word) → turn default table r at (record { word = Name n; start = start }) next ≡ port_name table r (Name n))
      → AreAdmitted direct_port (λ now name. port_cause table now name ≡ None) r (n ∷ names)
      → Reads Items (fold direct_port r (n ∷ names)) rest → Reads at r (plain (Name n) ∷ names_then names (plain Semicolon ∷ rest))
  ports_read at r n names rest turns admitted onward =
      free_word_read PortNext (direct_port r n) (port_cause table r n) admitted.0 (λ start. turns start _) (more_ports (direct_port r n) names rest admitted.1 onward)

  pub port_item_read : (r : Reading) (direction : Direction) (kind : Option NetKind) (range : Option Range) (n : ℕ) (names : List ℕ) (rest : List Mark)
      → IsItemAdmitted default table r (port_item direction kind range n names) → Reads Items (after_item default table r (port_item direction kind range n names)) rest
      → Reads Items r (item_then (port_item direction kind range n names) rest)
  port_item_read r direction None None n names rest admitted onward =
      let now : Reading = record r { direction = direction; kind = None; range = None } in
      free_word_read PortStart now (direction_cause r) admitted.0 (λ start. refl)
      (ports_read PortStart now n names rest (λ start next. refl) admitted.2 onward)
  port_item_read r direction None (Some range) n names rest admitted onward =
      let now : Reading = record r { direction = direction; kind = None; range = None } in
      free_word_read PortStart now (direction_cause r) admitted.0 (λ start. refl)
      (range_read default table after end declared.Port PortStart now range (plain (Name n) ∷ names_then names (plain Semicolon ∷ rest)) admitted.1 (λ start next. refl)
      (ports_read PortName (record now { range = Some range }) n names rest (λ start next. refl) admitted.2 onward))
  port_item_read r direction (Some kind) None n names rest admitted onward =
      let now : Reading = record r { direction = direction; kind = None; range = None } in
      let then : Reading = record now { kind = Some kind } in
      free_word_read PortStart now (direction_cause r) admitted.0 (λ start. refl)
      (word_read PortKind then (λ start. refl)
      (ports_read PortKind then n names rest (λ start next. refl) admitted.2 onward))
  port_item_read r direction (Some kind) (Some range) n names rest admitted onward =
      let now : Reading = record r { direction = direction; kind = None; range = None } in
      let then : Reading = record now { kind = Some kind } in
      free_word_read PortStart now (direction_cause r) admitted.0 (λ start. refl)
      (word_read PortKind then (λ start. refl)
      (range_read default table after end declared.Port PortKind then range (plain (Name n) ∷ names_then names (plain Semicolon ∷ rest)) admitted.1 (λ start next. refl)
      (ports_read PortName (record then { range = Some range }) n names rest (λ start next. refl) admitted.2 onward)))
