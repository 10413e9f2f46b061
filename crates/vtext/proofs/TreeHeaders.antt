-- Headers of modules are read.
use Rattle.std.proofs.Common.{◌≡◌, true, ℕ, List, [], ◌∷◌, Option, Some, None, fold, refl}
use Rattle.fourstate.specs.declared.net.NetKind.{NetKind}
use Rattle.vtext.specs.declared.parser_state.Declared.TheVariants as ranged
use Rattle.vtext.specs.declared.parser_state.ParserState.{ParserState}
use Rattle.vtext.specs.declared.parser_state.ParserState.TheVariants.{HeaderEnd, InlineKind, InlineMore, InlineName, InlineNext, InlineStart, Items, ModuleHead, OlderName, OlderNext}
use Rattle.vtext.specs.declared.parser_state.ParserState.TheVariants as state
use Rattle.vtext.specs.declared.range.Range.{Range}
use Rattle.vtext.specs.declared.word.Direction.{Direction}
use Rattle.vtext.specs.declared.word.Word.{Word}
use Rattle.vtext.specs.declared.word.Word.TheVariants.{PortWord, Name, Close, Semicolon}
use Rattle.vtext.specs.Causes.{header_cause, inline_cause}
use Rattle.vtext.specs.Notes.{declare_port, list_port}
use Rattle.vtext.specs.Readings.{Reading}
use Rattle.vtext.specs.Trees.{AreAdmitted, ArePortsAdmitted, Header, IsDeclAdmitted, IsHeaderAdmitted, Mark, Port, after_decl, after_header, after_port, decl_then, header_then, names_then, plain, ports_then}
use Rattle.vtext.specs.Trees.Header.{no_ports, empty_ports, older_ports, inline_ports}
use Rattle.vtext.specs.Trees.Port.{declared, bare}
use Rattle.vtext.specs.Turns.{Walk, goes, inline_name, turn}
use Rattle.vtext.proofs.TreeRanges.{range_read}
use Rattle.vtext.proofs.TreeWords as words
use Rattle.vtext.proofs.TreeWords.{free_word_read, word_read}

module _ (default : Option ℕ) (table : List (List ℕ)) (after : Option Word) (end : Walk) where
  abbrev Reads : ParserState → Reading → List Mark → Type 0
  Reads = words.Reads default table after end

  -- its end
  closed_read : (r : Reading) (rest : List Mark) → Reads Items r rest → Reads HeaderEnd r (plain Semicolon ∷ rest)
  closed_read r rest onward = word_read Items r (λ start. refl) onward

  -- The older form.

  more_listed : (r : Reading) (names : List ℕ) (rest : List Mark) → AreAdmitted list_port (λ now name. header_cause now name ≡ None) r names
      → Reads Items (fold list_port r names) rest → Reads OlderNext r (names_then names (plain Close ∷ plain Semicolon ∷ rest))
  more_listed r [] rest admitted onward = word_read HeaderEnd r (λ start. refl) (closed_read r rest onward)
  more_listed r (n ∷ names) rest admitted onward =
      word_read OlderName r (λ start. refl)
      (free_word_read OlderNext (list_port r n) (header_cause r n) admitted.0 (λ start. refl) (more_listed (list_port r n) names rest admitted.1 onward))

  -- The inline form.

  -- where the name of a port is wanted
  inline_read : (at : ParserState) (r : Reading) (n : ℕ) (marks : List Mark)
      → ((start : ℕ) (next : Option Word) → turn default table r at (record { word = Name n; start = start }) next ≡ inline_name table r (Name n))
      → inline_cause table r n ≡ None → Reads InlineNext (declare_port r n) marks → Reads at r (plain (Name n) ∷ marks)
  inline_read at r n marks turns admitted onward =
      free_word_read InlineNext (declare_port r n) (inline_cause table r n) admitted (λ start. turns start _) onward

  -- where a declaration may stand; its direction makes the header one of the inline form, as in `inline`
  decl_read : (at : ParserState) (r inline : Reading) (direction : Direction) (kind : Option NetKind) (range : Option Range) (n : ℕ) (marks : List Mark)
      → ((start : ℕ) (next : Option Word) → turn default table r at (record { word = PortWord direction; start = start }) next
      ≡ goes InlineStart (record inline { direction = direction; kind = None; range = None }))
      → IsDeclAdmitted table inline (record { direction = direction; kind = kind; range = range; name = n })
      → Reads InlineNext (after_decl inline (record { direction = direction; kind = kind; range = range; name = n })) marks
      → Reads at r (decl_then (record { direction = direction; kind = kind; range = range; name = n }) marks)
  decl_read at r inline direction None None n marks turns admitted onward =
      let now : Reading = record inline { direction = direction; kind = None; range = None } in
      word_read InlineStart now (λ start. turns start _)
      (inline_read InlineStart now n marks (λ start next. refl) admitted.1 onward)
  decl_read at r inline direction None (Some range) n marks turns admitted onward =
      let now : Reading = record inline { direction = direction; kind = None; range = None } in
      word_read InlineStart now (λ start. turns start _)
      (range_read default table after end ranged.InlinePort InlineStart now range (plain (Name n) ∷ marks) admitted.0 (λ start next. refl)
      (inline_read InlineName (record now { range = Some range }) n marks (λ start next. refl) admitted.1 onward))
  decl_read at r inline direction (Some kind) None n marks turns admitted onward =
      let now : Reading = record inline { direction = direction; kind = None; range = None } in
      let then : Reading = record now { kind = Some kind } in
      word_read InlineStart now (λ start. turns start _)
      (word_read InlineKind then (λ start. refl)
      (inline_read InlineKind then n marks (λ start next. refl) admitted.1 onward))
  decl_read at r inline direction (Some kind) (Some range) n marks turns admitted onward =
      let now : Reading = record inline { direction = direction; kind = None; range = None } in
      let then : Reading = record now { kind = Some kind } in
      word_read InlineStart now (λ start. turns start _)
      (word_read InlineKind then (λ start. refl)
      (range_read default table after end ranged.InlinePort InlineKind then range (plain (Name n) ∷ marks) admitted.0 (λ start next. refl)
      (inline_read InlineName (record then { range = Some range }) n marks (λ start next. refl) admitted.1 onward)))

  more_declared : (r : Reading) (others : List Port) (rest : List Mark) → ArePortsAdmitted table r others
      → Reads Items (fold after_port r others) rest → Reads InlineNext r (ports_then others (plain Close ∷ plain Semicolon ∷ rest))
  more_declared r [] rest admitted onward = word_read HeaderEnd r (λ start. refl) (closed_read r rest onward)
  more_declared r (declared decl ∷ others) rest admitted onward =
      word_read InlineMore r (λ start. refl)
      (decl_read InlineMore r r decl.direction decl.kind decl.range decl.name (ports_then others (plain Close ∷ plain Semicolon ∷ rest)) (λ start next. refl) admitted.0
      (more_declared (after_decl r decl) others rest admitted.1 onward))
  more_declared r (bare n ∷ others) rest admitted onward =
      word_read InlineMore r (λ start. refl)
      (inline_read InlineMore r n (ports_then others (plain Close ∷ plain Semicolon ∷ rest)) (λ start next. refl) admitted.0
      (more_declared (declare_port r n) others rest admitted.1 onward))

  pub header_read : (r : Reading) (header : Header) (rest : List Mark) → IsHeaderAdmitted table r header → Reads Items (after_header r header) rest
      → Reads ModuleHead r (header_then header rest)
  header_read r no_ports rest admitted onward = word_read Items r (λ start. refl) onward
  header_read r empty_ports rest admitted onward =
      word_read state.Header r (λ start. refl) (word_read HeaderEnd r (λ start. refl) (closed_read r rest onward))
  header_read r (older_ports n names) rest admitted onward =
      word_read state.Header r (λ start. refl)
      (free_word_read OlderNext (list_port r n) (header_cause r n) admitted.0 (λ start. refl) (more_listed (list_port r n) names rest admitted.1 onward))
  header_read r (inline_ports decl others) rest admitted onward =
      let inline : Reading = record r { inline = true } in
      word_read state.Header r (λ start. refl)
      (decl_read state.Header r inline decl.direction decl.kind decl.range decl.name (ports_then others (plain Close ∷ plain Semicolon ∷ rest)) (λ start next. refl) admitted.0
      (more_declared (after_decl inline decl) others rest admitted.1 onward))
