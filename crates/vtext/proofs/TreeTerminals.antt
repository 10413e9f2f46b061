-- A net, a bit of a vector or a constant is read where one may stand.
use Rattle.std.proofs.Common.{◌≡◌, Bool, false, cond, ℕ, List, [], ◌∷◌, Option, Some, None, refl, ap, ◌∙◌}
use Rattle.vtext.specs.declared.cause.Cause.{Cause}
use Rattle.vtext.specs.declared.gate.Terminal.{Terminal}
use Rattle.vtext.specs.declared.parser_state.Indexed.{Indexed}
use Rattle.vtext.specs.declared.parser_state.ParserState.{ParserState}
use Rattle.vtext.specs.declared.parser_state.ParserState.TheVariants.{Index, IndexEnd, IndexStart}
use Rattle.vtext.specs.declared.gate.Terminal.TheVariants.{Bit}
use Rattle.vtext.specs.declared.word.Word.{Word}
use Rattle.vtext.specs.declared.word.Word.TheVariants.{Name, OpenBracket}
use Rattle.vtext.specs.Causes.{index_cause, is_index, use_cause}
use Rattle.vtext.specs.Notes.{add_bit, note_index}
use Rattle.vtext.specs.Readings.{Reading}
use Rattle.vtext.specs.Trees.{IsBitAdmitted, Mark, places_then, plain, terminal_then}
use Rattle.vtext.specs.Turns.{Walk, behind, goes, index_name, turn, unless}
use Rattle.vtext.proofs.MarkLemmas.{first_of}
use Rattle.vtext.proofs.TreeWords as words
use Rattle.vtext.proofs.TreeWords.{free_word_read, word_read}

-- Behind a terminal no index begins.

pub places_end : (places : List (Option Terminal)) (rest : List Mark) (after : Option Word) → is_index (first_of (places_then places rest) after) ≡ false
places_end [] rest after = refl
places_end (place ∷ places) rest after = refl

module _ (default : Option ℕ) (table : List (List ℕ)) (after : Option Word) (end : Walk) where
  abbrev Reads : ParserState → Reading → List Mark → Type 0
  Reads = words.Reads default table after end

  -- a net, where no index follows its name
  pub net_read : (at to : ParserState) (r next : Reading) (n : ℕ) (of : Indexed) (found : Option Cause) (marks : List Mark) → is_index (first_of marks after) ≡ false → found ≡ None
      → ((start : ℕ) (w : Option Word) → turn default table r at (record { word = Name n; start = start }) w ≡ cond (is_index w) (index_name of table r n) (unless found (goes to next)))
      → Reads to next marks → Reads at r (plain (Name n) ∷ marks)
  net_read at to r next n of found marks apart none turns onward =
      free_word_read to next found none
      (λ start. turns start (first_of marks after) ∙ ap (λ (b : Bool). cond b (index_name of table r n) (unless found (goes to next))) apart) onward

  -- a bit, where the name of its vector may stand
  pub bit_read : (of : Indexed) (at : ParserState) (r : Reading) (n i : ℕ) (marks : List Mark) → IsBitAdmitted table r n i
      → ((start : ℕ) → turn default table r at (record { word = Name n; start = start }) (Some OpenBracket) ≡ index_name of table r n)
      → Reads (behind of) (add_bit of (note_index r n) i) marks → Reads at r (terminal_then (Bit n i) marks)
  bit_read of at r n i marks admitted turns onward =
      let named : Reading = note_index r n in
      let whole : Reading = add_bit of named i in
      free_word_read (IndexStart of) named (use_cause table r n) admitted.0 (λ start. turns start)
      (word_read (Index of) named (λ start. refl)
      (free_word_read (IndexEnd of) whole (index_cause named i) admitted.1 (λ start. refl)
      (word_read (behind of) whole (λ start. refl) onward)))
