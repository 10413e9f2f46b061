-- A range of a declaration is read.
use Rattle.std.proofs.Common.{◌≡◌, ℕ, List, Option, Some, refl}
use Rattle.vtext.specs.declared.parser_state.Declared.{Declared}
use Rattle.vtext.specs.declared.parser_state.ParserState.{ParserState}
use Rattle.vtext.specs.declared.parser_state.ParserState.TheVariants.{BoundColon, LeftBound, RangeEnd, RightBound}
use Rattle.vtext.specs.declared.range.Range.{Range}
use Rattle.vtext.specs.declared.word.Word.{Word}
use Rattle.vtext.specs.declared.word.Word.TheVariants.{OpenBracket}
use Rattle.vtext.specs.Causes.{bound_cause}
use Rattle.vtext.specs.Readings.{Reading}
use Rattle.vtext.specs.Trees.{IsRangeAdmitted, Mark, range_then}
use Rattle.vtext.specs.Turns.{Walk, goes, names_of, turn}
use Rattle.vtext.proofs.TreeWords.{Reads, free_word_read, word_read}

module _ (default : Option ℕ) (table : List (List ℕ)) (after : Option Word) (end : Walk) where
  -- from where a range may stand
  pub range_read : (of : Declared) (at : ParserState) (r : Reading) (range : Range) (marks : List Mark) → IsRangeAdmitted (Some range)
      → ((start : ℕ) (next : Option Word) → turn default table r at (record { word = OpenBracket; start = start }) next ≡ goes (LeftBound of) r)
      → Reads default table after end (names_of of) (record r { range = Some range }) marks
      → Reads default table after end at r (range_then (Some range) marks)
  range_read of at r range marks admitted opens onward =
      let half : Reading = record r { range = Some (record { left = range.left; right = range.left }) } in
      let whole : Reading = record r { range = Some range } in
      word_read (LeftBound of) r (λ start. opens start _)
      (free_word_read (BoundColon of) half (bound_cause range.left) admitted.0 (λ start. refl)
      (word_read (RightBound of) half (λ start. refl)
      (free_word_read (RangeEnd of) whole (bound_cause range.right) admitted.1 (λ start. refl)
      (word_read (names_of of) whole (λ start. refl) onward))))
