-- The words of indexes are those of the grammar.
use Rattle.std.proofs.Common.{ℕ, List, ◌∷◌, refl}
use Rattle.vtext.specs.declared.parser_state.Indexed.{Indexed}
use Rattle.vtext.specs.declared.parser_state.Indexed.TheVariants as indexed
use Rattle.vtext.specs.declared.parser_state.ParserState.TheVariants as state
use Rattle.vtext.specs.declared.word.Word.{Word}
use Rattle.vtext.specs.declared.word.Word.TheVariants.{Number, OpenBracket, CloseBracket}
use Rattle.vtext.specs.declared.word.Placed.{Placed}
use Rattle.vtext.specs.Causes.{index_cause}
use Rattle.vtext.specs.Notes.{add_bit}
use Rattle.vtext.specs.Readings.{Reading}
use Rattle.vtext.specs.Trees.{AreMarked}
use Rattle.vtext.specs.Turns.{behind, index, index_end, index_start}
use Rattle.vtext.proofs.RestTrees.{Setting}
use Rattle.vtext.proofs.RestTrees as trees
use Rattle.vtext.proofs.Rests.{Rest, RestIn, through}

module _ (s : Setting) where
  -- what is left behind a terminal, by where it stands
  pub behind_rest : (of : Indexed) (r : Reading) (words : List Placed) → Rest s (behind of) r words
      → (rest : trees.Behind s of r) × AreMarked (trees.behind_marks s of r rest) words
  behind_rest indexed.Gate r words rest = rest
  behind_rest indexed.Ordered r words rest = rest
  behind_rest indexed.Named r words rest = rest

module _ (s : Setting) (of : Indexed) (r : Reading) (start : ℕ) where
  pub index_start_back : (w : Word) (words : List Placed) → RestIn s (index_start of r w) words → Rest s (state.IndexStart of) r (record { word = w; start = start } ∷ words)
  index_start_back OpenBracket words (rest, e) = (rest, ((refl, tt), e))
  index_start_back w words rest = absurd rest

  pub index_back : (w : Word) (words : List Placed) → RestIn s (index of r w) words → Rest s (state.Index of) r (record { word = w; start = start } ∷ words)
  index_back (Number i) words rest = let x = through s (index_cause r i) (state.IndexEnd of) (add_bit of r i) words rest in ((i, (x.0, x.1.0)), ((refl, tt), x.1.1))
  index_back w words rest = absurd rest

  pub index_end_back : (w : Word) (words : List Placed) → RestIn s (index_end of r w) words → Rest s (state.IndexEnd of) r (record { word = w; start = start } ∷ words)
  index_end_back CloseBracket words rest = let x = behind_rest s of r words rest in (x.0, ((refl, tt), x.1))
  index_end_back w words rest = absurd rest
