-- The words of ranges, and of declarations with or without one, are those of the grammar.
use Rattle.std.proofs.Common.{ℕ, List, ◌∷◌, Option, Some, None, refl}
use Rattle.fourstate.specs.declared.net.NetKind.{NetKind}
use Rattle.vtext.specs.declared.parser_state.Declared.{Declared}
use Rattle.vtext.specs.declared.parser_state.Declared.TheVariants as declared
use Rattle.vtext.specs.declared.parser_state.ParserState.TheVariants as state
use Rattle.vtext.specs.declared.range.Range.{Range}
use Rattle.vtext.specs.declared.word.Direction.{Direction}
use Rattle.vtext.specs.declared.word.Word.{Word}
use Rattle.vtext.specs.declared.word.Word.TheVariants.{Number, Colon, OpenBracket, CloseBracket}
use Rattle.vtext.specs.declared.word.Placed.{Placed}
use Rattle.vtext.specs.Causes.{bound_cause}
use Rattle.vtext.specs.Readings.{Reading}
use Rattle.vtext.specs.Trees.{AreMarked, IsRangeAdmitted, kind_then, range_then}
use Rattle.vtext.specs.Turns.{bound_colon, left_bound, names_of, range_end, right_bound, with_right}
use Rattle.vtext.proofs.RestTrees.{Setting}
use Rattle.vtext.proofs.RestTrees as trees
use Rattle.vtext.proofs.Rests.{Rest, RestIn, through}

module _ (s : Setting) (of : Declared) (r : Reading) (start : ℕ) where
  pub left_bound_back : (w : Word) (words : List Placed) → RestIn s (left_bound of r w) words → Rest s (state.LeftBound of) r (record { word = w; start = start } ∷ words)
  left_bound_back (Number n) words rest =
      let x = through s (bound_cause n) (state.BoundColon of) (record r { range = Some (record { left = n; right = n }) }) words rest in
      ((record { left = n; right = x.1.0.0 }, ((x.0, x.1.0.1.0), x.1.0.1.1)), ((refl, tt), x.1.1))
  left_bound_back w words rest = absurd rest

  pub bound_colon_back : (w : Word) (words : List Placed) → RestIn s (bound_colon of r w) words → Rest s (state.BoundColon of) r (record { word = w; start = start } ∷ words)
  bound_colon_back Colon words (rest, e) = (rest, ((refl, tt), e))
  bound_colon_back w words rest = absurd rest

  pub right_bound_back : (w : Word) (words : List Placed) → RestIn s (right_bound of r w) words → Rest s (state.RightBound of) r (record { word = w; start = start } ∷ words)
  right_bound_back (Number n) words rest =
      let x = through s (bound_cause n) (state.RangeEnd of) (record r { range = with_right r.range n }) words rest in
      ((n, (x.0, x.1.0)), ((refl, tt), x.1.1))
  right_bound_back w words rest = absurd rest

  pub range_end_back : (w : Word) (words : List Placed) → RestIn s (range_end of r w) words → Rest s (state.RangeEnd of) r (record { word = w; start = start } ∷ words)
  range_end_back CloseBracket words rest = let x = named of r words rest in (x.0, ((refl, tt), x.1))
    where
      named : (of : Declared) (r : Reading) (words : List Placed) → Rest s (names_of of) r words
          → (d : trees.Declaration s of r) × AreMarked (trees.declaration_marks s of r d) words
      named declared.InlinePort r words rest = rest
      named declared.Port r words rest = rest
      named declared.Net r words rest = rest
  range_end_back w words rest = absurd rest

  -- Where a range may stand.

  -- a declaration with a range, behind its bracket
  pub bounds_back : (words : List Placed) → Rest s (state.LeftBound of) r words
      → (d : trees.Ranged s of r) × AreMarked (trees.ranged_marks s of r d) (record { word = OpenBracket; start = start } ∷ words)
  bounds_back words (bounds, e) = ((Some bounds.0, (bounds.1.0, bounds.1.1)), ((refl, tt), e))

  -- a declaration without one
  pub rangeless_back : (words : List Placed) → (d : trees.Declaration s of r) × AreMarked (trees.declaration_marks s of r d) words
      → (d : trees.Ranged s of r) × AreMarked (trees.ranged_marks s of r d) words
  rangeless_back words (d, e) = ((None, (tt, d)), e)

-- a whole declaration, with this direction
module _ (s : Setting) (of : Declared) (r : Reading) (direction : Direction) where
  abbrev pub Whole : List Placed → Type 0
  Whole words =
      (kind : Option NetKind) × ((range : Option Range) × (IsRangeAdmitted range × ((d : trees.Declaration s of (record r { direction = direction; kind = kind; range = range }))
      × AreMarked (kind_then kind (range_then range (trees.declaration_marks s of (record r { direction = direction; kind = kind; range = range }) d))) words)))

  abbrev bare : Reading
  bare = record r { direction = direction; kind = None; range = None }

  pub whole : (words : List Placed) → (d : trees.Kinded s of bare) × AreMarked (trees.kinded_marks s of bare d) words → Whole words
  whole words ((None, (None, (free, d))), e) = (None, (None, (free, (d, e))))
  whole words ((None, (Some range, (free, d))), e) = (None, (Some range, (free, (d, e))))
  whole words ((Some kind, (None, (free, d))), e) = (Some kind, (None, (free, (d, e))))
  whole words ((Some kind, (Some range, (free, d))), e) = (Some kind, (Some range, (free, (d, e))))
