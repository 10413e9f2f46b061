-- Words that fit marks.
use Rattle.std.proofs.Common.{◌≡◌, List, [], ◌∷◌, Option, Some, refl, ap}
use Rattle.vtext.specs.declared.word.Word.{Word}
use Rattle.vtext.specs.declared.word.Placed.{Placed}
use Rattle.vtext.specs.Trees.{AreMarked, Mark}
use Rattle.vtext.specs.Walks.{first_word}

-- the first word of the marks, which are followed by this word
abbrev pub first_of : List Mark → Option Word → Option Word
first_of [] after = after
first_of (m ∷ marks) after = Some m.word

pub first_marked : (marks : List Mark) (words : List Placed) (after : Option Word) → AreMarked marks words → first_word words after ≡ first_of marks after
first_marked [] [] after marked = refl
first_marked (m ∷ marks) (p ∷ words) after marked = ap (λ (w : Word). Some w) marked.0.0
first_marked [] (p ∷ words) after marked = absurd marked
first_marked (m ∷ marks) [] after marked = absurd marked
