-- Things dealt to two in turn.
use Rattle.std.specs.Prelude.{List, [], ◌∷◌}
use Rattle.edits.specs.declared.edit.Edit.{Edit}

-- what the first and the second of two get: the first one gets the first thing, and from then on the other one is the first
abbrev pub in_turn : List (List Edit) → List (List Edit) × List (List Edit)
in_turn [] = ([], [])
in_turn (x ∷ xs) = (x ∷ (in_turn xs).1, (in_turn xs).0)
