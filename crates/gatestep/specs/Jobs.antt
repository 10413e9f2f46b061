-- What jobs ask.
use Rattle.std.specs.Prelude.{◌≡◌, List, ◌++◌, IsPermutation}

-- a list is a beginning of another one
abbrev pub IsBeginning : {A : Type 0} → (piece whole : List A) → Type 0
IsBeginning {A = A} piece whole = (rest : List A) × (whole ≡ piece ++ rest)

-- a list is a part of another one: with some more elements it has the same ones, in some order
abbrev pub IsPart : {A : Type 0} → (part whole : List A) → Type 0
IsPart {A = A} part whole = (rest : List A) × IsPermutation whole (part ++ rest)
