-- Lists that are kept in chunks, so that a copy shares those that it does not change.
use Rattle.std.specs.Prelude.{◌≡◌, ℕ, ◌<◌, ◌≤◌, List, [], ◌∷◌, length, Vec}
use Rattle.std.specs.Arc.{arc_value}
use Rattle.std.specs.Global.{Global}
use Rattle.std.specs.List.{flat_map}
use Rattle.std.specs.declared.sync.Arc.{Arc}

-- each chunk has at most so many elements, and each but the last has just as many
abbrev pub AreFull : {C X : Type 0} → (C → List X) → ℕ → List C → Type 0
AreFull items n [] = Unit {0}
AreFull items n (c ∷ cs) = (length (items c) ≤ n) × (0 < length cs → length (items c) ≡ n) × AreFull items n cs

-- the elements of a chunk
abbrev pub items_in : {X : Type 0} → Arc (Vec X Global) Global → List X
items_in chunk = (arc_value chunk).items

-- the elements of all chunks
abbrev pub items_of : {X : Type 0} → List (Arc (Vec X Global) Global) → List X
items_of chunks = flat_map items_in chunks

-- the elements of a branch
abbrev pub row_in : {X : Type 0} → Arc (List X) Global → List X
row_in branch = arc_value branch

-- the elements of all branches
abbrev pub rows_of : {X : Type 0} → List (Arc (List X) Global) → List X
rows_of branches = flat_map row_in branches
