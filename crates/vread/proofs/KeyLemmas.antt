-- Places in lists.
use Rattle.std.proofs.Common.{ℕ, zero, suc, ◌<◌, List, [], ◌∷◌, length, IsSome, slice_get, arith}

-- where something stands, a place is within the list
pub some_within : {X : Type 0} (xs : List X) (place : ℕ) → IsSome (slice_get xs place) → place < length xs
some_within [] place there = cc
some_within (x ∷ xs) zero there = omega arith
some_within (x ∷ xs) (suc place) there = omega (arith, some_within xs place there)
