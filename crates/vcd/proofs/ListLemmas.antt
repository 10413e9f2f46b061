-- Lists.
use Rattle.std.proofs.Common.{◌≡◌, ◌<◌, ℕ, zero, suc, List, [], ◌∷◌, length, map, drop, Some, slice_get, arith}
use Rattle.std.specs.List.{slice_index_or}

-- the list from a place on
pub drop_at : {X : Type 0} (xs : List X) (i : ℕ) (x : X) → slice_get xs i ≡ Some x → drop i xs ≡ x ∷ drop (suc i) xs
drop_at [] i x at = absurd (cc)
drop_at (y ∷ xs) zero x at = cc
drop_at (y ∷ xs) (suc i) x at = drop_at xs i x at

-- what holds of each value of a function holds of each element of a map by it
pub each_mapped : {X Y : Type 0} (P : Y → Type 0) (f : X → Y) (xs : List X) (k : ℕ) (d : Y) → ((x : X) → P (f x)) → k < length (map f xs) →
    P (slice_index_or (map f xs) k d)
each_mapped P f [] k d each below = absurd (omega arith)
each_mapped P f (x ∷ xs) zero d each below = each x
each_mapped P f (x ∷ xs) (suc k) d each below = each_mapped P f xs k d each (omega arith)
