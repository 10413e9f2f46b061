-- Lists that are walked over.
use Rattle.std.proofs.Common.{◌≡◌, ◌+◌, ℕ, zero, suc, List, [], ◌∷◌, ◌++◌, take, Some, refl, ap, add-one}
use Rattle.std.specs.Prelude.{slice_get}

-- one more element
pub take_one_more : {X : Type 0} (xs : List X) (i : ℕ) (x : X) → slice_get xs i ≡ Some x → take (i + 1) xs ≡ take i xs ++ x ∷ []
take_one_more [] i x at = absurd (cc)
take_one_more (y ∷ xs) zero x at = let e : y ≡ x = cc in rw e refl
take_one_more (y ∷ xs) (suc i) x at = let more = take_one_more xs i x at in rw add-one (ap (λ ws. y ∷ ws) (rw add-one at more))
