-- Helpers ask nothing by themselves.
use Rattle.std.proofs.Common.{◌≡◌, List, [], ◌∷◌, ◌++◌, refl, arith}
use Rattle.std.specs.List.{flat_map}
use Rattle.std.proofs.lemmas.List.Sorted.{length_permutation}
use Rattle.gatestep.specs.Jobs.{IsPart}

-- where each asks nothing, all together do
pub none_asked : {X A : Type 0} (f : X → List A) → ((x : X) → f x ≡ []) → (xs : List X) → flat_map f xs ≡ []
none_asked f none [] = refl
none_asked f none (x ∷ xs) = λ i. none x i ++ none_asked f none xs i

-- and of nothing there is no part but nothing
pub none_in_part : {A : Type 0} (piece : List A) → IsPart piece [] → piece ≡ []
none_in_part [] is = refl
none_in_part (x ∷ piece) is = absurd (let e = length_permutation [] ((x ∷ piece) ++ is.0) is.1 in omega arith)
