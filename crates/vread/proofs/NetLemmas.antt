-- The nets of a design, one after another.
use Rattle.std.proofs.Common.{◌≡◌, ◌++◌, List, ap, ◌∙◌, ℕ}

-- Names.

-- a name behind a path, whatever is made of the name
pub same_joined : (f : List ℕ → List ℕ) (p q n m : List ℕ) → p ≡ q → n ≡ m → p ++ f n ≡ q ++ f m
same_joined f p q n m path name = ap (λ (l : List ℕ). l ++ f n) path ∙ ap (λ (l : List ℕ). q ++ f l) name
