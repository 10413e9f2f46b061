-- Names: that two are the same.
use Rattle.std.proofs.Common.{◌≡◌, ◌≢◌, ℕ, true, false, List}
use Rattle.std.proofs.lemmas.Bool.{false_from_ne_true}
use Rattle.std.proofs.lemmas.Slice.Eq.{bytes_eq-Decides}
use Rattle.design.specs.Names.{same_name}

pub name_is : (a b : List ℕ) → same_name a b ≡ true → a ≡ b
name_is a b h = (bytes_eq-Decides a b).0 h

pub name_same : (a b : List ℕ) → a ≡ b → same_name a b ≡ true
name_same a b e = (bytes_eq-Decides a b).1 e

pub name_differs : (a b : List ℕ) → a ≢ b → same_name a b ≡ false
name_differs a b apart = false_from_ne_true (same_name a b) (λ t. apart (name_is a b t))
