-- Lists of what has a number or a name, whatever it is.
use Rattle.std.proofs.Common.{◌≡◌, ◌≢◌, ℕ, false, List}
use Rattle.std.proofs.lemmas.Bool.{false_from_ne_true}
use Rattle.std.specs.Str.{bytes_eq}
use Rattle.std.proofs.lemmas.Slice.Eq.{bytes_eq-Decides}

-- names tell numbers apart
pub names_differ : (a b : List ℕ) → a ≢ b → bytes_eq a b ≡ false
names_differ a b apart = false_from_ne_true (bytes_eq a b) (λ t. apart ((bytes_eq-Decides a b).0 t))
