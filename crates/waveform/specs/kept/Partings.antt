-- Where two lists of changes part.
use Rattle.std.specs.Prelude.{◌≡◌, Bool, false, ℕ, ◌==◌, ◌&&◌, min, if◌then◌else◌, List, [], ◌∷◌, Option, None, Some}
use Rattle.fourstate.specs.declared.value.Value.{Value}
use Rattle.fourstate.specs.Values.{same_value}

abbrev pub same_change : (x y : ℕ × Value) → Bool
same_change x y = x.0 == y.0 && same_value x.1 y.1

-- the moment of the first change that not both lists have
abbrev pub parting : (xs ys : List (ℕ × Value)) → Option ℕ
parting [] [] = None
parting [] (y ∷ ys) = Some y.0
parting (x ∷ xs) [] = Some x.0
parting (x ∷ xs) (y ∷ ys) = if same_change x y then parting xs ys else Some (min x.0 y.0)

-- one of the lists is at its end, or they begin with different changes
abbrev pub ArePartedAtOnce : (xs ys : List (ℕ × Value)) → Type 0
ArePartedAtOnce [] ys = Unit {0}
ArePartedAtOnce (x ∷ xs) [] = Unit {0}
ArePartedAtOnce (x ∷ xs) (y ∷ ys) = same_change x y ≡ false

-- the earlier of two moments, where there are two
abbrev pub earlier : Option ℕ → Option ℕ → Option ℕ
earlier None p = p
earlier (Some t) None = Some t
earlier (Some t) (Some u) = Some (min t u)
