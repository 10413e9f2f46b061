-- What occurs among inputs as a gate reads them, by what occurs among the inputs themselves.
use Rattle.std.proofs.Common.{◌≡◌, ℕ, ◌+◌, ◌∙◌, sym, cond, ◌||◌, List, [], ◌∷◌, Some, map, length, count_by, slice_get, refl, ap, arith}
use Rattle.std.proofs.lemmas.List.Sums.{sum_by-cons}
use Rattle.fourstate.specs.Values.{same_value, occurs, reading}
use Rattle.fourstate.specs.declared.value.Value.{Value}
use Rattle.fourstate.specs.declared.value.Value.TheVariants.{Zero, One, Unknown, HighZ}

pub zero_read : (values : List Value) → occurs Zero (map reading values) ≡ occurs Zero values
zero_read [] = refl
zero_read (Zero ∷ values) = refl
zero_read (One ∷ values) = zero_read values
zero_read (Unknown ∷ values) = zero_read values
zero_read (HighZ ∷ values) = zero_read values

pub one_read : (values : List Value) → occurs One (map reading values) ≡ occurs One values
one_read [] = refl
one_read (Zero ∷ values) = one_read values
one_read (One ∷ values) = refl
one_read (Unknown ∷ values) = one_read values
one_read (HighZ ∷ values) = one_read values

pub unknown_read : (values : List Value) → occurs Unknown (map reading values) ≡ (occurs Unknown values || occurs HighZ values)
unknown_read [] = refl
unknown_read (Zero ∷ values) = unknown_read values
unknown_read (One ∷ values) = unknown_read values
unknown_read (Unknown ∷ values) = refl
unknown_read (HighZ ∷ values) = grind arith

-- 1 at a one
abbrev one_in : Value → ℕ
one_in v = cond (same_value One v) 1 0

pub ones_read : (values : List Value) → count_by (same_value One) (map reading values) ≡ count_by (same_value One) values
ones_read [] = refl
ones_read (Zero ∷ values) = ones_read values
ones_read (One ∷ values) = sum_by-cons one_in One (map reading values) ∙ ap (λ n. 1 + n) (ones_read values) ∙ sym (sum_by-cons one_in One values)
ones_read (Unknown ∷ values) = ones_read values
ones_read (HighZ ∷ values) = ones_read values

-- the two values of a list
pub two_values : (values : List Value) (v w : Value) → length values ≡ 2 → slice_get values 0 ≡ Some v → slice_get values 1 ≡ Some w → values ≡ v ∷ w ∷ []
two_values [] v w long first second = cc
two_values (x ∷ []) v w long first second = cc
two_values (x ∷ y ∷ []) v w long first second = cc
two_values (x ∷ y ∷ z ∷ values) v w long first second = absurd (omega arith)
