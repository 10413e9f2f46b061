-- The four values as numbers below 4.
use Rattle.std.specs.Prelude.{◌≡◌, ◌<◌, ℕ, zero, suc, refl}
use Rattle.std.proofs.Common.{arith, ap, sym}
use Rattle.fourstate.specs.declared.value.Value.{Value}
use Rattle.fourstate.specs.declared.value.Value.TheVariants.{Zero, One, Unknown, HighZ}

-- the value of a number
abbrev pub value_of_digit : ℕ → Value
value_of_digit zero = Zero
value_of_digit (suc zero) = One
value_of_digit (suc (suc zero)) = Unknown
value_of_digit (suc (suc (suc n))) = HighZ

-- the number of a value
abbrev pub digit_of : Value → ℕ
digit_of Zero = 0
digit_of One = 1
digit_of Unknown = 2
digit_of HighZ = 3

-- a number is that of its value
pub digit_kept : (k : ℕ) → k < 4 → digit_of (value_of_digit k) ≡ k
digit_kept zero low = refl
digit_kept (suc zero) low = refl
digit_kept (suc (suc zero)) low = refl
digit_kept (suc (suc (suc k))) low = let none : k ≡ 0 = omega arith in ap (λ n. suc (suc (suc n))) (sym none)

-- the number of a value is below 4
pub digit_low : (value : Value) → digit_of value < 4
digit_low Zero = omega arith
digit_low One = omega arith
digit_low Unknown = omega arith
digit_low HighZ = omega arith
