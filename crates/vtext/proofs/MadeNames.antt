-- Made names: the last dollar sign splits them in one way.
use Rattle.std.proofs.Common.{◌≡◌, ◌≢◌, ℕ, ◌^◌, ◌<◌, ◌++◌, List, [], ◌∷◌, drop, decimal, refl, sym, ap, subst, arith}
use Rattle.std.proofs.lemmas.Fmt.{decimal_is_IsNumeral, decimal_injective}
use Rattle.std.proofs.lemmas.Str.Parse.{digit_from_value}
use Rattle.std.specs.Str.Parse.{AllDigits}
use Rattle.vtext.specs.GateNames.{numbered, part_bytes}

-- a dollar sign is no digit
no_dollar_in_digits : (front back : List ℕ) → AllDigits 10 (front ++ 36 ∷ back) → ⊥
no_dollar_in_digits [] back digits = omega (arith, digit_from_value 36 digits.0)
no_dollar_in_digits (c ∷ front) back digits = no_dollar_in_digits front back digits.1

no_dollar : (n : ℕ) (front back : List ℕ) → n < 2 ^ 64 → decimal n ≢ front ++ 36 ∷ back
no_dollar n front back small e = no_dollar_in_digits front back (subst (AllDigits 10) e (decimal_is_IsNumeral n small).0.1)

pub numbered_once : (m n : ℕ) → m < 2 ^ 64 → n < 2 ^ 64 → numbered m ≡ numbered n → m ≡ n
numbered_once m n small low e = decimal_injective m n small low (ap (drop 1) e)

-- two names with a number behind a dollar sign are the same only where both parts are
pub one_split : (a b : List ℕ) (m n : ℕ) → m < 2 ^ 64 → n < 2 ^ 64 → part_bytes a m ≡ part_bytes b n → (a ≡ b) × (m ≡ n)
one_split [] [] m n small low e = (refl, numbered_once m n small low e)
one_split [] (y ∷ b) m n small low e = absurd (no_dollar m b (decimal n) small (ap (drop 1) e))
one_split (x ∷ a) [] m n small low e = absurd (no_dollar n a (decimal m) low (sym (ap (drop 1) e)))
one_split (x ∷ a) (y ∷ b) m n small low e =
    let rest = one_split a b m n small low (ap (drop 1) e) in
    let same : x ≡ y = cc in
    (λ i. same i ∷ rest.0 i, rest.1)

-- a number behind a dollar sign is no part of a name that is not empty
pub no_part : (base : List ℕ) (part n : ℕ) → part < 2 ^ 64 → n < 2 ^ 64 → base ≢ [] → part_bytes base part ≢ numbered n
no_part base part n small low some e = some (one_split base [] part n small low e).0
