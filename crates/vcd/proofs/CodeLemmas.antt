-- Identifier codes, byte by byte.
use Rattle.std.proofs.Common.{◌≡◌, ◌<◌, ◌≤◌, ℕ, zero, suc, ◌+◌, ◌-◌, ◌/◌, ◌%◌, true, false, refl, ap, ◌∙◌, [], ◌∷◌, ◌++◌, arith}
use Rattle.std.specs.Prelude.{nat_lt}
use Rattle.std.proofs.lemmas.Bool.{ltb-false, lt-ltb, le-ltb}
use Rattle.vcd.specs.Codes.{code_of, code_within}

-- any two bounds above n give the same code
same_within : (f g n : ℕ) → n < f → n < g → code_within f n ≡ code_within g n
same_within zero g n a b = absurd (omega arith)
same_within (suc f) zero n a b = absurd (omega arith)
same_within (suc f) (suc g) n a b =
    elim (nat_lt n 94) as
    (λ t. (nat_lt n 94 ≡ t) → ((33 + n % 94) ∷ elim t [ true ↦ [] | false ↦ code_within f (n / 94 - 1) ]) ≡
    ((33 + n % 94) ∷ elim t [ true ↦ [] | false ↦ code_within g (n / 94 - 1) ])) [
      | true ↦ λ e. refl
      | false ↦ λ e.
          let least : 94 ≤ n = ltb-false n 94 e in
          ap (λ l. (33 + n % 94) ∷ l) (same_within f g (n / 94 - 1) (omega arith) (omega arith))
    ] refl

-- a code of more than one byte
pub code_of-long : (n : ℕ) → 94 ≤ n → code_of n ≡ (33 + n % 94) ∷ [] ++ code_of (n / 94 - 1)
unfolding code_of
code_of-long n least = rw (le-ltb n 94 least) (ap (λ l. (33 + n % 94) ∷ l) (same_within n (suc (n / 94 - 1)) (n / 94 - 1) (omega arith) (omega arith)))

-- a code of one byte
pub code_of-short : (n : ℕ) → n < 94 → code_of n ≡ (33 + n) ∷ []
unfolding code_of
code_of-short n below =
    rw (lt-ltb n 94 below)
    (let rest : n % 94 ≡ n = omega arith in ap (λ m. (33 + m) ∷ []) rest)

-- The codes of a design's nets, whole.

pub one_character : (n : ℕ) → n < 94 → code_of n ≡ (33 + n % 94) ∷ []
one_character n below = let rest : n % 94 ≡ n = omega arith in rw rest (code_of-short n below)

pub two_characters : (n : ℕ) → 94 ≤ n → n / 94 - 1 < 94 → code_of n ≡ (33 + n % 94) ∷ (33 + (n / 94 - 1) % 94) ∷ []
two_characters n least below = code_of-long n least ∙ ap (λ l. (33 + n % 94) ∷ l) (one_character (n / 94 - 1) below)

pub three_characters : (n : ℕ) → 94 ≤ n → 94 ≤ n / 94 - 1 → n < 65536 →
    code_of n ≡ (33 + n % 94) ∷ (33 + (n / 94 - 1) % 94) ∷ (33 + ((n / 94 - 1) / 94 - 1) % 94) ∷ []
three_characters n least more few =
    code_of-long n least ∙ ap (λ l. (33 + n % 94) ∷ l) (two_characters (n / 94 - 1) more (omega arith))
