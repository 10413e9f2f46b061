-- What the summary of values says of them.
use Rattle.std.proofs.Common.{◌≡◌, ℕ, ◌+◌, ◌%◌, ◌==◌, ◌<◌, ◌∙◌, Bool, true, false, not, cond, ◌||◌, List, [], ◌∷◌, Some, length, count_by, slice_get, refl, sym, ap, arith}
use Rattle.std.proofs.lemmas.Bool.Decides.{nat_tests}
use Rattle.std.proofs.lemmas.List.Sums.{sum_by-cons}
use Rattle.fourstate.specs.kept.Rules.{summary_by}
use Rattle.fourstate.specs.kept.Summaries.{first_of, next_summary, second_of, summary_of}
use Rattle.fourstate.specs.Values.{same_value, occurs}
use Rattle.fourstate.specs.declared.value.Value.{Value}
use Rattle.fourstate.specs.declared.value.Value.TheVariants.{Zero, One, Unknown, HighZ}

-- a z or an x is among the inputs, or none
abbrev pub unknown_in : List Value → Bool
unknown_in inputs = occurs Unknown inputs || occurs HighZ inputs

abbrev pub odd_in : List Value → Bool
odd_in inputs = count_by (same_value One) inputs % 2 == 1

after_zero : (z o d u : Bool) → next_summary (summary_by z o d u) Zero ≡ summary_by true o d u
after_zero true true true true = refl
after_zero true true true false = refl
after_zero true true false true = refl
after_zero true true false false = refl
after_zero true false true true = refl
after_zero true false true false = refl
after_zero true false false true = refl
after_zero true false false false = refl
after_zero false true true true = refl
after_zero false true true false = refl
after_zero false true false true = refl
after_zero false true false false = refl
after_zero false false true true = refl
after_zero false false true false = refl
after_zero false false false true = refl
after_zero false false false false = refl

after_one : (z o d u : Bool) → next_summary (summary_by z o d u) One ≡ summary_by z true (not d) u
after_one true true true true = refl
after_one true true true false = refl
after_one true true false true = refl
after_one true true false false = refl
after_one true false true true = refl
after_one true false true false = refl
after_one true false false true = refl
after_one true false false false = refl
after_one false true true true = refl
after_one false true true false = refl
after_one false true false true = refl
after_one false true false false = refl
after_one false false true true = refl
after_one false false true false = refl
after_one false false false true = refl
after_one false false false false = refl

after_unknown : (z o d u : Bool) → next_summary (summary_by z o d u) Unknown ≡ summary_by z o d true
after_unknown true true true true = refl
after_unknown true true true false = refl
after_unknown true true false true = refl
after_unknown true true false false = refl
after_unknown true false true true = refl
after_unknown true false true false = refl
after_unknown true false false true = refl
after_unknown true false false false = refl
after_unknown false true true true = refl
after_unknown false true true false = refl
after_unknown false true false true = refl
after_unknown false true false false = refl
after_unknown false false true true = refl
after_unknown false false true false = refl
after_unknown false false false true = refl
after_unknown false false false false = refl

after_high_z : (z o d u : Bool) → next_summary (summary_by z o d u) HighZ ≡ summary_by z o d true
after_high_z true true true true = refl
after_high_z true true true false = refl
after_high_z true true false true = refl
after_high_z true true false false = refl
after_high_z true false true true = refl
after_high_z true false true false = refl
after_high_z true false false true = refl
after_high_z true false false false = refl
after_high_z false true true true = refl
after_high_z false true true false = refl
after_high_z false true false true = refl
after_high_z false true false false = refl
after_high_z false false true true = refl
after_high_z false false true false = refl
after_high_z false false false true = refl
after_high_z false false false false = refl

-- 1 at a one
abbrev one_in : Value → ℕ
one_in v = cond (same_value One v) 1 0

odd_turns : (n : ℕ) → ((1 + n) % 2 == 1) ≡ not (n % 2 == 1)
odd_turns n = grind (arith, nat_tests)

odd_after_one : (values : List Value) → odd_in (One ∷ values) ≡ not (odd_in values)
odd_after_one values = ap (λ n. n % 2 == 1) (sum_by-cons one_in One values) ∙ odd_turns (count_by (same_value One) values)

or_true : (b : Bool) → (b || true) ≡ true
or_true true = refl
or_true false = refl

pub summary_read : (values : List Value) → summary_of values ≡ summary_by (occurs Zero values) (occurs One values) (odd_in values) (unknown_in values)
summary_read [] = refl
summary_read (Zero ∷ values) =
    ap (λ n. next_summary n Zero) (summary_read values) ∙ after_zero (occurs Zero values) (occurs One values) (odd_in values) (unknown_in values)
summary_read (One ∷ values) =
    ap (λ n. next_summary n One) (summary_read values) ∙ after_one (occurs Zero values) (occurs One values) (odd_in values) (unknown_in values)
    ∙ ap (λ d. summary_by (occurs Zero values) true d (unknown_in values)) (sym (odd_after_one values))
summary_read (Unknown ∷ values) =
    ap (λ n. next_summary n Unknown) (summary_read values) ∙ after_unknown (occurs Zero values) (occurs One values) (odd_in values) (unknown_in values)
summary_read (HighZ ∷ values) =
    ap (λ n. next_summary n HighZ) (summary_read values) ∙ after_high_z (occurs Zero values) (occurs One values) (odd_in values) (unknown_in values)
    ∙ ap (summary_by (occurs Zero values) (occurs One values) (odd_in values)) (sym (or_true (occurs Unknown values)))

low_by : (z o d u : Bool) → summary_by z o d u < 16
low_by true true true true = omega arith
low_by true true true false = omega arith
low_by true true false true = omega arith
low_by true true false false = omega arith
low_by true false true true = omega arith
low_by true false true false = omega arith
low_by true false false true = omega arith
low_by true false false false = omega arith
low_by false true true true = omega arith
low_by false true true false = omega arith
low_by false true false true = omega arith
low_by false true false false = omega arith
low_by false false true true = omega arith
low_by false false true false = omega arith
low_by false false false true = omega arith
low_by false false false false = omega arith

pub summary_low : (values : List Value) → summary_of values < 16
summary_low values = rw (summary_read values) (low_by (occurs Zero values) (occurs One values) (odd_in values) (unknown_in values))

pub first_there : (values : List Value) → 0 < length values → slice_get values 0 ≡ Some (first_of values)
first_there [] some = absurd (omega arith)
first_there (v ∷ values) some = refl

pub second_there : (values : List Value) → 1 < length values → slice_get values 1 ≡ Some (second_of values)
second_there [] some = absurd (omega arith)
second_there (v ∷ []) some = absurd (omega arith)
second_there (v ∷ w ∷ values) some = refl
