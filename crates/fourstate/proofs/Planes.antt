-- Inputs of the same numbers, and a value before others.
use Rattle.std.proofs.Common.{◌≡◌, ℕ, suc, ◌+◌, ◌*◌, ◌/◌, ◌%◌, ◌^◌, ◌<◌, ◌∷◌, length, eqb, ◌&&◌, ◌∙◌, sym, ap, arith}
use Rattle.std.proofs.Math.Nat.{pow-suc}
use Rattle.std.proofs.lemmas.Bool.{and_from, and_parts, eqb-true, eq-eqb}
use Rattle.std.specs.Cmp.{both_ways}
use Rattle.std.specs.Cmp.Lexicographic.{pointwise}
use Rattle.fourstate.specs.kept.PlaneLaws.{fields_of-kept, values_counted}
use Rattle.fourstate.specs.kept.Planes.{AreInputs, fields_of, high_bit, inputs_of, low_bit, value_of_bits, values_of}
use Rattle.fourstate.specs.kept.Summaries.{first_of, next_summary, second_of, summary_of}
use Rattle.fourstate.specs.kept.ValueLaws.{same_values_decides}
use Rattle.fourstate.specs.Values.{same_value}
use Rattle.fourstate.specs.declared.inputs.Inputs.TheInside.{Inside}
use Rattle.fourstate.specs.declared.limits.TheConstants.{MAX_INPUTS}
use Rattle.fourstate.specs.declared.value.Value.{Value}
use Rattle.fourstate.specs.declared.value.Value.TheVariants.{Zero, One, Unknown, HighZ}

-- inputs of the same numbers have the same values, and no others do
pub same_fields : (a b : Inside) → AreInputs a → AreInputs b →
    ((eqb a.low b.low && eqb a.high b.high) && eqb a.len b.len) ≡ pointwise same_value (inputs_of a) (inputs_of b)
same_fields a b left right =
    both_ways ((eqb a.low b.low && eqb a.high b.high) && eqb a.len b.len) (pointwise same_value (inputs_of a) (inputs_of b))
    (λ same.
    let all = and_parts (eqb a.low b.low && eqb a.high b.high) (eqb a.len b.len) same in
    let words = and_parts (eqb a.low b.low) (eqb a.high b.high) all.0 in
    let l = eqb-true a.low b.low words.0 in let h = eqb-true a.high b.high words.1 in let n = eqb-true a.len b.len all.1 in
    (same_values_decides (inputs_of a) (inputs_of b)).1 (λ i. values_of (n i) (l i) (h i)))
    (λ same.
    let fields = sym (fields_of-kept a left) ∙ ap fields_of ((same_values_decides (inputs_of a) (inputs_of b)).0 same) ∙ fields_of-kept b right in
    and_from (eqb a.low b.low && eqb a.high b.high) (eqb a.len b.len)
    (and_from (eqb a.low b.low) (eqb a.high b.high) (eq-eqb a.low b.low (ap (λ f. f.low) fields)) (eq-eqb a.high b.high (ap (λ f. f.high) fields)))
    (eq-eqb a.len b.len (ap (λ f. f.len) fields)))

put_by : (count low high x y : ℕ) → x < 2 → y < 2 → values_of (suc count) (low * 2 + x) (high * 2 + y) ≡ value_of_bits x y ∷ values_of count low high
put_by count low high x y p q =
    let low_bit : (low * 2 + x) % 2 ≡ x = omega arith in let high_bit : (high * 2 + y) % 2 ≡ y = omega arith in
    let low_rest : (low * 2 + x) / 2 ≡ low = omega arith in let high_rest : (high * 2 + y) / 2 ≡ high = omega arith in
    λ i. value_of_bits (low_bit i) (high_bit i) ∷ values_of count (low_rest i) (high_rest i)

-- a value before others is one more bit, the lowest
pub put_kept : (count low high : ℕ) (v : Value) → values_of (suc count) (low * 2 + low_bit v) (high * 2 + high_bit v) ≡ v ∷ values_of count low high
put_kept count low high Zero = put_by count low high 0 0 (omega arith) (omega arith)
put_kept count low high One = put_by count low high 1 0 (omega arith) (omega arith)
put_kept count low high Unknown = put_by count low high 0 1 (omega arith) (omega arith)
put_kept count low high HighZ = put_by count low high 1 1 (omega arith) (omega arith)

low_small : (v : Value) → low_bit v < 2
low_small Zero = omega arith
low_small One = omega arith
low_small Unknown = omega arith
low_small HighZ = omega arith

high_small : (v : Value) → high_bit v < 2
high_small Zero = omega arith
high_small One = omega arith
high_small Unknown = omega arith
high_small HighZ = omega arith

-- the fields once a value is before the others
pub put_are : (a : Inside) (v : Value) (low high summary : ℕ) → AreInputs a → length (inputs_of a) < MAX_INPUTS → low ≡ low_bit v → high ≡ high_bit v →
    summary ≡ next_summary (summary_of (inputs_of a)) v →
    AreInputs (record { low = a.low * 2 + low; high = a.high * 2 + high; len = a.len + 1; summary = summary; first = v; second = a.first })
put_are a v low high summary are few l h s =
    let count = values_counted a.len a.low a.high in
    let more : a.len + 1 ≡ suc a.len = omega arith in
    let put = (λ i. values_of (more i) (a.low * 2 + l i) (a.high * 2 + h i)) ∙ put_kept a.len a.low a.high v in
    let low_bits = low_small v in let high_bits = high_small v in let low_old = are.low_fits in let high_old = are.high_fits in
    record {
      within = omega arith;
      low_fits = rw more (omega (arith, pow-suc 2 a.len));
      high_fits = rw more (omega (arith, pow-suc 2 a.len));
      summary_is = s ∙ sym (ap summary_of put);
      first_is = sym (ap first_of put);
      second_is = are.first_is ∙ sym (ap second_of put);
    }
