-- The numbers of inputs come back from their values.
use Rattle.std.proofs.Common.{◌≡◌, ℕ, zero, suc, ◌/◌, ◌%◌, ◌^◌, ◌<◌, length, refl, sym, ap, arith}
use Rattle.std.proofs.Math.Nat.{pow-suc}
use Rattle.fourstate.specs.declared.inputs.Inputs.TheInside.{Inside}
use Rattle.fourstate.specs.kept.Planes.{value_of_bits, low_bit, high_bit, values_of, plane_of, inputs_of, fields_of, AreInputs}

low_bit_kept : (low high : ℕ) → low < 2 → low_bit (value_of_bits low high) ≡ low
low_bit_kept zero zero fits = refl
low_bit_kept zero (suc high) fits = refl
low_bit_kept (suc low) zero fits = omega arith
low_bit_kept (suc low) (suc high) fits = omega arith

high_bit_kept : (low high : ℕ) → high < 2 → high_bit (value_of_bits low high) ≡ high
high_bit_kept zero zero fits = refl
high_bit_kept (suc low) zero fits = refl
high_bit_kept zero (suc high) fits = omega arith
high_bit_kept (suc low) (suc high) fits = omega arith

low_kept : (count low high : ℕ) → low < 2 ^ count → plane_of low_bit (values_of count low high) ≡ low
low_kept zero low high fits = omega arith
low_kept (suc count) low high fits =
    let bit = low_bit_kept (low % 2) (high % 2) (omega arith) in
    let rest = low_kept count (low / 2) (high / 2) (omega (arith, pow-suc 2 count)) in omega arith

high_kept : (count low high : ℕ) → high < 2 ^ count → plane_of high_bit (values_of count low high) ≡ high
high_kept zero low high fits = omega arith
high_kept (suc count) low high fits =
    let bit = high_bit_kept (low % 2) (high % 2) (omega arith) in
    let rest = high_kept count (low / 2) (high / 2) (omega (arith, pow-suc 2 count)) in omega arith

-- so many values as are counted
pub values_counted : (count low high : ℕ) → length (values_of count low high) ≡ count
values_counted zero low high = refl
values_counted (suc count) low high = ap suc (values_counted count (low / 2) (high / 2))

-- the numbers that hold the values of inputs are those of the inputs
pub fields_of-kept : (a : Inside) → AreInputs a → fields_of (inputs_of a) ≡ a
fields_of-kept a are =
    let low = low_kept a.len a.low a.high are.low_fits in
    let high = high_kept a.len a.low a.high are.high_fits in
    let count = values_counted a.len a.low a.high in
    let summary = sym are.summary_is in let first = sym are.first_is in let second = sym are.second_is in
    λ i. record { low = low i; high = high i; len = count i; summary = summary i; first = first i; second = second i }
