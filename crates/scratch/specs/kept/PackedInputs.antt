-- How an input is kept as one number: the place of its net, or one of the last four numbers for a value that never changes.
use Rattle.std.specs.Prelude.{◌≡◌, ◌≤◌, ◌<◌, ◌+◌, ◌-◌, ◌^◌, ℕ, Bool, true, false, nat_lt, if◌then◌else◌, ⊤, refl}
use Rattle.std.proofs.Common.{arith, ap}
use Rattle.std.proofs.lemmas.Grind.{common_steps}
use Rattle.waveform.specs.kept.Digits.{value_of_digit, digit_of, digit_kept}
use Rattle.scratch.specs.declared.wiring.Input.{Input}
use Rattle.scratch.specs.declared.wiring.Input.TheVariants.{At, Fixed}
use Rattle.scratch.specs.declared.packed_input.PackedInput.TheInside.{Inside}
use Rattle.scratch.specs.declared.packed_input.TheConstants.{FIRST_VALUE}

-- the input that a number stands for
abbrev pub input_of_number : ℕ → Input
input_of_number n = if nat_lt n FIRST_VALUE then At n else Fixed (value_of_digit (n - FIRST_VALUE))

abbrev pub input_of_fields : Inside → Input
input_of_fields a = input_of_number a.number

-- a number has 32 bits
abbrev pub IsNumber : Inside → Type 0
IsNumber a = a.number < 2 ^ 32

-- an input has a number: the place of its net is below the last four
abbrev pub IsPackable : Input → Type 0
IsPackable (At place) = place < FIRST_VALUE
IsPackable (Fixed v) = ⊤

-- the number that stands for an input
abbrev pub fields_of_input : Input → Inside
fields_of_input (At place) = record { number = place }
fields_of_input (Fixed v) = record { number = FIRST_VALUE + digit_of v }

kept_by : (n : ℕ) (b : Bool) → nat_lt n FIRST_VALUE ≡ b → n < 2 ^ 32 →
    fields_of_input (if b then At n else Fixed (value_of_digit (n - FIRST_VALUE))) ≡ record { number = n }
kept_by n true e low = refl
kept_by n false e low =
    let past : FIRST_VALUE ≤ n = grind (arith, common_steps) in
    let digit = digit_kept (n - FIRST_VALUE) (omega arith) in
    let back : FIRST_VALUE + digit_of (value_of_digit (n - FIRST_VALUE)) ≡ n = grind (arith, common_steps) in
    ap (λ (m : ℕ). record { number = m }) back

-- the number is the one that stands for what it shows
pub fields_of_input-kept : (a : Inside) → IsNumber a → fields_of_input (input_of_fields a) ≡ a
fields_of_input-kept a low = kept_by a.number (nat_lt a.number FIRST_VALUE) refl low
