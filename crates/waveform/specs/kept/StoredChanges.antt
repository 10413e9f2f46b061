-- How a change is kept in 8 bytes: its moment, and in the lowest two bits its value.
use Rattle.std.specs.Prelude.{◌≡◌, ◌+◌, ◌*◌, ◌/◌, ◌%◌, ℕ}
use Rattle.std.proofs.Common.{arith}
use Rattle.fourstate.specs.declared.value.Value.{Value}
use Rattle.waveform.specs.kept.Digits.{value_of_digit, digit_of, digit_kept}
use Rattle.waveform.specs.declared.change.Change.TheInside.{Inside}

-- the change that the number keeps
abbrev pub change_of : Inside → ℕ × Value
change_of a = (a.number / 4, value_of_digit (a.number % 4))

-- the number that keeps a change
abbrev pub fields_of : ℕ × Value → Inside
fields_of p = record { number = p.0 * 4 + digit_of p.1 }

restored : (number : ℕ) → fields_of (change_of (record { number = number })) ≡ record { number = number }
restored number =
    let value = digit_kept (number % 4) (omega arith) in
    let whole : number / 4 * 4 + number % 4 ≡ number = omega arith in
    cc

-- the number is the one that keeps what it shows
pub fields_of-kept : (a : Inside) → Unit {0} → fields_of (change_of a) ≡ a
fields_of-kept a every = restored a.number
