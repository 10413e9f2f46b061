-- How an entry of a trace is kept in 8 bytes: its time times the number of rests, and the rest: how long after that time the
-- pending event is due, with the two values.
use Rattle.std.specs.Prelude.{◌≡◌, ◌≢◌, ◌<◌, ◌+◌, ◌-◌, ◌*◌, ◌/◌, ◌%◌, ℕ, zero, suc, Option, Some, None, refl}
use Rattle.std.specs.Option.{option_map_or}
use Rattle.std.proofs.Common.{arith, ◌∙◌}
use Rattle.fourstate.specs.declared.value.Value.{Value}
use Rattle.gatestep.specs.Step.{State}
use Rattle.waveform.specs.kept.Digits.{value_of_digit, digit_of, digit_kept}
use Rattle.waveform.specs.declared.digits.TheConstants.{VALUES}
use Rattle.waveform.specs.declared.entry.TheConstants.{RESTS}
use Rattle.waveform.specs.declared.entry.TraceEntry.TheInside.{Inside}

-- the time
abbrev pub time_of : Inside → ℕ
time_of a = a.number / RESTS

-- what is kept beside it
abbrev pub rest_in : Inside → ℕ
rest_in a = a.number % RESTS

-- how long after it what is pending is due; 0 where nothing is
abbrev pub after_of : Inside → ℕ
after_of a = rest_in a / (VALUES * VALUES)

abbrev pub next_of : Inside → Value
next_of a = value_of_digit (rest_in a / VALUES % VALUES)

abbrev pub current_of : Inside → Value
current_of a = value_of_digit (rest_in a % VALUES)

-- the value that is pending so long after a time, if it is
abbrev pub pending_after : (time after : ℕ) → Value → Option (Value × ℕ)
pending_after time zero v = None
pending_after time (suc n) v = Some (v, time + suc n)

-- the moment and the state that an entry keeps
abbrev pub kept_state : Inside → ℕ × State
kept_state a = (time_of a, record { current = current_of a; pending = pending_after (time_of a) (after_of a) (next_of a) })

-- a pending value is another than the current one; with none pending its digit is 0
pub record IsTraceEntry (a : Inside) : Type 0 where
  pub other : 0 < after_of a → next_of a ≢ current_of a
  pub unused : after_of a ≡ 0 → rest_in a < VALUES

-- the number that keeps so long after, and the two values
abbrev pub rest_of : (after next current : ℕ) → ℕ
rest_of after next current = (after * VALUES + next) * VALUES + current

-- the number that keeps a time and the rest
abbrev pub number_of : (time rest : ℕ) → ℕ
number_of time rest = time * RESTS + rest

-- the number that keeps a moment and a state
abbrev pub fields_of : ℕ × State → Inside
fields_of e =
    record {
      number = number_of e.0 (option_map_or (λ event. rest_of (event.1 - e.0) (digit_of event.0) (digit_of e.1.current)) e.1.pending (digit_of e.1.current));
    }

rest_kept : (rest : ℕ) → rest_of (rest / (VALUES * VALUES)) (rest / VALUES % VALUES) (rest % VALUES) ≡ rest
rest_kept rest = omega arith

digits : (rest : ℕ) → (digit_of (value_of_digit (rest % VALUES)) ≡ rest % VALUES) × (digit_of (value_of_digit (rest / VALUES % VALUES)) ≡ rest / VALUES % VALUES)
digits rest = (digit_kept (rest % VALUES) (omega arith), digit_kept (rest / VALUES % VALUES) (omega arith))

-- the number is the one that keeps what is read from it
rest_back : (time rest after : ℕ) → after ≡ rest / (VALUES * VALUES) → (after ≡ 0 → rest < VALUES) →
    option_map_or (λ event. rest_of (event.1 - time) (digit_of event.0) (digit_of (value_of_digit (rest % VALUES))))
    (pending_after time after (value_of_digit (rest / VALUES % VALUES))) (digit_of (value_of_digit (rest % VALUES))) ≡ rest
rest_back time rest zero is unused =
    let small : rest < VALUES = unused refl in
    let both = digits rest in
    let whole : rest % VALUES ≡ rest = omega arith in both.0 ∙ whole
rest_back time rest (suc n) is unused =
    let both = digits rest in
    let back : time + suc n - time ≡ rest / (VALUES * VALUES) = omega arith in
    let whole = rest_kept rest in
    cc

restored : (number : ℕ) → IsTraceEntry (record { number = number }) → fields_of (kept_state (record { number = number })) ≡ record { number = number }
restored number is =
    let rests = rest_back (number / RESTS) (number % RESTS) (number % RESTS / (VALUES * VALUES)) refl is.unused in
    let whole : number / RESTS * RESTS + number % RESTS ≡ number = omega arith in
    cc

-- the number is the one that keeps what it shows
pub fields_of-kept : (a : Inside) → IsTraceEntry a → fields_of (kept_state a) ≡ a
fields_of-kept a is = restored a.number is
