-- Gates whose inputs are all alike give what the tables say.
use Rattle.std.proofs.Common.{◌≡◌, ℕ, ◌∙◌, sym, ◌||◌, ◌==◌, ◌%◌, Bool, true, false, if◌then◌else◌, List, [], ◌∷◌, map, length, count_by, refl, ap, arith, ◌<◌, ◌≢◌}
use Rattle.std.proofs.lemmas.Grind.{common_steps}
use Rattle.fourstate.specs.Gates.{and_of, or_of, xor_of, gate_of, single, takes_inputs}
use Rattle.fourstate.specs.kept.Rules.{result_of, value_by}
use Rattle.fourstate.specs.kept.Summaries.{summary_of}
use Rattle.fourstate.specs.Values.{same_value, occurs, reading, inverse}
use Rattle.fourstate.specs.declared.gate.GateKind.{GateKind}
use Rattle.fourstate.specs.declared.gate.GateKind.TheVariants.{And, Nand, Or, Nor, Xor, Xnor, Buf, Not, Bufif1, Bufif0, Notif1, Notif0}
use Rattle.fourstate.specs.declared.value.Value.{Value}
use Rattle.fourstate.specs.declared.value.Value.TheVariants.{Zero, One, Unknown, HighZ}
use Rattle.fourstate.proofs.Readings.{zero_read, one_read, unknown_read, ones_read}
use Rattle.fourstate.proofs.Summaries.{odd_in, summary_read, unknown_in}

-- what `and`, `or` and `xor` give, by what is among their inputs
abbrev and_by : (zero unknown : Bool) → Value
and_by zero unknown = if zero then Zero else (if unknown then Unknown else One)

abbrev or_by : (one unknown : Bool) → Value
or_by one unknown = if one then One else (if unknown then Unknown else Zero)

abbrev xor_by : (odd unknown : Bool) → Value
xor_by odd unknown = if unknown then Unknown else (if odd then One else Zero)

by_zero : (z o d u : Bool) → (value_by 0 z o d u ≡ and_by z u) × (value_by 1 z o d u ≡ inverse (and_by z u))
    × (value_by 6 z o d u ≡ and_by z u) × (value_by 7 z o d u ≡ inverse (and_by z u))
by_zero true true true true = (refl, refl, refl, refl)
by_zero true true true false = (refl, refl, refl, refl)
by_zero true true false true = (refl, refl, refl, refl)
by_zero true true false false = (refl, refl, refl, refl)
by_zero true false true true = (refl, refl, refl, refl)
by_zero true false true false = (refl, refl, refl, refl)
by_zero true false false true = (refl, refl, refl, refl)
by_zero true false false false = (refl, refl, refl, refl)
by_zero false true true true = (refl, refl, refl, refl)
by_zero false true true false = (refl, refl, refl, refl)
by_zero false true false true = (refl, refl, refl, refl)
by_zero false true false false = (refl, refl, refl, refl)
by_zero false false true true = (refl, refl, refl, refl)
by_zero false false true false = (refl, refl, refl, refl)
by_zero false false false true = (refl, refl, refl, refl)
by_zero false false false false = (refl, refl, refl, refl)

by_one : (z o d u : Bool) → (value_by 2 z o d u ≡ or_by o u) × (value_by 3 z o d u ≡ inverse (or_by o u))
by_one true true true true = (refl, refl)
by_one true true true false = (refl, refl)
by_one true true false true = (refl, refl)
by_one true true false false = (refl, refl)
by_one true false true true = (refl, refl)
by_one true false true false = (refl, refl)
by_one true false false true = (refl, refl)
by_one true false false false = (refl, refl)
by_one false true true true = (refl, refl)
by_one false true true false = (refl, refl)
by_one false true false true = (refl, refl)
by_one false true false false = (refl, refl)
by_one false false true true = (refl, refl)
by_one false false true false = (refl, refl)
by_one false false false true = (refl, refl)
by_one false false false false = (refl, refl)

by_parity : (z o d u : Bool) → (value_by 4 z o d u ≡ xor_by d u) × (value_by 5 z o d u ≡ inverse (xor_by d u))
by_parity true true true true = (refl, refl)
by_parity true true true false = (refl, refl)
by_parity true true false true = (refl, refl)
by_parity true true false false = (refl, refl)
by_parity true false true true = (refl, refl)
by_parity true false true false = (refl, refl)
by_parity true false false true = (refl, refl)
by_parity true false false false = (refl, refl)
by_parity false true true true = (refl, refl)
by_parity false true true false = (refl, refl)
by_parity false true false true = (refl, refl)
by_parity false true false false = (refl, refl)
by_parity false false true true = (refl, refl)
by_parity false false true false = (refl, refl)
by_parity false false false true = (refl, refl)
by_parity false false false false = (refl, refl)

and_read : (inputs : List Value) → and_of (map reading inputs) ≡ and_by (occurs Zero inputs) (unknown_in inputs)
and_read inputs = rw (zero_read inputs) (rw (unknown_read inputs) refl)

or_read : (inputs : List Value) → or_of (map reading inputs) ≡ or_by (occurs One inputs) (unknown_in inputs)
or_read inputs = rw (one_read inputs) (rw (unknown_read inputs) refl)

xor_read : (inputs : List Value) → xor_of (map reading inputs) ≡ xor_by (odd_in inputs) (unknown_in inputs)
xor_read inputs = rw (unknown_read inputs) (rw (ones_read inputs) refl)

-- the parity that is given is that of the ones, unless an x is among the inputs
parity_read : (inputs : List Value) (d u : Bool) → unknown_in inputs ≡ u → (unknown_in inputs ≡ false → d ≡ odd_in inputs) → xor_of (map reading inputs) ≡ xor_by d u
parity_read inputs d true is odd = xor_read inputs ∙ ap (xor_by (odd_in inputs)) is
parity_read inputs d false is odd = xor_read inputs ∙ ap (xor_by (odd_in inputs)) is ∙ ap (λ b. xor_by b false) (sym (odd is))

-- one input, as it is read, is what `and` gives for it
single_read : (inputs : List Value) → length inputs ≡ 1 → single (map reading inputs) ≡ and_of (map reading inputs)
single_read [] one = cc
single_read (Zero ∷ []) one = refl
single_read (One ∷ []) one = refl
single_read (Unknown ∷ []) one = refl
single_read (HighZ ∷ []) one = refl
single_read (v ∷ w ∷ inputs) one = absurd (omega arith)

-- the number of a kind
abbrev pub number_of : GateKind → ℕ
number_of And = 0
number_of Nand = 1
number_of Or = 2
number_of Nor = 3
number_of Xor = 4
number_of Xnor = 5
number_of Buf = 6
number_of Not = 7
number_of Bufif1 = 8
number_of Bufif0 = 9
number_of Notif1 = 10
number_of Notif0 = 11

-- the kinds without a control are the first ones
pub alike : (kind : GateKind) → kind ≢ Bufif1 → kind ≢ Bufif0 → kind ≢ Notif1 → kind ≢ Notif0 → number_of kind < 8
alike And p q r s = omega arith
alike Nand p q r s = omega arith
alike Or p q r s = omega arith
alike Nor p q r s = omega arith
alike Xor p q r s = omega arith
alike Xnor p q r s = omega arith
alike Buf p q r s = omega arith
alike Not p q r s = omega arith
alike Bufif1 p q r s = absurd (p refl)
alike Bufif0 p q r s = absurd (q refl)
alike Notif1 p q r s = absurd (r refl)
alike Notif0 p q r s = absurd (s refl)

by_number : (kind : GateKind) (inputs : List Value) (z o d u : Bool) → number_of kind < 8 → takes_inputs kind (length inputs) ≡ true →
    z ≡ occurs Zero inputs → o ≡ occurs One inputs → u ≡ unknown_in inputs → (unknown_in inputs ≡ false → d ≡ odd_in inputs) →
    value_by (number_of kind) z o d u ≡ gate_of kind inputs
by_number And inputs z o d u alike takes zero one unknown odd = (by_zero z o d u).0 ∙ ap (λ b. and_by b u) zero ∙ ap (and_by (occurs Zero inputs)) unknown ∙ sym (and_read inputs)
by_number Nand inputs z o d u alike takes zero one unknown odd =
    (by_zero z o d u).1 ∙ ap inverse (ap (λ b. and_by b u) zero ∙ ap (and_by (occurs Zero inputs)) unknown ∙ sym (and_read inputs))
by_number Or inputs z o d u alike takes zero one unknown odd = (by_one z o d u).0 ∙ ap (λ b. or_by b u) one ∙ ap (or_by (occurs One inputs)) unknown ∙ sym (or_read inputs)
by_number Nor inputs z o d u alike takes zero one unknown odd =
    (by_one z o d u).1 ∙ ap inverse (ap (λ b. or_by b u) one ∙ ap (or_by (occurs One inputs)) unknown ∙ sym (or_read inputs))
by_number Xor inputs z o d u alike takes zero one unknown odd = (by_parity z o d u).0 ∙ sym (parity_read inputs d u (sym unknown) odd)
by_number Xnor inputs z o d u alike takes zero one unknown odd = (by_parity z o d u).1 ∙ ap inverse (sym (parity_read inputs d u (sym unknown) odd))
by_number Buf inputs z o d u alike takes zero one unknown odd =
    let only : length inputs ≡ 1 = grind (arith, common_steps) in
    (by_zero z o d u).2 ∙ ap (λ b. and_by b u) zero ∙ ap (and_by (occurs Zero inputs)) unknown ∙ sym (and_read inputs) ∙ sym (single_read inputs only)
by_number Not inputs z o d u alike takes zero one unknown odd =
    let only : length inputs ≡ 1 = grind (arith, common_steps) in
    (by_zero z o d u).3 ∙ ap inverse (ap (λ b. and_by b u) zero ∙ ap (and_by (occurs Zero inputs)) unknown ∙ sym (and_read inputs) ∙ sym (single_read inputs only))
by_number Bufif1 inputs z o d u alike takes zero one unknown odd = absurd (omega arith)
by_number Bufif0 inputs z o d u alike takes zero one unknown odd = absurd (omega arith)
by_number Notif1 inputs z o d u alike takes zero one unknown odd = absurd (omega arith)
by_number Notif0 inputs z o d u alike takes zero one unknown odd = absurd (omega arith)

-- a gate gives for its inputs what the table has for their summary
pub by_summary : (kind : GateKind) (inputs : List Value) → number_of kind < 8 → takes_inputs kind (length inputs) ≡ true →
    result_of (number_of kind) (summary_of inputs) ≡ gate_of kind inputs
by_summary kind inputs alike takes =
    ap (result_of (number_of kind)) (summary_read inputs)
    ∙ by_number kind inputs (occurs Zero inputs) (occurs One inputs) (odd_in inputs) (unknown_in inputs) alike takes refl refl refl (λ known. refl)
