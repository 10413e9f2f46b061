-- What a gate gives for its inputs (IEEE 1364-2005, 7.2 to 7.4).
use Rattle.std.specs.Prelude.{Bool, true, false, ℕ, ◌%◌, ◌==◌, ◌&&◌, nat_le, if◌then◌else◌, List, [], ◌∷◌, map, count_by}
use Rattle.fourstate.specs.Values.{same_value, occurs, reading, inverse}
use Rattle.fourstate.specs.declared.limits.TheConstants.{MAX_INPUTS}
use Rattle.fourstate.specs.declared.value.Value.{Value}
use Rattle.fourstate.specs.declared.value.Value.TheVariants.{Zero, One, Unknown, HighZ}
use Rattle.fourstate.specs.declared.gate.GateKind.{GateKind}
use Rattle.fourstate.specs.declared.gate.GateKind.TheVariants.{And, Nand, Or, Nor, Xor, Xnor, Buf, Not, Bufif1, Bufif0, Notif1, Notif0}

-- Below, inputs are as a gate reads them: none is z.

-- a 0 gives 0; else an x gives x; else 1
abbrev pub and_of : List Value → Value
and_of inputs = if occurs Zero inputs then Zero else (if occurs Unknown inputs then Unknown else One)

-- a 1 gives 1; else an x gives x; else 0
abbrev pub or_of : List Value → Value
or_of inputs = if occurs One inputs then One else (if occurs Unknown inputs then Unknown else Zero)

-- an x gives x; else the parity: 1 where the number of ones is odd
abbrev pub xor_of : List Value → Value
xor_of inputs =
    if occurs Unknown inputs then Unknown else (if count_by (same_value One) inputs % 2 == 1 then One else Zero)

-- the only input
abbrev pub single : List Value → Value
single (input ∷ []) = input
single _ = Unknown

-- an inactive control gives z, an active one the value; a control of x gives x (own: 7.4 writes L or H where the value is known)
abbrev pub controlled : Value → Value → Value → Value
controlled active value control = if same_value control active then value else (if same_value control (inverse active) then HighZ else Unknown)

-- of the two inputs data and control: the data, as the gate passes it on, under the control
abbrev pub three_state : Value → (Value → Value) → List Value → Value
three_state active pass (value ∷ control ∷ []) = controlled active (pass value) control
three_state active pass _ = Unknown

-- what the gate gives for its inputs as it reads them
abbrev pub output_of : GateKind → List Value → Value
output_of And inputs = and_of inputs
output_of Nand inputs = inverse (and_of inputs)
output_of Or inputs = or_of inputs
output_of Nor inputs = inverse (or_of inputs)
output_of Xor inputs = xor_of inputs
output_of Xnor inputs = inverse (xor_of inputs)
output_of Buf inputs = single inputs
output_of Not inputs = inverse (single inputs)
output_of Bufif1 inputs = three_state One (λ value. value) inputs
output_of Bufif0 inputs = three_state Zero (λ value. value) inputs
output_of Notif1 inputs = three_state One inverse inputs
output_of Notif0 inputs = three_state Zero inverse inputs

-- what the gate gives for its inputs, a z among them acting as x
abbrev pub gate_of : GateKind → List Value → Value
gate_of kind inputs = output_of kind (map reading inputs)

-- a gate of this kind may have this many inputs
abbrev pub takes_inputs : GateKind → ℕ → Bool
takes_inputs Buf n = n == 1
takes_inputs Not n = n == 1
takes_inputs Bufif1 n = n == 2
takes_inputs Bufif0 n = n == 2
takes_inputs Notif1 n = n == 2
takes_inputs Notif0 n = n == 2
takes_inputs _ n = nat_le 1 n && nat_le n MAX_INPUTS

-- a gate of this kind may have a turn-off delay: it can stop driving its net (7.14)
abbrev pub takes_off : GateKind → Bool
takes_off Bufif1 = true
takes_off Bufif0 = true
takes_off Notif1 = true
takes_off Notif0 = true
takes_off _ = false

-- the kinds are the same
abbrev pub same_kind : GateKind → GateKind → Bool
same_kind And And = true
same_kind Nand Nand = true
same_kind Or Or = true
same_kind Nor Nor = true
same_kind Xor Xor = true
same_kind Xnor Xnor = true
same_kind Buf Buf = true
same_kind Not Not = true
same_kind Bufif1 Bufif1 = true
same_kind Bufif0 Bufif0 = true
same_kind Notif1 Notif1 = true
same_kind Notif0 Notif0 = true
same_kind _ _ = false
