-- Gate instances (IEEE 1364-2005, 7.1 to 7.4): which terminals are outputs, and the gates that an instance gives.
use Rattle.std.specs.Prelude.{Bool, true, false, ℕ, suc, ◌+◌, ◌-◌, ◌==◌, ◌||◌, not, nat_le, if◌then◌else◌, List, [], ◌∷◌, ◌++◌, length, take, drop, Option, Some, None}
use Rattle.std.specs.List.{list_any}
use Rattle.fourstate.specs.Gates.{takes_inputs}
use Rattle.fourstate.specs.declared.gate.GateKind.{GateKind}
use Rattle.fourstate.specs.declared.gate.GateKind.TheVariants.{Buf, Not}
use Rattle.vtext.specs.declared.gate.InstanceName.{InstanceName}
use Rattle.vtext.specs.declared.gate.InstanceName.TheVariants.{Written, Unnamed}
use Rattle.vtext.specs.declared.gate.Terminal.{Terminal}
use Rattle.vtext.specs.declared.gate.Terminal.TheVariants.{Constant}
use Rattle.vtext.specs.GateNames.{instance_bytes, is_name_taken, is_part_taken, with_name_taken, with_parts_taken}
use Rattle.vtext.specs.Modules.{GateEntry}
use Rattle.vtext.specs.Readings.{Reading}

-- how many of so many terminals are outputs: of `buf` and `not` all but the last, of the other kinds the first
abbrev pub output_count : GateKind → ℕ → ℕ
output_count Buf n = n - 1
output_count Not n = n - 1
output_count kind n = 1

abbrev pub outputs_of : GateKind → List Terminal → List Terminal
outputs_of kind terminals = take (output_count kind (length terminals)) terminals

abbrev pub inputs_of : GateKind → List Terminal → List Terminal
inputs_of kind terminals = drop (output_count kind (length terminals)) terminals

abbrev pub is_constant : Terminal → Bool
is_constant (Constant value) = true
is_constant terminal = false

-- there is no output, or the number of inputs doesn't fit the kind
abbrev pub is_arity_wrong : GateKind → List Terminal → Bool
is_arity_wrong kind terminals =
    length (outputs_of kind terminals) == 0 || not (takes_inputs kind (length (inputs_of kind terminals)))

-- an output is a constant
abbrev pub is_constant_driven : GateKind → List Terminal → Bool
is_constant_driven kind terminals = list_any is_constant (outputs_of kind terminals)

-- what an instance is called that has this name or none, after so many unnamed ones
abbrev pub called : Option ℕ → ℕ → InstanceName
called (Some n) unnamed = Written n
called None unnamed = Unnamed (unnamed + 1)

abbrev pub instance_name : Reading → InstanceName
instance_name r = called r.instance r.unnamed

-- how many names are made of its name: one for each output, where there are several
abbrev pub part_count : ℕ → ℕ
part_count outputs = if nat_le outputs 1 then 0 else outputs

-- the name that an unnamed instance gets is taken
abbrev pub is_own_taken : List (List ℕ) → List ℕ → InstanceName → Bool
is_own_taken names taken (Written n) = false
is_own_taken names taken (Unnamed n) = is_name_taken names taken (instance_bytes names (Unnamed n))

-- a name that is made for an instance of so many outputs is taken
abbrev pub is_made_taken : List (List ℕ) → List ℕ → InstanceName → ℕ → Bool
is_made_taken names taken instance outputs =
    is_own_taken names taken instance || is_part_taken names taken (instance_bytes names instance) (part_count outputs)

-- the name that an unnamed instance gets is taken from now on
abbrev pub with_own_taken : List (List ℕ) → List ℕ → InstanceName → List ℕ
with_own_taken names taken (Written n) = taken
with_own_taken names taken (Unnamed n) = with_name_taken names taken (instance_bytes names (Unnamed n))

-- so are the names that are made for an instance of so many outputs
abbrev pub with_made_taken : List (List ℕ) → List ℕ → InstanceName → ℕ → List ℕ
with_made_taken names taken instance outputs =
    with_parts_taken names (with_own_taken names taken instance) (instance_bytes names instance) (part_count outputs)

-- the gate of one output
abbrev pub gate_of : Reading → InstanceName → Option ℕ → List Terminal → Terminal → GateEntry
gate_of r instance part inputs output =
    record { kind = r.gate; delays = r.delays; instance = instance; part = part; output = output; inputs = inputs }

-- the gates of several outputs, numbered from here on
abbrev pub part_gates : Reading → InstanceName → List Terminal → ℕ → List Terminal → List GateEntry
part_gates r instance inputs part [] = []
part_gates r instance inputs part (output ∷ outputs) =
    gate_of r instance (Some part) inputs output ∷ part_gates r instance inputs (suc part) outputs

-- the gates of an instance: one, or one for each of several outputs
abbrev pub gates_of : Reading → InstanceName → List Terminal → List Terminal → List GateEntry
gates_of r instance inputs (output ∷ []) = gate_of r instance None inputs output ∷ []
gates_of r instance inputs outputs = part_gates r instance inputs 1 outputs

abbrev pub unnamed_after : Option ℕ → ℕ → ℕ
unnamed_after (Some n) unnamed = unnamed
unnamed_after None unnamed = unnamed + 1

-- the instance is complete
abbrev pub completed : List (List ℕ) → Reading → Reading
completed names r =
    let outputs = outputs_of r.gate r.terminals in
    record r {
      gates = r.gates ++ gates_of r (instance_name r) (inputs_of r.gate r.terminals) outputs;
      taken = with_made_taken names r.taken (instance_name r) (length outputs);
      unnamed = unnamed_after r.instance r.unnamed;
      terminals = [];
    }
