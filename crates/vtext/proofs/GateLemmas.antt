-- The gates of an instance of several outputs.
use Rattle.std.proofs.Common.{◌≡◌, ℕ, suc, ◌+◌, ◌++◌, ◌<◌, List, [], ◌∷◌, Some, length, take, get_or, ap, ◌∙◌, append_assoc, arith}
use Rattle.std.proofs.lemmas.List.{take_more, length-take}
use Rattle.vtext.specs.declared.gate.InstanceName.{InstanceName}
use Rattle.vtext.specs.declared.gate.Terminal.{Terminal}
use Rattle.vtext.specs.Instances.{gate_of, part_gates}
use Rattle.vtext.specs.Modules.{GateEntry}
use Rattle.vtext.specs.Readings.{Reading}

pub part_gates_push : (r : Reading) (instance : InstanceName) (inputs : List Terminal) (part : ℕ) (outputs : List Terminal) (output : Terminal) (n : ℕ)
    → n ≡ part + length outputs
    → part_gates r instance inputs part (outputs ++ output ∷ []) ≡ part_gates r instance inputs part outputs ++ gate_of r instance (Some n) inputs output ∷ []
part_gates_push r instance inputs part [] output n e =
    let same : part ≡ n = omega arith in
    ap (λ (k : ℕ). gate_of r instance (Some k) inputs output ∷ []) same
part_gates_push r instance inputs part (first ∷ outputs) output n e =
    ap (λ (gates : List GateEntry). gate_of r instance (Some part) inputs first ∷ gates) (part_gates_push r instance inputs (suc part) outputs output n (omega arith))

pub part_gates_more : (r : Reading) (instance : InstanceName) (inputs outputs : List Terminal) (d : Terminal) (i : ℕ) → i < length outputs
    → part_gates r instance inputs 1 (take (i + 1) outputs) ≡ part_gates r instance inputs 1 (take i outputs) ++ gate_of r instance (Some (i + 1)) inputs (get_or outputs i d) ∷ []
part_gates_more r instance inputs outputs d i within =
    rw (take_more outputs i d within) (part_gates_push r instance inputs 1 (take i outputs) (get_or outputs i d) (i + 1) (rw length-take (omega arith)))

-- one more output of an instance, in a loop over them
pub parts_more : (first now next : Reading) (instance : InstanceName) (inputs outputs : List Terminal) (d : Terminal) (i : ℕ) → i < length outputs
    → now ≡ record first { gates = first.gates ++ part_gates first instance inputs 1 (take i outputs) }
    → next ≡ record now { gates = now.gates ++ gate_of now instance (Some (i + 1)) inputs (get_or outputs i d) ∷ [] }
    → next ≡ record first { gates = first.gates ++ part_gates first instance inputs 1 (take (i + 1) outputs) }
parts_more first now next instance inputs outputs d i within before after =
    rw (part_gates_more first instance inputs outputs d i within, ← append_assoc)
    (after ∙ ap (λ (r : Reading). record r { gates = r.gates ++ gate_of r instance (Some (i + 1)) inputs (get_or outputs i d) ∷ [] }) before)
