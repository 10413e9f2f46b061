-- An instance that is complete: its gates join those of the module, and all their names are taken.
use Rattle.std.proofs.Common.{◌≡◌, ℕ, suc, ◌+◌, ◌^◌, ◌<◌, ◌≤◌, Bool, true, false, cond, min, All, AllPairs, List, Option, Some, None, length, take, refl, subst, length-take, arith}
use Rattle.std.proofs.lemmas.Bool.{or_parts}
use Rattle.std.proofs.lemmas.List.Elements.{All-append}
use Rattle.vtext.specs.declared.cause.Cause.{Cause}
use Rattle.vtext.specs.declared.cause.Cause.TheVariants.{WrongArity, PortKind, DuplicateName}
use Rattle.vtext.specs.declared.gate.InstanceName.{InstanceName}
use Rattle.vtext.specs.declared.gate.Terminal.{Terminal}
use Rattle.vtext.specs.Causes.{completed_cause, when}
use Rattle.vtext.specs.GateNames.{instance_bytes, is_part_taken, is_taken}
use Rattle.vtext.specs.Instances.{called, completed, inputs_of, instance_name, is_arity_wrong, is_constant_driven, is_made_taken, is_own_taken, output_count, outputs_of, part_count, unnamed_after, with_made_taken, with_own_taken}
use Rattle.vtext.specs.Modules.{GateEntry}
use Rattle.vtext.specs.Names.{name_at, number_of}
use Rattle.vtext.specs.Readings.{Reading}
use Rattle.vtext.specs.kept.Sound.{IsGoodNumber}
use Rattle.vtext.proofs.TakenLemmas.{IsHeld, Keeps, name_held, name_kept, parts_kept}
use Rattle.vtext.proofs.FreshLemmas.{IsFresh, IsKnown, IsNext, IsSettled, base_some, fresh, settled_more}
use Rattle.vtext.proofs.InstanceLemmas.{Differ, gates_apart, gates_settled}

-- gates have different names, which are taken; so many words are left
pub record IsApart (names : List (List ℕ)) (room : ℕ) (gates : List GateEntry) (taken : List ℕ) (unnamed : ℕ) (terminals : List Terminal) : Type 0 where
  pub apart : AllPairs (Differ names) gates
  pub settled : All (IsSettled names taken unnamed) gates
  pub few : unnamed + room < 2 ^ 64
  pub short : length terminals + room < 2 ^ 64

abbrev pub Holds : List (List ℕ) → ℕ → Reading → Type 0
Holds names room r = IsApart names room r.gates r.taken r.unnamed r.terminals

-- the instance that is being read: if it has a name, that is a good one and taken, and no gate has it
pub record IsNamed (names : List (List ℕ)) (n : ℕ) (gates : List GateEntry) (taken : List ℕ) : Type 0 where
  pub good : IsGoodNumber names n
  pub taken_now : is_taken taken n ≡ true
  pub fresh : All (IsFresh names (name_at names n)) gates

abbrev pub IsStarted : List (List ℕ) → Option ℕ → List GateEntry → List ℕ → Type 0
IsStarted names None gates taken = Unit {0}
IsStarted names (Some n) gates taken = IsNamed names n gates taken

-- By whether it has a name.

next_of : (names : List (List ℕ)) (name : Option ℕ) (gates : List GateEntry) (taken : List ℕ) (unnamed : ℕ) → IsStarted names name gates taken → IsNext names unnamed (called name unnamed)
next_of names None gates taken unnamed started = refl
next_of names (Some n) gates taken unnamed started = started.good

known_of : (names : List (List ℕ)) (name : Option ℕ) (gates : List GateEntry) (taken : List ℕ) (unnamed : ℕ) → IsStarted names name gates taken
    → IsKnown names (unnamed_after name unnamed) (called name unnamed)
known_of names None gates taken unnamed started = omega arith
known_of names (Some n) gates taken unnamed started = started.good

fresh_of : (names : List (List ℕ)) (name : Option ℕ) (gates : List GateEntry) (taken : List ℕ) (unnamed : ℕ) → IsStarted names name gates taken
    → unnamed + 1 < 2 ^ 64 → is_own_taken names taken (called name unnamed) ≡ false → All (IsSettled names taken unnamed) gates
    → All (IsFresh names (instance_bytes names (called name unnamed))) gates
fresh_of names None gates taken unnamed started room free settled = fresh names taken unnamed (called None unnamed) gates room refl free settled
fresh_of names (Some n) gates taken unnamed started room free settled = started.fresh

own_kept : (names : List (List ℕ)) (name : Option ℕ) (taken : List ℕ) (unnamed : ℕ) → Keeps taken (with_own_taken names taken (called name unnamed))
own_kept names None taken unnamed m h = name_kept names taken (instance_bytes names (called None unnamed)) m h
own_kept names (Some n) taken unnamed m h = h

own_held : (names : List (List ℕ)) (name : Option ℕ) (gates : List GateEntry) (taken : List ℕ) (unnamed : ℕ) → IsStarted names name gates taken
    → IsHeld names (with_own_taken names taken (called name unnamed)) (instance_bytes names (called name unnamed))
own_held names None gates taken unnamed started m e = name_held names taken (instance_bytes names (called None unnamed)) m e
own_held names (Some n) gates taken unnamed started m e =
    let known : number_of names (name_at names n) ≡ Some n = started.good.known in
    let same : n ≡ m = cc in
    subst (λ (k : ℕ). is_taken taken k ≡ true) same started.taken_now

count_of : (name : Option ℕ) (unnamed : ℕ) → (unnamed ≤ unnamed_after name unnamed) × (unnamed_after name unnamed ≤ unnamed + 1)
count_of None unnamed = (omega arith, omega arith)
count_of (Some n) unnamed = (omega arith, omega arith)

-- The whole instance.

last_free : (a b c : Bool) (first second third : Cause) → cond a (Some first) (cond b (Some second) (when c third)) ≡ None → c ≡ false
last_free true b c first second third e = absurd cc
last_free false true c first second third e = absurd cc
last_free false false true first second third e = absurd cc
last_free false false false first second third e = refl

made_free : (names : List (List ℕ)) (r : Reading) → completed_cause names r ≡ None → is_made_taken names r.taken (instance_name r) (length (outputs_of r.gate r.terminals)) ≡ false
made_free names r none =
    last_free (is_arity_wrong r.gate r.terminals) (is_constant_driven r.gate r.terminals) (is_made_taken names r.taken (instance_name r) (length (outputs_of r.gate r.terminals)))
    WrongArity PortKind DuplicateName none

outputs_short : (r : Reading) → length (outputs_of r.gate r.terminals) ≤ length r.terminals
outputs_short r =
    let n : ℕ = output_count r.gate (length r.terminals) in
    let taken : length (take n r.terminals) ≡ min n (length r.terminals) = length-take n r.terminals in
    omega (arith, taken)

-- all that was taken before still is
pub completed_keeps : (names : List (List ℕ)) (r : Reading) → Keeps r.taken (completed names r).taken
completed_keeps names r m t =
    let instance : InstanceName = instance_name r in
    let own : List ℕ = with_own_taken names r.taken instance in
    let parts : ℕ = part_count (length (outputs_of r.gate r.terminals)) in
    parts_kept names own (instance_bytes names instance) parts m (own_kept names r.instance r.taken r.unnamed m t)

pub completed_holds : (names : List (List ℕ)) (r : Reading) (room : ℕ) → Holds names (suc room) r → IsStarted names r.instance r.gates r.taken
    → completed_cause names r ≡ None → Holds names room (completed names r)
completed_holds names r room h started none =
    let instance : InstanceName = instance_name r in
    let outputs : List Terminal = outputs_of r.gate r.terminals in
    let inputs : List Terminal = inputs_of r.gate r.terminals in
    let base : List ℕ = instance_bytes names instance in
    let own : List ℕ = with_own_taken names r.taken instance in
    let later : List ℕ = with_made_taken names r.taken instance (length outputs) in
    let count : ℕ = unnamed_after r.instance r.unnamed in
    let small : length outputs < 2 ^ 64 = omega (arith, outputs_short r, h.short) in
    let counted = count_of r.instance r.unnamed in
    let free = or_parts (is_own_taken names r.taken instance) (is_part_taken names r.taken base (part_count (length outputs))) (made_free names r none) in
    let keeps : Keeps r.taken later = completed_keeps names r in
    let known : IsKnown names count instance = known_of names r.instance r.gates r.taken r.unnamed started in
    record {
      apart = gates_apart names r instance inputs r.taken r.unnamed r.gates outputs (omega (arith, h.few)) small (base_some names count instance known) free.1 h.settled
          (fresh_of names r.instance r.gates r.taken r.unnamed started (omega (arith, h.few)) free.0 h.settled) h.apart;
      settled = All-append (IsSettled names later count) r.gates _ (settled_more names r.taken later r.unnamed count r.gates keeps counted.0 h.settled)
          (gates_settled names r instance inputs own count outputs small known (own_held names r.instance r.gates r.taken r.unnamed started));
      few = omega (arith, h.few, counted.1);
      short = omega (arith, h.few);
    }
