-- The gates that an instance gives are sound, and stay so when nets are added.
use Rattle.std.proofs.Common.{◌≡◌, ℕ, suc, ◌==◌, Bool, true, false, cond, not, ◌||◌, IsTrue, MatchOption, List, [], ◌∷◌, Option, Some, None, All, length, refl}
use Rattle.std.proofs.lemmas.List.Elements.{All-cons, All-drop, All-head, All-nil, All-tail, All-take, All-weaker}
use Rattle.std.specs.List.{list_any}
use Rattle.std.specs.Prelude.{IsSomeAnd}
use Rattle.fourstate.specs.kept.Delays.{AreDelays}
use Rattle.fourstate.specs.Gates.{takes_inputs}
use Rattle.vtext.specs.declared.cause.Cause.{Cause}
use Rattle.vtext.specs.declared.cause.Cause.TheVariants.{WrongArity, PortKind}
use Rattle.vtext.specs.declared.gate.InstanceName.{InstanceName}
use Rattle.vtext.specs.declared.gate.Terminal.{Terminal}
use Rattle.vtext.specs.declared.gate.Terminal.TheVariants as terminal
use Rattle.vtext.specs.declared.module_instance.PortConnection.{PortConnection}
use Rattle.vtext.specs.declared.net.Net.{Net}
use Rattle.vtext.specs.Causes.{completed_cause}
use Rattle.vtext.specs.Instances.{called, gate_of, gates_of, inputs_of, instance_name, is_arity_wrong, is_constant, is_constant_driven, output_count, outputs_of, part_gates}
use Rattle.vtext.specs.Modules.{GateEntry, InstanceEntry}
use Rattle.vtext.specs.Nets.{is_scalar, net_of}
use Rattle.vtext.specs.Readings.{Reading}
use Rattle.vtext.specs.Ranges.{has_bit}
use Rattle.vtext.specs.kept.Sound.{IsDriven, IsGoodNumber, IsJoinable, IsPortConnected, IsSingle, IsSoundGate, IsSoundInstance}
use Rattle.vtext.proofs.NetEnds.{AreKept}
use Rattle.vtext.proofs.SpellingLemmas.{IsGoodInstance, gate_spelled}

-- More is said of nets.

single_still : (nets more : List (ℕ × Net)) → AreKept nets more → (t : Terminal) → IsSingle nets t → IsSingle more t
single_still nets more kept (terminal.Net n) h = step (net_of nets n) refl h
  where
    step : (found : Option Net) → net_of nets n ≡ found → IsSomeAnd found (λ net. is_scalar net ≡ true) → IsSomeAnd (net_of more n) (λ net. is_scalar net ≡ true)
    step None e h = absurd h
    step (Some net) e h = kept.scalars n net e h
single_still nets more kept (terminal.Bit n i) h = step (net_of nets n) refl h
  where
    step : (found : Option Net) → net_of nets n ≡ found → IsSomeAnd found (λ net. has_bit net.range i ≡ true) → IsSomeAnd (net_of more n) (λ net. has_bit net.range i ≡ true)
    step None e h = absurd h
    step (Some net) e h = kept.bits n net i e h
single_still nets more kept (terminal.Constant value) h = h

pub all_single_still : (nets more : List (ℕ × Net)) → AreKept nets more → (ts : List Terminal) → All (IsSingle nets) ts → All (IsSingle more) ts
all_single_still nets more kept ts all = All-weaker (IsSingle nets) (IsSingle more) (single_still nets more kept) ts all

driven_still : (nets more : List (ℕ × Net)) → AreKept nets more → (t : Terminal) → IsDriven nets t → IsDriven more t
driven_still nets more kept (terminal.Net n) h = single_still nets more kept (terminal.Net n) h
driven_still nets more kept (terminal.Bit n i) h = single_still nets more kept (terminal.Bit n i) h
driven_still nets more kept (terminal.Constant value) h = absurd h

joinable_still : (nets more : List (ℕ × Net)) → AreKept nets more → (t : Terminal) → IsJoinable nets t → IsJoinable more t
joinable_still nets more kept (terminal.Net n) h = kept.there n h
joinable_still nets more kept (terminal.Bit n i) h = single_still nets more kept (terminal.Bit n i) h
joinable_still nets more kept (terminal.Constant value) h = h

gate_still : (names : List (List ℕ)) (nets more : List (ℕ × Net)) → AreKept nets more → (g : GateEntry) → IsSoundGate names nets g → IsSoundGate names more g
gate_still names nets more kept g h = record {
  spelled = h.spelled;
  fits = h.fits;
  delays = h.delays;
  output = driven_still nets more kept g.output h.output;
  inputs = all_single_still nets more kept g.inputs h.inputs;
}

pub gates_still : (names : List (List ℕ)) (nets more : List (ℕ × Net)) → AreKept nets more → (gs : List GateEntry)
    → All (IsSoundGate names nets) gs → All (IsSoundGate names more) gs
gates_still names nets more kept gs all = All-weaker (IsSoundGate names nets) (IsSoundGate names more) (gate_still names nets more kept) gs all

connection_still : (nets more : List (ℕ × Net)) → AreKept nets more → (c : PortConnection) → IsPortConnected nets c → IsPortConnected more c
connection_still nets more kept c h = step c.terminal h
  where
    step : (t : Option Terminal) → MatchOption t (Unit {0}) (IsJoinable nets) → MatchOption t (Unit {0}) (IsJoinable more)
    step None h = tt
    step (Some t) h = joinable_still nets more kept t h

pub connections_still : (nets more : List (ℕ × Net)) → AreKept nets more → (cs : List PortConnection) → All (IsPortConnected nets) cs → All (IsPortConnected more) cs
connections_still nets more kept cs all = All-weaker (IsPortConnected nets) (IsPortConnected more) (connection_still nets more kept) cs all

instance_still : (names : List (List ℕ)) (nets more : List (ℕ × Net)) → AreKept nets more → (i : InstanceEntry)
    → IsSoundInstance names nets i → IsSoundInstance names more i
instance_still names nets more kept i h = record {
  name = h.name;
  connections = connections_still nets more kept i.connections h.connections;
}

pub instances_still : (names : List (List ℕ)) (nets more : List (ℕ × Net)) → AreKept nets more → (is : List InstanceEntry)
    → All (IsSoundInstance names nets) is → All (IsSoundInstance names more) is
instances_still names nets more kept is all =
    All-weaker (IsSoundInstance names nets) (IsSoundInstance names more) (instance_still names nets more kept) is all

-- Outputs.

or_false : (a b : Bool) → (a || b) ≡ false → (a ≡ false) × (b ≡ false)
or_false true b h = absurd cc
or_false false b h = (refl, h)

driven : (nets : List (ℕ × Net)) (t : Terminal) → is_constant t ≡ false → IsSingle nets t → IsDriven nets t
driven nets (terminal.Net n) free h = h
driven nets (terminal.Bit n i) free h = h
driven nets (terminal.Constant value) free h = absurd cc

all_driven : (nets : List (ℕ × Net)) (ts : List Terminal) → list_any is_constant ts ≡ false → All (IsSingle nets) ts → All (IsDriven nets) ts
all_driven nets [] free all = All-nil (IsDriven nets)
all_driven nets (t ∷ ts) free all =
    let both = or_false (is_constant t) (list_any is_constant ts) free in
    All-cons (IsDriven nets) t ts (driven nets t both.0 (All-head (IsSingle nets) t ts all))
    (all_driven nets ts both.1 (All-tail (IsSingle nets) t ts all))

-- The gates of an instance.

record IsReady (names : List (List ℕ)) (nets : List (ℕ × Net)) (r : Reading) (i : InstanceName) (inputs : List Terminal) : Type 0 where
  called : IsGoodInstance names i
  fits : IsTrue (takes_inputs r.gate (length inputs))
  delays : AreDelays r.delays
  connected : All (IsSingle nets) inputs

module _ (names : List (List ℕ)) (nets : List (ℕ × Net)) (r : Reading) (i : InstanceName) (inputs : List Terminal) (ready : IsReady names nets r i inputs) where
  one_sound : (part : Option ℕ) (t : Terminal) → IsDriven nets t → IsSoundGate names nets (gate_of r i part inputs t)
  one_sound part t h = record {
    spelled = gate_spelled names i part ready.called;
    fits = ready.fits;
    delays = ready.delays;
    output = h;
    inputs = ready.connected;
  }

  parts_sound : (part : ℕ) (outputs : List Terminal) → All (IsDriven nets) outputs → All (IsSoundGate names nets) (part_gates r i inputs part outputs)
  parts_sound part [] all = All-nil (IsSoundGate names nets)
  parts_sound part (t ∷ ts) all =
      All-cons (IsSoundGate names nets) (gate_of r i (Some part) inputs t) (part_gates r i inputs (suc part) ts)
      (one_sound (Some part) t (All-head (IsDriven nets) t ts all))
      (parts_sound (suc part) ts (All-tail (IsDriven nets) t ts all))

  all_sound : (outputs : List Terminal) → All (IsDriven nets) outputs → All (IsSoundGate names nets) (gates_of r i inputs outputs)
  all_sound [] all = All-nil (IsSoundGate names nets)
  all_sound (t ∷ []) all =
      All-cons (IsSoundGate names nets) (gate_of r i None inputs t) [] (one_sound None t (All-head (IsDriven nets) t [] all)) (All-nil (IsSoundGate names nets))
  all_sound (t ∷ u ∷ ts) all = parts_sound 1 (t ∷ u ∷ ts) all

-- What is known where the end of an instance has no cause.

not_false : (b : Bool) → not b ≡ false → b ≡ true
not_false true h = refl
not_false false h = absurd cc

free_of : (a b : Bool) (x y : Cause) (rest : Option Cause) → cond a (Some x) (cond b (Some y) rest) ≡ None → (a ≡ false) × (b ≡ false)
free_of true b x y rest h = absurd cc
free_of false true x y rest h = absurd cc
free_of false false x y rest h = (refl, refl)

-- the name of an instance is a good one, if it has one
abbrev pub IsGoodName : List (List ℕ) → Option ℕ → Type 0
IsGoodName names None = Unit {0}
IsGoodName names (Some n) = IsGoodNumber names n

good_instance : (names : List (List ℕ)) (name : Option ℕ) (unnamed : ℕ) → IsGoodName names name → IsGoodInstance names (called name unnamed)
good_instance names None unnamed good = tt
good_instance names (Some n) unnamed good = good

pub completed_sound : (names : List (List ℕ)) (r : Reading) → completed_cause names r ≡ None → IsGoodName names r.instance
    → AreDelays r.delays → All (IsSingle r.nets) r.terminals
    → All (IsSoundGate names r.nets) (gates_of r (instance_name r) (inputs_of r.gate r.terminals) (outputs_of r.gate r.terminals))
completed_sound names r free good delays all =
    let outputs = outputs_of r.gate r.terminals in
    let inputs = inputs_of r.gate r.terminals in
    let clear = free_of (is_arity_wrong r.gate r.terminals) (is_constant_driven r.gate r.terminals) WrongArity PortKind _ free in
    let arity = or_false (length outputs == 0) (not (takes_inputs r.gate (length inputs))) clear.0 in
    let ready : IsReady names r.nets r (instance_name r) inputs = record {
      called = good_instance names r.instance r.unnamed good;
      fits = not_false (takes_inputs r.gate (length inputs)) arity.1;
      delays = delays;
      connected = All-drop (IsSingle r.nets) (output_count r.gate (length r.terminals)) r.terminals all;
    } in
    all_sound names r.nets r (instance_name r) inputs ready outputs
    (all_driven r.nets outputs clear.1 (All-take (IsSingle r.nets) (output_count r.gate (length r.terminals)) r.terminals all))
