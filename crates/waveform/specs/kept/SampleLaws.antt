-- The laws of states as samples of a timeline.
use Rattle.std.specs.Prelude.{◌≡◌, ◌<◌, ◌≤◌, ℕ, true, ◌&&◌, ◌==◌, Option, Some, None, refl}
use Rattle.std.proofs.Common.{arith}
use Rattle.std.proofs.lemmas.Bool.{eqb-true, eq-eqb, and_parts, and_from}
use Rattle.std.proofs.lemmas.Grind.{common_steps}
use Rattle.fourstate.specs.declared.value.Value.{Value}
use Rattle.fourstate.specs.Values.{same_value}
use Rattle.fourstate.specs.kept.ValueLaws.{is_same, same_self}
use Rattle.gatestep.specs.Step.{State, due, due_of}
use Rattle.waveform.specs.Entries.{same_pending, same_state}
use Rattle.waveform.specs.kept.Entries.{CanStore}
use Rattle.waveform.specs.declared.times.TheConstants.{TIME_END}

same_events : (v w : Value) (t u : ℕ) → (same_value v w && t == u) ≡ true →
    ◌≡◌ {A = Option (Value × ℕ)} (Some (v, t)) (Some (w, u))
same_events v w t u e =
    let both = and_parts (same_value v w) (t == u) e in
    let values = is_same v w both.0 in
    let times = eqb-true t u both.1 in
    cc

pub is_same_pending : (p q : Option (Value × ℕ)) → same_pending p q ≡ true → p ≡ q
is_same_pending None None e = refl
is_same_pending None (Some event) e = cc
is_same_pending (Some event) None e = cc
is_same_pending (Some d) (Some event) e = same_events d.0 event.0 d.1 event.1 e

pub same_pending_self : (p : Option (Value × ℕ)) → same_pending p p ≡ true
same_pending_self None = refl
same_pending_self (Some event) = and_from (same_value event.0 event.0) (event.1 == event.1) (same_self event.0) (eq-eqb event.1 event.1 refl)

same_parts : (c d : Value) (p q : Option (Value × ℕ)) → c ≡ d → p ≡ q →
    ◌≡◌ {A = State} (record { current = c; pending = p }) (record { current = d; pending = q })
same_parts c d p q currents pendings = cc

-- `same_state` decides equality
pub is_same_state : (s r : State) → same_state s r ≡ true → s ≡ r
is_same_state s r e =
    let both = and_parts (same_value s.current r.current) (same_pending s.pending r.pending) e in
    same_parts s.current r.current s.pending r.pending (is_same s.current r.current both.0) (is_same_pending s.pending r.pending both.1)

pub same_state_self : (s : State) → same_state s s ≡ true
same_state_self s = and_from (same_value s.current s.current) (same_pending s.pending s.pending) (same_self s.current) (same_pending_self s.pending)

due_of_due : (c : Value) (pending : Option (Value × ℕ)) (s u : ℕ) → s ≤ u → due (due_of c pending s) u ≡ due_of c pending u
due_of_due c None s u le = refl
due_of_due c (Some event) s u le = grind (arith, common_steps)

-- a state that drifts to s and then to u drifts to u
pub due_twice : (a : State) (s u : ℕ) → s ≤ u → due (due a s) u ≡ due a u
due_twice a s u le = due_of_due a.current a.pending s u le

stored_is_settled : (c : Value) (pending : Option (Value × ℕ)) (t : ℕ) → CanStore t (record { current = c; pending = pending }) →
    due_of c pending t ≡ record { current = c; pending = pending }
stored_is_settled c None t can = refl
stored_is_settled c (Some event) t can = grind (arith, common_steps)

-- what can be stored at t is as it stands at t
pub settled_at : (t : ℕ) (a : State) → CanStore t a → due a t ≡ a
settled_at t a can = stored_is_settled a.current a.pending t can

due_can_store : (c : Value) (pending : Option (Value × ℕ)) (t u : ℕ) → t ≤ u → u < TIME_END → CanStore t (record { current = c; pending = pending }) → CanStore u (due_of c pending u)
due_can_store c None t u le low can = (low, λ x h. grind (arith, common_steps))
due_can_store c (Some event) t u le low can = (low, λ x h. grind (arith, common_steps))

-- what can be stored at t can be stored later too, drifted to that moment
pub stored_later : (t u : ℕ) (a : State) → t ≤ u → u < TIME_END → CanStore t a → CanStore u (due a u)
stored_later t u a le low can = due_can_store a.current a.pending t u le low can
