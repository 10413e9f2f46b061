-- From when on a gate turns.
use Rattle.std.proofs.Common.{◌≡◌, ◌<◌, ◌≤◌, ◌+◌, ◌-◌, ◌&&◌, ◌++◌, nat_le, ℕ, zero, suc, Bool, true, false, not, List, [], ◌∷◌, Option, Some, None, ◌⊎◌, inl, inr, refl, sym, ap, ◌∙◌, arith}
use Rattle.std.specs.Option.{ForSome}
use Rattle.std.proofs.lemmas.Bool.{and_from, and_parts}
use Rattle.std.proofs.lemmas.Bool.Decides.{nat_tests}
use Rattle.std.proofs.lemmas.Grind.{common_steps}
use Rattle.fourstate.specs.declared.delay_times.DelayTimes.{DelayTimes}
use Rattle.fourstate.specs.declared.value.Value.{Value}
use Rattle.fourstate.specs.Delays.{delay_to}
use Rattle.fourstate.specs.Gates.{gate_of}
use Rattle.fourstate.specs.Values.{same_value}
use Rattle.fourstate.specs.kept.ValueLaws.{is_same, same_self}
use Rattle.gatestep.specs.Step.{State, advance, due, due_of, is_pending, rescheduled, same_pending}
use Rattle.gatestep.specs.kept.Tasks.{NothingDue}
use Rattle.design.specs.Netlist.{GateEntry, Netlist}
use Rattle.scratch.specs.Run.{evaluation_at, state_after, state_before}
use Rattle.waveform.specs.kept.SampleLaws.{is_same_pending, same_pending_self}
use Rattle.causes.specs.Causes.{brings, driven, is_other, starts, turns}
use Rattle.causes.proofs.MomentLemmas.{is_off, none_pass, not_both, one_passes}

-- Events.

-- what pends once a due event has become current pended before
kept_pending : (c : Value) (pending : Option (Value × ℕ)) (t : ℕ) (event : Value × ℕ) → (due_of c pending t).pending ≡ Some event → pending ≡ Some event
kept_pending c None t event at = at
kept_pending c (Some e) t event at =
    elim (nat_le e.1 t) as (λ b. nat_le e.1 t ≡ b → ◌≡◌ {A = Option (Value × ℕ)} (Some e) (Some event)) [
      | true ↦ λ h. absurd (let no : ◌≡◌ {A = Option (Value × ℕ)} None (Some event) = rw h at at in cc)
      | false ↦ λ h. rw h at at
    ] refl

-- an event that pends after an evaluation either pended before, or is for the moment after the delay to its value
from_before : (delays : DelayTimes) (s : State) (v : Value) (t : ℕ) (event : Value × ℕ) → rescheduled delays (due s t) v t ≡ Some event
    → (s.pending ≡ Some event) ⊎ (event.1 ≡ t + delay_to delays event.0)
from_before delays s v t event at =
    elim (is_pending v (due s t).pending) as (λ b. is_pending v (due s t).pending ≡ b → (s.pending ≡ Some event) ⊎ (event.1 ≡ t + delay_to delays event.0)) [
      | true ↦ λ h. inl (kept_pending s.current s.pending t event (rw h at at))
      | false ↦ λ h. elim (same_value v (due s t).current) as (λ b. same_value v (due s t).current ≡ b → (s.pending ≡ Some event) ⊎ (event.1 ≡ t + delay_to delays event.0)) [
        | true ↦ λ k. absurd (let no : ◌≡◌ {A = Option (Value × ℕ)} None (Some event) = rw (h, k) at at in cc)
        | false ↦ λ k. inr (let new : ◌≡◌ {A = Option (Value × ℕ)} (Some (v, t + delay_to delays v)) (Some event) = rw (h, k) at at in cc)
      ] refl
    ] refl

module _ (d : Netlist) (g : GateEntry) where
  -- an evaluation brings an event for the moment after the delay to its value
  pub brought_for : (u : ℕ) (event : Value × ℕ) → brings d g u event ≡ true → event.1 ≡ u + delay_to g.delays event.0
  brought_for u event brought =
      let s : State = state_before advance d u g in
      let both = and_parts (same_pending (state_after advance d g u).pending (Some event)) (not (same_pending s.pending (Some event))) brought in
      let after = is_same_pending (state_after advance d g u).pending (Some event) both.0 in
      elim (from_before g.delays s (gate_of g.kind (evaluation_at d (state_before advance d u) g u).inputs) u event after) [
        | inl before ↦ absurd (not_both (same_pending s.pending (Some event)) (rw before (same_pending_self (Some event))) both.1)
        | inr later ↦ later
      ]

  -- an event that pends before a moment was brought by an evaluation before it
  pub brought_before : (m : ℕ) (event : Value × ℕ) → (state_before advance d m g).pending ≡ Some event → (u : ℕ) × (u < m) × (brings d g u event ≡ true)
  brought_before zero event at = absurd (cc)
  brought_before (suc m) event at =
      let s : State = state_before advance d m g in
      elim (same_pending s.pending (Some event)) as (λ b. same_pending s.pending (Some event) ≡ b → (u : ℕ) × (u < suc m) × (brings d g u event ≡ true)) [
        | true ↦ λ h. let found = brought_before m event (is_same_pending s.pending (Some event) h) in (found.0, omega (arith, found.1), found.2)
        | false ↦ λ h. (m, omega arith, and_from (same_pending (state_after advance d g m).pending (Some event)) (not (same_pending s.pending (Some event))) (rw at (same_pending_self (Some event))) (rw h refl))
      ] refl

-- a state that becomes another one by itself had an event pending for then
turning : (c : Value) (pending : Option (Value × ℕ)) (t : ℕ) → ForSome pending (λ event. t < event.1)
    → same_value (due_of c pending (suc t)).current c ≡ false → pending ≡ Some ((due_of c pending (suc t)).current, suc t)
turning c None t later other = absurd (let same = same_self c in cc)
turning c (Some event) t later other =
    elim (nat_le event.1 (suc t)) as (λ b. nat_le event.1 (suc t) ≡ b → ◌≡◌ {A = Option (Value × ℕ)} (Some event) (Some ((due_of c (Some event) (suc t)).current, suc t))) [
      | true ↦ λ h.
          let after : t < event.1 = later event refl in
          let up_to : event.1 ≤ suc t = grind (arith, nat_tests) in
          let then : event.1 ≡ suc t = omega arith in
          rw h (ap (λ (m : ℕ). Some (event.0, m)) then)
      | false ↦ λ h. absurd (let same = same_self c in let no : same_value c c ≡ false = rw h at other in cc)
    ] refl

module _ (d : Netlist) (g : GateEntry) (later : (t : ℕ) → NothingDue t (state_after advance d g t)) where
  -- from when on a gate turns that turns
  start : (t : ℕ) → is_other (driven d g) (suc t) ≡ true → (u : ℕ) × (u < suc t) × (brings d g u (driven d g (suc t), suc t) ≡ true)
  start t other =
      let s : State = state_after advance d g t in
      let differ : same_value (driven d g (suc t)) s.current ≡ false = is_off (same_value (driven d g (suc t)) s.current) other in
      brought_before d g (suc t) (driven d g (suc t), suc t) (turning s.current s.pending t (later t) differ)

  one_start : (t : ℕ) → is_other (driven d g) (suc t) ≡ true
      → (starts d g (suc t) ≡ (suc t - delay_to g.delays (driven d g (suc t))) ∷ []) × (delay_to g.delays (driven d g (suc t)) ≤ suc t)
  one_start t other =
      let event : Value × ℕ = (driven d g (suc t), suc t) in
      let found = start t other in
      let delayed : suc t ≡ found.0 + delay_to g.delays event.0 = brought_for d g found.0 event found.2 in
      let same : found.0 ≡ suc t - delay_to g.delays event.0 = omega arith in
      let turning : turns d g found.0 (suc t) ≡ true = and_from (is_other (driven d g) (suc t)) (brings d g found.0 event) other found.2 in
      let only : (u : ℕ) → turns d g u (suc t) ≡ true → u ≡ found.0 = (λ u is.
      let brought = (and_parts (is_other (driven d g) (suc t)) (brings d g u event) is).1 in
      let for : suc t ≡ u + delay_to g.delays event.0 = brought_for d g u event brought in
      omega arith) in
      (one_passes (λ u. turns d g u (suc t)) found.0 (suc t) found.1 turning only ∙ ap (λ (m : ℕ). m ∷ []) same, omega arith)

  -- a gate that drives another value than at the moment before turns from the moment on that lies the delay to that value before
  pub starts_once : (t : ℕ) → 0 < t → same_value (driven d g t) (driven d g (t - 1)) ≡ false
      → (starts d g t ≡ (t - delay_to g.delays (driven d g t)) ∷ []) × (delay_to g.delays (driven d g t) ≤ t)
  starts_once zero positive differ = absurd (omega arith)
  starts_once (suc t) positive differ =
      let before : suc t - 1 ≡ t = omega arith in
      let differ' : same_value (driven d g (suc t)) (driven d g t) ≡ false = rw before at differ in
      one_start t (rw differ' refl)

-- one that drives the same value does not turn
pub no_start : (d : Netlist) (g : GateEntry) (t : ℕ) → 0 < t → same_value (driven d g t) (driven d g (t - 1)) ≡ true → starts d g t ≡ []
no_start d g zero positive same = absurd (omega arith)
no_start d g (suc t) positive same =
    let before : suc t - 1 ≡ t = omega arith in
    let same' : same_value (driven d g (suc t)) (driven d g t) ≡ true = rw before at same in
    none_pass (λ u. turns d g u (suc t)) (suc t) (λ u low. rw same' refl)
