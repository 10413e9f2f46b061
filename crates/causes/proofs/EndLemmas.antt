-- When a gate turns from a moment on.
use Rattle.std.proofs.Common.{◌≡◌, ◌≢◌, ◌<◌, ◌≤◌, ◌-◌, ◌&&◌, ℕ, zero, suc, Bool, true, false, not, List, [], ◌∷◌, Option, Some, None, IfSome, refl, sym, ap, subst, ◌∙◌, arith}
use Rattle.std.specs.Option.{ForSome}
use Rattle.std.proofs.lemmas.Bool.{and_from, and_parts, false_from_ne_true}
use Rattle.fourstate.specs.declared.value.Value.{Value}
use Rattle.fourstate.specs.Values.{same_value}
use Rattle.fourstate.specs.kept.ValueLaws.{is_same, same_self}
use Rattle.gatestep.specs.Step.{advance, same_pending}
use Rattle.design.specs.Netlist.{GateEntry, Netlist}
use Rattle.scratch.specs.Run.{state_after, state_before}
use Rattle.waveform.specs.kept.SampleLaws.{is_same_pending, same_pending_self}
use Rattle.causes.specs.Causes.{brings, driven, ends, is_other, turns}
use Rattle.causes.specs.kept.Effects.{takes_effect}
use Rattle.causes.proofs.MomentLemmas.{is_off, none_pass, not_on, one_passes}

-- An event that is pending after an evaluation and was before it was not brought by it, and one that was not was.

pub nothing_new : (after before : Option (Value × ℕ)) (event : Value × ℕ) → same_pending after before ≡ true
    → (same_pending after (Some event) && not (same_pending before (Some event))) ≡ false
nothing_new after before event same =
    let equal : after ≡ before = is_same_pending after before same in
    rw equal (elim (same_pending before (Some event)) as (λ b. (b && not b) ≡ false) [ true ↦ refl | false ↦ refl ])

pub all_new : (after before : Option (Value × ℕ)) (event : Value × ℕ) → same_pending after before ≡ false
    → (same_pending after (Some event) && not (same_pending before (Some event))) ≡ same_pending after (Some event)
all_new after before event other =
    elim (same_pending after (Some event)) as (λ a. same_pending after (Some event) ≡ a → (a && not (same_pending before (Some event))) ≡ a) [
      | true ↦ λ h. elim (same_pending before (Some event)) as (λ b. same_pending before (Some event) ≡ b → (true && not b) ≡ true) [
        | true ↦ λ k. absurd (
            let first : after ≡ Some event = is_same_pending after (Some event) h in
            let second : before ≡ Some event = is_same_pending before (Some event) k in
            let same : same_pending after before ≡ true = rw (first, second) (same_pending_self (Some event)) in cc)
        | false ↦ λ k. refl
      ] refl
      | false ↦ λ h. refl
    ] refl

-- At which moments a value over time turns by an event that passes a test.

abbrev turns_by : (ℕ → Value) → (Value × ℕ → Bool) → ℕ → Bool
turns_by f test zero = false
turns_by f test (suc u) = is_other f (suc u) && test (f (suc u), suc u)

abbrev has_effect : (ℕ → Value) → Value × ℕ → Bool
has_effect f event = same_value (f event.1) event.0 && not (same_value (f (event.1 - 1)) event.0)

not_same : (v w : Value) → same_value v w ≡ false → same_value w v ≡ false
not_same v w other =
    false_from_ne_true (same_value w v) (λ same. let equal : w ≡ v = is_same w v same in let again : same_value v w ≡ true = subst (λ (x : Value). same_value v x ≡ true) (sym equal) (same_self v) in cc)

as_event : (v w : Value) (t u : ℕ) → v ≡ w → t ≡ u → ◌≡◌ {A = Value × ℕ} (v, t) (w, u)
as_event v w t u e f = cc

parts_of : (event : Value × ℕ) (v : Value) (u : ℕ) → same_pending (Some event) (Some (v, u)) ≡ true → (event.1 ≡ u) × (event.0 ≡ v)
parts_of event v u same = let equal : ◌≡◌ {A = Option (Value × ℕ)} (Some event) (Some (v, u)) = is_same_pending (Some event) (Some (v, u)) same in (cc, cc)

module _ (f : ℕ → Value) (test : Value × ℕ → Bool) where
  parts_turning : (u : ℕ) → turns_by f test u ≡ true → (test (f u, u) ≡ true) × (same_value (f (u - 1)) (f u) ≡ false)
  parts_turning zero is = absurd (cc)
  parts_turning (suc u) is =
      let parts = and_parts (is_other f (suc u)) (test (f (suc u), suc u)) is in
      let before : suc u - 1 ≡ u = omega arith in
      (parts.1, rw before (not_same (f (suc u)) (f u) (is_off (same_value (f (suc u)) (f u)) parts.0)))

  none_by : ((event : Value × ℕ) → test event ≡ false) → (u : ℕ) → turns_by f test u ≡ false
  none_by none u = false_from_ne_true (turns_by f test u) (λ is. let no = none (f u, u) in let yes = (parts_turning u is).0 in cc)

  module _ (v : Value) (m : ℕ) (one : (e : Value × ℕ) → test e ≡ same_pending (Some (v, m)) (Some e)) where
    is_event : (u : ℕ) → turns_by f test u ≡ true → (m ≡ u) × (v ≡ f u)
    is_event u is = parts_of (v, m) (f u) u (sym (one (f u, u)) ∙ (parts_turning u is).0)

    effect_at : (u : ℕ) → turns_by f test u ≡ true → has_effect f (v, m) ≡ true
    effect_at u is =
        let at = is_event u is in
        let there : same_value (f u) (f u) ≡ true = same_self (f u) in
        let before : same_value (f (u - 1)) (f u) ≡ false = (parts_turning u is).1 in
        let here : has_effect f (f u, u) ≡ true = and_from (same_value (f u) (f u)) (not (same_value (f (u - 1)) (f u))) there (rw before refl) in
        subst (λ (e : Value × ℕ). has_effect f e ≡ true) (as_event (f u) v u m (sym at.1) (sym at.0)) here

    turning : (u : ℕ) → m ≡ u → 0 < u → has_effect f (v, m) ≡ true → turns_by f test u ≡ true
    turning zero at later effect = absurd (omega arith)
    turning (suc u) at later effect =
        let parts = and_parts (same_value (f m) v) (not (same_value (f (m - 1)) v)) effect in
        let drives : f (suc u) ≡ v = ap f (sym at) ∙ is_same (f m) v parts.0 in
        let moment : m - 1 ≡ u = omega arith in
        let before : same_value (f u) v ≡ false = rw moment at (is_off (same_value (f (m - 1)) v) parts.1) in
        let other : same_value (f (suc u)) (f u) ≡ false = rw drives (not_same (f u) v before) in
        let whole : ◌≡◌ {A = Value × ℕ} (f (suc u), suc u) (v, m) = as_event (f (suc u)) v (suc u) m drives (sym at) in
        let passes : test (f (suc u), suc u) ≡ true = ap test whole ∙ (one (v, m) ∙ same_pending_self (Some (v, m))) in
        and_from (is_other f (suc u)) (test (f (suc u), suc u)) (rw other refl) passes

-- At which moments a gate turns by what its evaluation brought.

module _ (d : Netlist) (g : GateEntry) (t : ℕ) where
  -- where it brought none
  pub ends_none : ((event : Value × ℕ) → brings d g t event ≡ false) → ends d g t ≡ []
  ends_none none = none_pass (turns d g t) (suc d.horizon) (λ u low. none_by (driven d g) (brings d g t) none u)

  module _ (event : Value × ℕ) (brought : (e : Value × ℕ) → brings d g t e ≡ same_pending (Some event) (Some e)) where
    -- where it lies past the horizon
    pub ends_late : d.horizon < event.1 → ends d g t ≡ []
    ends_late late = none_pass (turns d g t) (suc d.horizon)
        (λ u low. false_from_ne_true (turns d g t u) (λ is. let same = (is_event (driven d g) (brings d g t) event.0 event.1 brought u is).0 in omega arith))

    -- where it takes no effect
    pub ends_lost : takes_effect d g event ≡ false → ends d g t ≡ []
    ends_lost lost = none_pass (turns d g t) (suc d.horizon)
        (λ u low. false_from_ne_true (turns d g t u) (λ is. not_on (takes_effect d g event) lost (effect_at (driven d g) (brings d g t) event.0 event.1 brought u is)))

    -- where it takes effect
    pub ends_once : 0 < event.1 → event.1 ≤ d.horizon → takes_effect d g event ≡ true → ends d g t ≡ event.1 ∷ []
    ends_once later within effect =
        one_passes (turns d g t) event.1 (suc d.horizon) (omega arith) (turning (driven d g) (brings d g t) event.0 event.1 brought event.1 refl later effect)
        (λ u is. sym (is_event (driven d g) (brings d g t) event.0 event.1 brought u is).0)

-- The state before a later moment is that after the one before it.
pub before_later : (d : Netlist) (g : GateEntry) (t : ℕ) → 0 < t → state_after advance d g (t - 1) ≡ state_before advance d t g
before_later d g zero later = absurd (omega arith)
before_later d g (suc t) later = let before : suc t - 1 ≡ t = omega arith in ap (state_after advance d g) before

-- what is pending lies later
pub if_from_for : (result pending : Option (Value × ℕ)) (t : ℕ) → result ≡ pending → ForSome pending (λ event. t < event.1) → IfSome result (λ event. t < event.1)
if_from_for None pending t same later = tt
if_from_for (Some event) pending t same later = later event (sym same)
