-- What the evaluation of a gate brought, by what is pending around it, and when the gate turns by it.
use Rattle.std.proofs.Common.{◌≡◌, ◌<◌, ◌≤◌, ◌-◌, ◌&&◌, not, ℕ, Bool, true, false, List, [], ◌∷◌, Option, Some, None, IfSome, refl, sym, ap₂, ◌∙◌, arith}
use Rattle.fourstate.specs.declared.value.Value.{Value}
use Rattle.fourstate.specs.Values.{same_value}
use Rattle.gatestep.specs.Step.{advance, same_pending}
use Rattle.design.specs.Keys.{KeyedGate, entry_in}
use Rattle.design.specs.Netlist.{NetEntry, Netlist}
use Rattle.scratch.specs.Run.{state_after, state_before}
use Rattle.causes.specs.Causes.{brings, driven, ends}
use Rattle.causes.specs.kept.Effects.{takes_effect}
use Rattle.causes.proofs.EndLemmas.{all_new, ends_late, ends_lost, ends_none, ends_once, nothing_new}

module _ (d : Netlist) (nets : List (ℕ × NetEntry)) (t : ℕ) where
  pub brings_nothing : (o : Option KeyedGate) (after before : Option (Value × ℕ)) → IfSome o (λ g. before ≡ (state_before advance d t (entry_in nets g)).pending)
      → IfSome o (λ g. after ≡ (state_after advance d (entry_in nets g) t).pending) → same_pending after before ≡ true
      → IfSome o (λ g. (e : Value × ℕ) → brings d (entry_in nets g) t e ≡ false)
  brings_nothing None after before is_before is_after same = tt
  brings_nothing (Some g) after before is_before is_after same =
      λ e. ap₂ (λ p q. same_pending p (Some e) && not (same_pending q (Some e))) (sym is_after) (sym is_before) ∙ nothing_new after before e same

  pub brings_all : (o : Option KeyedGate) (after before : Option (Value × ℕ)) → IfSome o (λ g. before ≡ (state_before advance d t (entry_in nets g)).pending)
      → IfSome o (λ g. after ≡ (state_after advance d (entry_in nets g) t).pending) → same_pending after before ≡ false
      → IfSome o (λ g. (e : Value × ℕ) → brings d (entry_in nets g) t e ≡ same_pending after (Some e))
  brings_all None after before is_before is_after other = tt
  brings_all (Some g) after before is_before is_after other =
      λ e. ap₂ (λ p q. same_pending p (Some e) && not (same_pending q (Some e))) (sym is_after) (sym is_before) ∙ all_new after before e other

  pub no_end : (o : Option KeyedGate) → IfSome o (λ g. (e : Value × ℕ) → brings d (entry_in nets g) t e ≡ false) → IfSome o (λ g. ◌≡◌ {A = List ℕ} [] (ends d (entry_in nets g) t))
  no_end None none = tt
  no_end (Some g) none = sym (ends_none d (entry_in nets g) t none)

  module _ (event : Value × ℕ) where
    pub late_end : (o : Option KeyedGate) → IfSome o (λ g. (e : Value × ℕ) → brings d (entry_in nets g) t e ≡ same_pending (Some event) (Some e)) → d.horizon < event.1
        → IfSome o (λ g. ◌≡◌ {A = List ℕ} [] (ends d (entry_in nets g) t))
    late_end None one late = tt
    late_end (Some g) one late = sym (ends_late d (entry_in nets g) t event one late)

    pub lost_end : (o : Option KeyedGate) (b : Bool) → IfSome o (λ g. (e : Value × ℕ) → brings d (entry_in nets g) t e ≡ same_pending (Some event) (Some e))
        → IfSome o (λ g. b ≡ takes_effect d (entry_in nets g) event) → b ≡ false → IfSome o (λ g. ◌≡◌ {A = List ℕ} [] (ends d (entry_in nets g) t))
    lost_end None b one is off = tt
    lost_end (Some g) b one is off = sym (ends_lost d (entry_in nets g) t event one (sym is ∙ off))

    pub one_end : (o : Option KeyedGate) (b : Bool) → IfSome o (λ g. (e : Value × ℕ) → brings d (entry_in nets g) t e ≡ same_pending (Some event) (Some e))
        → IfSome o (λ g. b ≡ takes_effect d (entry_in nets g) event) → b ≡ true → t < event.1 → event.1 ≤ d.horizon → IfSome o (λ g. event.1 ∷ [] ≡ ends d (entry_in nets g) t)
    one_end None b one is on later within = tt
    one_end (Some g) b one is on later within = sym (ends_once d (entry_in nets g) t event one (omega arith) within (sym is ∙ on))

-- an event takes effect
pub effect_of : (d : Netlist) (nets : List (ℕ × NetEntry)) (o : Option KeyedGate) (v now before : Value) (t : ℕ) (b : Bool) → IfSome o (λ g. before ≡ driven d (entry_in nets g) (t - 1))
    → IfSome o (λ g. now ≡ driven d (entry_in nets g) t) → b ≡ (same_value now v && not (same_value before v)) → IfSome o (λ g. b ≡ takes_effect d (entry_in nets g) (v, t))
effect_of d nets None v now before t b is_before is_now e = tt
effect_of d nets (Some g) v now before t b is_before is_now e = e ∙ ap₂ (λ x y. same_value x v && not (same_value y v)) is_now is_before
