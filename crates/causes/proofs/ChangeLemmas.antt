-- What the waves and traces of a run say at a moment.
use Rattle.std.proofs.Common.{◌≡◌, ◌<◌, ◌≤◌, ◌-◌, ◌==◌, ℕ, zero, suc, List, Bool, not, length, Option, Some, None, IfSome, refl, sym, ap, ap₂, subst, ◌∙◌, arith}
use Rattle.std.proofs.lemmas.List.{length-map}
use Rattle.fourstate.specs.declared.value.Value.{Value}
use Rattle.fourstate.specs.declared.value.Value.TheVariants.{Unknown}
use Rattle.fourstate.specs.Values.{same_value}
use Rattle.gatestep.specs.Step.{State, advance, due, initial}
use Rattle.gatestep.specs.kept.StepLaws.{advance_later, not_due}
use Rattle.gatestep.specs.kept.Tasks.{IsTask, NothingDue}
use Rattle.design.specs.Keys.{KeyedGate, connection_in, entry_in}
use Rattle.design.specs.kept.Keys.{IsKeyedGate}
use Rattle.design.specs.Netlist.{GateEntry, NetEntry, Netlist}
use Rattle.scratch.specs.Run.{evaluation_at, state_after, state_before, terminal_at, value, wave_of}
use Rattle.scratch.specs.kept.Run.{trace_of}
use Rattle.waveform.specs.Entries.{same_state, standing}
use Rattle.waveform.specs.Timelines.{changes_below, value_by}
use Rattle.waveform.specs.kept.Timelines.{IsAlwaysSettled}
use Rattle.causes.specs.Causes.{changes_at, is_other}

module _ (d : Netlist) (nets : List (ℕ × NetEntry)) (g : KeyedGate) (is : IsKeyedGate g) where
  reads_as_many : (t : ℕ) → length (evaluation_at d (state_before advance d t) (entry_in nets g) t).inputs ≡ length g.inputs
  reads_as_many t =
      length-map (entry_in nets g).inputs (λ terminal. terminal_at d (state_before advance d t) terminal t)
      ∙ length-map g.inputs (connection_in nets)

  is_task : (t : ℕ) → IsTask (evaluation_at d (state_before advance d t) (entry_in nets g) t)
  is_task t = let same = reads_as_many t in record {
    inputs_fit = rw same is.inputs_fit;
    delays_in_range = is.delays_in_range;
  }

  -- what is pending after a moment is for a later one
  pub pending_later : (t : ℕ) → NothingDue t (state_after advance d (entry_in nets g) t)
  pending_later t = advance_later (evaluation_at d (state_before advance d t) (entry_in nets g) t) t (is_task t)

  -- a state after a moment is as it stands there
  pub settled : IsAlwaysSettled due (state_after advance d (entry_in nets g))
  settled t = not_due (state_after advance d (entry_in nets g) t) (state_after advance d (entry_in nets g) t).pending t refl (pending_later t)

-- at a later moment than the first one
pub other_later : (f : ℕ → Value) (t : ℕ) → 0 < t → is_other f t ≡ not (same_value (f t) (f (t - 1)))
other_later f zero later = absurd (omega arith)
other_later f (suc t) later = let before : suc t - 1 ≡ t = omega arith in rw before refl

-- a fact for a value that is there from another one
pub if_some : {X : Type 0} (o : Option X) (P Q : X → Type 0) → IfSome o P → ((x : X) → o ≡ Some x → P x → Q x) → IfSome o Q
if_some None P Q is then = tt
if_some (Some x) P Q is then = then x refl is

-- the changes of a function below a moment give its values before it (`waveform::laws::value_of_changes`)
abbrev pub ChangesGive : {A : Type 0} → (A → A → Bool) → (A → ℕ → A) → A → Type 0
ChangesGive {A = A} same drift start = (f : ℕ → A) → IsAlwaysSettled drift f → (t n : ℕ) → t < n → value_by drift start (changes_below same drift f n) t ≡ f t

-- what a wave of a net says
pub value_of_wave : ChangesGive same_value standing Unknown → (d : Netlist) (n : NetEntry) (wave : List (ℕ × Value)) (t : ℕ) → t ≤ d.horizon → wave ≡ wave_of advance d n
    → value_by standing Unknown wave t ≡ value advance d n t
value_of_wave law d n wave t within is = rw is (law (value advance d n) (λ u. refl) t (suc d.horizon) (omega arith))

-- what a trace of a gate says
pub state_of_trace : ChangesGive same_state due initial → (d : Netlist) (g : GateEntry) (trace : List (ℕ × State)) (t : ℕ) → t ≤ d.horizon → IsAlwaysSettled due (state_after advance d g)
    → trace ≡ trace_of advance d g → value_by due initial trace t ≡ state_after advance d g t
state_of_trace law d g trace t within settled is = rw is (law (state_after advance d g) settled t (suc d.horizon) (omega arith))

-- what a change of a net is found by
pub changed : (o : Option NetEntry) (d : Netlist) (v w : Value) (t : ℕ) → 0 < t → IfSome o (λ n. v ≡ value advance d n t) → IfSome o (λ n. w ≡ value advance d n (t - 1))
    → (same : Bool) → same ≡ same_value v w → IfSome o (λ n. not same ≡ changes_at d n t)
changed None d v w t later is before same e = tt
changed (Some n) d v w t later is before same e = ap not e ∙ (ap₂ (λ x y. not (same_value x y)) is before ∙ sym (other_later (value advance d n) t later))

-- the gate of a key is one
pub same_gate : (o : Option KeyedGate) (g h : KeyedGate) → o ≡ Some g → o ≡ Some h → g ≡ h
same_gate o g h is also = cc

-- a fact of the gate that is there
pub at_some : {X : Type 0} (o : Option X) (x : X) (P : X → Type 0) → o ≡ Some x → IfSome o P → P x
at_some o x P is holds = subst (λ p. IfSome p P) is holds
