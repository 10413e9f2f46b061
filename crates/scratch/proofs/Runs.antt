-- The run, moment after moment.
use Rattle.std.proofs.Common.{◌≡◌, ◌<◌, ap, refl, Bool, ℕ, zero, suc, ◌+◌, ◌-◌, List, [], ◌∷◌, map, All, add-one, arith}
use Rattle.std.proofs.lemmas.List.{length-map}
use Rattle.std.proofs.lemmas.List.Elements.{All-cons, All-nil, All-head, All-map, All-tail, All-weaker}
use Rattle.fourstate.specs.declared.limits.TheConstants.{MAX_DELAY}
use Rattle.gatestep.specs.Step.{State, Evaluation, due}
use Rattle.gatestep.specs.kept.StepLaws.{not_due}
use Rattle.gatestep.specs.Tasks.{PendingFrom}
use Rattle.gatestep.specs.kept.Tasks.{IsTask, NothingDue, PendingBefore}
use Rattle.design.specs.kept.Lawful.{IsGate}
use Rattle.design.specs.Netlist.{GateEntry, Netlist}
use Rattle.waveform.specs.kept.Changes.{trace_below}
use Rattle.waveform.specs.Entries.{same_state}
use Rattle.waveform.specs.kept.Entries.{CanStore}
use Rattle.waveform.specs.Timelines.{changes_below}
use Rattle.waveform.specs.kept.Timelines.{IsAlwaysSettled, is_reached, pushed}
use Rattle.waveform.specs.declared.times.TheConstants.{TIME_END}
use Rattle.scratch.specs.Run.{evaluation_at, state_after, state_before}

-- two maps agree on a list if they do on the elements of which P holds
pub map_where : {A B : Type 0} (P : A → Type 0) (f g : A → B) → ((x : A) → P x → f x ≡ g x) → (xs : List A) → All P xs → map f xs ≡ map g xs
map_where P f g alike [] all = refl
map_where P f g alike (x ∷ xs) all = rw (alike x (All-head P x xs all)) (ap (λ l. g x ∷ l) (map_where P f g alike xs (All-tail P x xs all)))

pub all_map : {A B : Type 0} (P : B → Type 0) (f : A → B) → ((x : A) → P (f x)) → (xs : List A) → All P (map f xs)
all_map P f holds [] = All-nil P
all_map P f holds (x ∷ xs) = All-cons P (f x) (map f xs) (holds x) (all_map P f holds xs)

-- the changes of a function grow by its next value, which is pushed (`waveform::laws::push_to_changes`)
abbrev pub Grows : {A : Type 0} → (A → A → Bool) → (A → ℕ → A) → Type 0
Grows {A = A} same drift = (f : ℕ → A) → IsAlwaysSettled drift f → (t : ℕ) → pushed same drift (changes_below same drift f t) t (f t) ≡ changes_below same drift f (suc t)

-- what they have become there is its value at the moment before, drifted (`waveform::laws::reached_by_changes`)
abbrev pub Reached : {A : Type 0} → (A → A → Bool) → (A → ℕ → A) → Type 0
Reached {A = A} same drift =
    (f : ℕ → A) → IsAlwaysSettled drift f → (t : ℕ) → 0 < t → (v : A) → is_reached same drift (changes_below same drift f t) t v ≡ same v (drift (f (t - 1)) t)

-- the changes of a function below a moment lie before it (`waveform::laws::changes_lie_before`)
abbrev pub LieBefore : {A : Type 0} → (A → A → Bool) → (A → ℕ → A) → Type 0
LieBefore {A = A} same drift = (f : ℕ → A) (n : ℕ) → All (λ e. e.0 < n) (changes_below same drift f n)

module _ (answer : Evaluation → ℕ → State) (d : Netlist) where
  module _ (pending : (e : Evaluation) (t : ℕ) → IsTask e → NothingDue t (answer e t)) where
    pub is_task : (g : GateEntry) → IsGate g → (t : ℕ) → IsTask (evaluation_at d (state_before answer d t) g t)
    is_task g is t =
        record {
          inputs_fit = rw length-map is.inputs_fit;
          delays_in_range = is.delays_in_range;
        }

    -- after a moment nothing is due at it any more
    pub settled : (g : GateEntry) → IsGate g → (t : ℕ) → due (state_after answer d g t) t ≡ state_after answer d g t
    settled g is t =
        not_due (state_after answer d g t) (state_after answer d g t).pending t refl
        (pending (evaluation_at d (state_before answer d t) g t) t (is_task g is t))

    ready_before : (g : GateEntry) → IsGate g → (t : ℕ) → PendingFrom t (state_before answer d t g)
    ready_before g is zero = λ event none. absurd (cc)
    ready_before g is (suc t) = λ event some.
        let late = pending (evaluation_at d (state_before answer d t) g t) t (is_task g is t) event some in omega arith

    -- what is pending before t is for t or a later moment
    pub ready_all : All IsGate d.gates → (t : ℕ) (states : List State) → states ≡ map (state_before answer d t) d.gates → All (PendingFrom t) states
    ready_all are t states those =
        rw those
        (All-map (PendingFrom t) (state_before answer d t) d.gates
        (All-weaker IsGate (λ g. PendingFrom t (state_before answer d t g)) (λ g is. ready_before g is t) d.gates are))

    module _ (near : (e : Evaluation) (t : ℕ) → IsTask e → PendingBefore (t + MAX_DELAY) e.state → PendingBefore (t + 1 + MAX_DELAY) (answer e t)) where
      -- what is pending before a moment lies at most the greatest delay after the one before
      near_before : (g : GateEntry) → IsGate g → (t : ℕ) → PendingBefore (t + MAX_DELAY) (state_before answer d t g)
      near_before g is zero = λ event none. absurd (cc)
      near_before g is (suc t) = λ event some.
          let before = near (evaluation_at d (state_before answer d t) g t) t (is_task g is t) (near_before g is t) event some in omega arith

      pub can_store : (g : GateEntry) → IsGate g → (t : ℕ) → t < TIME_END → CanStore t (state_after answer d g t)
      can_store g is t low = (
        low,
        λ event some.
            let before = near_before g is (suc t) event some in
            (pending (evaluation_at d (state_before answer d t) g t) t (is_task g is t) event some, omega arith),
      )

      -- the states after t can be stored at t
      pub storable : All IsGate d.gates → (t : ℕ) → t < TIME_END → (states : List State) → states ≡ map (state_before answer d (t + 1)) d.gates → All (CanStore t) states
      storable are t low states those =
          rw (those, add-one)
          (All-map (CanStore t) (state_before answer d (suc t)) d.gates
          (All-weaker IsGate (λ g. CanStore t (state_before answer d (suc t) g)) (λ g is. can_store g is t low) d.gates are))

  pub traces_early : LieBefore same_state due → (t : ℕ) → All (All (λ e. e.0 < t)) (map (λ g. trace_below (state_after answer d g) t) d.gates)
  traces_early early t = all_map (All (λ e. e.0 < t)) (λ g. trace_below (state_after answer d g) t) (λ g. early (state_after answer d g) t) d.gates
