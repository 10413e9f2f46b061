-- What stays of one gate while nothing happens to it, and what its driver's states keep.
use Rattle.std.proofs.Common.{◌≡◌, ◌<◌, ◌≤◌, ◌∙◌, sym, ap, subst, refl, Bool, true, false, not, cond, ℕ, zero, suc, ◌+◌, List, [], ◌∷◌, ◌++◌, append-nil, append_assoc, length, Option, Some, None, IsTrue, arith, ⊎_elim}
use Rattle.std.specs.Option.{option_map_or, ForSome}
use Rattle.std.specs.Prelude.{nat_le, ◌||◌, ◌&&◌}
use Rattle.std.proofs.Math.Bool.{and-true}
use Rattle.std.proofs.lemmas.Bool.{and_left, and_right, cond-false, not-false, or_parts, cases_lt, le-leb, leb-true, lt-leb}
use Rattle.fourstate.specs.Gates.{takes_inputs}
use Rattle.fourstate.specs.declared.delay_times.DelayTimes.{DelayTimes}
use Rattle.fourstate.specs.declared.gate.GateKind.{GateKind}
use Rattle.fourstate.specs.declared.limits.TheConstants.{MAX_DELAY}
use Rattle.fourstate.specs.declared.value.Value.{Value}
use Rattle.fourstate.specs.kept.Delays.{AreDelays}
use Rattle.gatestep.specs.Step.{State, Evaluation, due}
use Rattle.gatestep.specs.Tasks.{PendingFrom}
use Rattle.gatestep.specs.kept.StepLaws.{not_due}
use Rattle.gatestep.specs.kept.Tasks.{IsTask, NothingDue, PendingBefore, again}
use Rattle.gateline.proofs.Lists.{same_values_equal, same_values_itself}
use Rattle.gateline.specs.kept.Line.{is_stirred_by, line_trace, line_work_from, state_by, task_by, work_at}
use Rattle.scratch.proofs.Still.{none_due, nothing_due}
use Rattle.scratch.specs.Work.{is_due, same_values}
use Rattle.waveform.specs.Entries.{same_state}
use Rattle.waveform.specs.Timelines.{changes_below}
use Rattle.waveform.specs.declared.times.TheConstants.{TIME_END}
use Rattle.waveform.specs.kept.Entries.{CanStore}
use Rattle.waveform.specs.kept.Timelines.{IsAlwaysSettled}

-- before the moment of what is pending nothing is due
not_due_at : (p : Option (Value × ℕ)) (n u : ℕ) → ForSome p (λ event. n ≤ event.1) → u < n → option_map_or (λ event. nat_le event.1 u) p false ≡ false
not_due_at None n u early below = refl
not_due_at (Some event) n u early below = let from : n ≤ event.1 = early event refl in lt-leb event.1 u (omega arith)

pub not_due_yet : (s : State) (n u : ℕ) → ForSome s.pending (λ event. n ≤ event.1) → u < n → is_due s u ≡ false
not_due_yet s n u early below = not_due_at s.pending n u early below

-- a moment at which a state merely drifts adds no entry (`waveform::laws::no_change_by_drift`)
abbrev pub NoneAdded : Type 0
NoneAdded = (f : ℕ → State) (t : ℕ) → f (suc t) ≡ due (f t) (suc t) → changes_below same_state due f (suc (suc t)) ≡ changes_below same_state due f (suc t)

module _ (answer : Evaluation → ℕ → State) (kind : GateKind) (delays : DelayTimes) (inputs : ℕ → List Value) where
  abbrev state : ℕ → State
  state = state_by answer kind delays inputs

  abbrev task : ℕ → Evaluation
  task = task_by answer kind delays inputs

  abbrev stirred : ℕ → Bool
  stirred = is_stirred_by answer kind delays inputs

  -- What is asked of it, where some of its tasks are wanted.
  module _ (wanted : Evaluation → ℕ → Bool) where
    abbrev work : ℕ → List (Evaluation × ℕ)
    work = work_at answer kind delays inputs wanted

    abbrev from : ℕ → ℕ → List (Evaluation × ℕ)
    from = line_work_from answer kind delays inputs wanted

    -- what is asked at t comes to what was asked from n on
    pub one_more_from : (n t : ℕ) → n ≤ t → from n (suc t) ≡ from n t ++ work t
    one_more_from n t low = ap (λ (b : Bool). cond b (from n t ++ work t) []) (le-leb n t low)

    -- where that was asked before, and what is asked at t was added
    pub asked_more : (first before after : List (Evaluation × ℕ)) (n t : ℕ) → n ≤ t → before ≡ first ++ from n t → after ≡ before ++ work t → after ≡ first ++ from n (suc t)
    asked_more first before after n t low is more =
        more ∙ ap (λ l. l ++ work t) is ∙ append_assoc first (from n t) (work t) ∙ ap (λ l. first ++ l) (sym (one_more_from n t low))

    none_from : (n : ℕ) → from n n ≡ []
    none_from zero = refl
    none_from (suc n) = ap (λ (b : Bool). cond b (from (suc n) n ++ work n) []) (lt-leb (suc n) n (omega arith))

    -- what is asked from a on is what is asked before m and from m on
    pub work_splits : (a m n : ℕ) → a ≤ m → m ≤ n → from a n ≡ from a m ++ from m n
    work_splits a m zero low within =
        let here : m ≡ 0 = omega arith in
        sym (append-nil (from a 0)) ∙ ap (λ k. from a k ++ from k 0) (sym here)
    work_splits a m (suc n) low within =
        ⊎_elim
        (λ before.
        let on : m ≤ n = omega arith in
        one_more_from a n (omega arith)
        ∙ ap (λ l. l ++ work n) (work_splits a m n low on)
        ∙ append_assoc (from a m) (from m n) (work n)
        ∙ ap (λ l. from a m ++ l) (sym (one_more_from m n on)))
        (λ after.
        let here : m ≡ suc n = omega arith in
        sym (append-nil (from a (suc n))) ∙ ap (λ l. from a (suc n) ++ l) (sym (none_from (suc n))) ∙ ap (λ k. from a k ++ from k (suc n)) (sym here))
        (cases_lt m (suc n))

    -- nothing is asked at a moment at which it is not stirred
    pub nothing_at : (t : ℕ) → stirred t ≡ false → work t ≡ []
    nothing_at t off = cond-false (wanted (task t) t && stirred t) ((task t, t) ∷ []) [] (and_right (wanted (task t) t) (stirred t) off)

    -- where it is stirred it is asked if its task is wanted
    pub stirred_work : (t : ℕ) → stirred t ≡ true → work t ≡ cond (wanted (task t) t) ((task t, t) ∷ []) []
    stirred_work t on = ap (λ (b : Bool). cond b ((task t, t) ∷ []) []) (ap (λ (b : Bool). wanted (task t) t && b) on ∙ and-true (wanted (task t) t))

    -- nothing is asked where its task is not wanted
    unwanted_at : (t : ℕ) → wanted (task t) t ≡ false → work t ≡ []
    unwanted_at t off = cond-false (wanted (task t) t && stirred t) ((task t, t) ∷ []) [] (and_left (wanted (task t) t) (stirred t) off)

    pub never_asked : (a n : ℕ) → ((t : ℕ) → a ≤ t → t < n → wanted (task t) t ≡ false) → from a n ≡ []
    never_asked a zero off = refl
    never_asked a (suc t) off =
        elim (nat_le a t) as (λ b. nat_le a t ≡ b → cond b (from a t ++ work t) [] ≡ []) [
          | true ↦ λ h.
              let low : a ≤ t = leb-true a t h in
              λ i. never_asked a t (λ u from low. off u from (omega arith)) i ++ unwanted_at t (off t low (omega arith)) i
          | false ↦ λ h. refl
        ] refl

  -- it is not stirred where nothing of it is due and its inputs stay
  pub is_still : (t : ℕ) → is_due (state (suc t)) (suc t) ≡ false → inputs (suc t) ≡ inputs t → stirred (suc t) ≡ false
  is_still t none stay =
      ap (λ (vs : List Value). not (same_values (inputs (suc t)) vs) || is_due (state (suc t)) (suc t)) (sym stay)
      ∙ ap (λ (b : Bool). not b || is_due (state (suc t)) (suc t)) (same_values_itself (inputs (suc t))) ∙ none

  module _ (stays : (e : Evaluation) (t u : ℕ) → t < u → NothingDue u (answer e t) → answer (again e (answer e t)) u ≡ answer e t) where
    -- where it is not stirred it keeps its state
    pub still_state : (t : ℕ) → stirred (suc t) ≡ false → state (suc (suc t)) ≡ state (suc t)
    still_state t off =
        let parts = or_parts (not (same_values (inputs (suc t)) (inputs t))) (is_due (state (suc t)) (suc t)) off in
        ap (λ (vs : List Value). answer (record { kind = kind; delays = delays; state = state (suc t); inputs = vs }) (suc t))
        (same_values_equal (inputs (suc t)) (inputs t) (not-false (same_values (inputs (suc t)) (inputs t)) parts.0))
        ∙ stays (task t) t (suc t) (omega arith) (nothing_due (state (suc t)) (suc t) parts.1)

    -- and adds no entry to its trace
    pub still_trace : NoneAdded → (t : ℕ) → stirred (suc t) ≡ false → line_trace answer kind delays inputs (suc (suc t)) ≡ line_trace answer kind delays inputs (suc t)
    still_trace none_added t off =
        let parts = or_parts (not (same_values (inputs (suc t)) (inputs t))) (is_due (state (suc t)) (suc t)) off in
        none_added (λ u. state (suc u)) t (still_state t off ∙ sym (none_due (state (suc t)) (suc t) parts.1))

    -- what it has after r where it is the same as after m
    pub record StaysTo (m r : ℕ) : Type 0 where
      pub states : state (suc r) ≡ state (suc m)
      pub traces : line_trace answer kind delays inputs (suc r) ≡ line_trace answer kind delays inputs (suc m)
      pub works : (wanted : Evaluation → ℕ → Bool) (n : ℕ) → n ≤ suc m →
          line_work_from answer kind delays inputs wanted n (suc r) ≡ line_work_from answer kind delays inputs wanted n (suc m)

    stays_here : (m r : ℕ) → m ≡ r → StaysTo m r
    stays_here m r here = subst (StaysTo m) here (record { states = refl; traces = refl; works = λ wanted n low. refl })

    -- where its inputs stay from m to r, and nothing of it is due, all stays
    pub stays_to : NoneAdded → (m r : ℕ) → m ≤ r → ((u : ℕ) → m ≤ u → u ≤ r → inputs u ≡ inputs m) → ((u : ℕ) → u ≤ r → is_due (state (suc m)) u ≡ false) → StaysTo m r
    stays_to none_added m zero from same none = stays_here m 0 (omega arith)
    stays_to none_added m (suc r) from same none =
        ⊎_elim
        (λ before.
        let within : m ≤ r = omega arith in
        let so_far = stays_to none_added m r within (λ u low high. same u low (omega arith)) (λ u high. none u (omega arith)) in
        let off : stirred (suc r) ≡ false =
        is_still r (ap (λ s. is_due s (suc r)) so_far.states ∙ none (suc r) (omega arith)) (same (suc r) (omega arith) (omega arith) ∙ sym (same r within (omega arith))) in
        record {
          states = still_state r off ∙ so_far.states;
          traces = still_trace none_added r off ∙ so_far.traces;
          works = λ wanted n low. one_more_from wanted n (suc r) (omega arith)
              ∙ ap (λ l. line_work_from answer kind delays inputs wanted n (suc r) ++ l) (nothing_at wanted (suc r) off)
              ∙ append-nil (line_work_from answer kind delays inputs wanted n (suc r)) ∙ so_far.works wanted n low;
        })
        (λ after. stays_here m (suc r) (omega arith))
        (cases_lt m (suc r))

  -- What its states keep.
  module _ (fit : (t : ℕ) → IsTrue (takes_inputs kind (length (inputs t)))) (are : AreDelays delays)
      (pending : (e : Evaluation) (t : ℕ) → IsTask e → NothingDue t (answer e t)) where
    is_task : (t : ℕ) → IsTask (task t)
    is_task t = record { inputs_fit = fit t; delays_in_range = are }

    -- after a moment nothing is due at it any more
    pub settled : IsAlwaysSettled due (λ t. state (suc t))
    settled t = not_due (state (suc t)) (state (suc t)).pending t refl (pending (task t) t (is_task t))

    -- what is pending before t is for t or a later moment
    pub ready : (t : ℕ) → PendingFrom t (state t)
    ready zero = λ event none. absurd (cc)
    ready (suc t) = λ event some. let late = pending (task t) t (is_task t) event some in omega arith

    module _ (near : (e : Evaluation) (t : ℕ) → IsTask e → PendingBefore (t + MAX_DELAY) e.state → PendingBefore (t + 1 + MAX_DELAY) (answer e t)) where
      -- what is pending before a moment lies at most the greatest delay after the one before
      near_before : (t : ℕ) → PendingBefore (t + MAX_DELAY) (state t)
      near_before zero = λ event none. absurd (cc)
      near_before (suc t) = λ event some.
          let before = near (task t) t (is_task t) (near_before t) event some in omega arith

      -- a state can be stored at its moment
      pub storable : (t : ℕ) → t < TIME_END → CanStore t (state (suc t))
      storable t low = (
        low,
        λ event some.
            let before = near_before (suc t) event some in
            (pending (task t) t (is_task t) event some, omega arith),
      )
