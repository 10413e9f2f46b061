-- What comes of one gate at one moment.
use Rattle.std.proofs.Common.{◌≡◌, ℕ, zero, suc, ◌-◌, ◌<◌, ◌≤◌, ◌∙◌, ap, sym, refl, List, Bool, true, false, not, arith, nat_le, ◌&&◌, ◌||◌}
use Rattle.std.proofs.lemmas.Bool.Decides.{nat_tests}
use Rattle.std.proofs.lemmas.Bool.{le-leb, or_parts, not-false}
use Rattle.std.proofs.Math.Bool.{not-not, or-false}
use Rattle.fourstate.specs.declared.value.Value.{Value}
use Rattle.gatestep.specs.Step.{State, Evaluation}
use Rattle.gatestep.specs.kept.Tasks.{NothingDue, again}
use Rattle.design.specs.Netlist.{GateEntry, Netlist}
use Rattle.waveform.specs.Entries.{same_state}
use Rattle.scratch.specs.Run.{state_after, state_before}
use Rattle.rundiff.specs.Dirty.{is_dirty, is_new, same_task}
use Rattle.scratch.specs.Work.{is_due, is_stirred, same_values, task_at}
use Rattle.scratch.proofs.Driven.{either}
use Rattle.scratch.proofs.Still.{still_after}

module _ (answer : Evaluation → ℕ → State) (old new : Netlist) (g : GateEntry) (t : ℕ) where
  -- at a moment that the old run has, the tasks decide, but for a gate that is new
  pub by_task : t ≤ old.horizon → is_dirty answer old new g t ≡ (is_new old g || not (same_task (task_at answer old g t) (task_at answer new g t)))
  by_task within =
      let o = task_at answer old g t in let n = task_at answer new g t in
      ap (λ (b : Bool). not b || (is_new old g || not (same_task o n))) (le-leb t old.horizon within)

  -- the state in the old run is asked of a gate of both designs alone: a new one is dirty whatever the comparison says
  unless_new : t ≤ old.horizon → (b : Bool) → (is_new old g ≡ true → b ≡ true) →
      (is_new old g ≡ false → b ≡ not (same_task (task_at answer old g t) (task_at answer new g t))) → b ≡ is_dirty answer old new g t
  unless_new within b when_new when_known =
      let differs = not (same_task (task_at answer old g t) (task_at answer new g t)) in
      either (is_new old g)
      (λ yes. when_new yes ∙ sym (by_task within ∙ ap (λ (n : Bool). n || differs) yes))
      (λ no. when_known no ∙ sym (by_task within ∙ ap (λ (n : Bool). n || differs) no))

  -- the comparison of the states and of the inputs, by what is known of them
  by_parts : (o s : State) → o ≡ state_before answer old t g → s ≡ state_before answer new t g →
      (vs ws : List Value) → vs ≡ (task_at answer old g t).inputs → ws ≡ (task_at answer new g t).inputs →
      not (same_state o s && same_values vs ws) ≡ not (same_task (task_at answer old g t) (task_at answer new g t))
  by_parts o s of_old of_new vs ws read_old read_new = rw (of_old, of_new, read_old, read_new) refl

  pub state_differs : t ≤ old.horizon → (o s : State) → (is_new old g ≡ false → o ≡ state_before answer old t g) → s ≡ state_before answer new t g → same_state o s ≡ false → true ≡ is_dirty answer old new g t
  state_differs within o s of_old of_new off =
      let vs = (task_at answer old g t).inputs in let ws = (task_at answer new g t).inputs in
      unless_new within true (λ fresh. refl) (λ known.
      sym (ap (λ (b : Bool). not (b && same_values vs ws)) off) ∙ by_parts o s (of_old known) of_new vs ws refl refl)

  module _ (within : t ≤ old.horizon) (o s : State) (of_old : is_new old g ≡ false → o ≡ state_before answer old t g) (of_new : s ≡ state_before answer new t g) (on : same_state o s ≡ true)
      (vs ws : List Value) (read_old : vs ≡ (task_at answer old g t).inputs) (read_new : ws ≡ (task_at answer new g t).inputs) where
    -- of a gate of both designs, with the same state in both runs, the inputs decide
    inputs_decide : is_new old g ≡ false → not (same_values vs ws) ≡ not (same_task (task_at answer old g t) (task_at answer new g t))
    inputs_decide known = sym (ap (λ (b : Bool). not (b && same_values vs ws)) on) ∙ by_parts o s (of_old known) of_new vs ws read_old read_new

    pub inputs_differ : same_values vs ws ≡ false → true ≡ is_dirty answer old new g t
    inputs_differ off = unless_new within true (λ fresh. refl) (λ known. sym (ap not off) ∙ inputs_decide known)

    -- where nothing differs, a gate is dirty if it is new
    pub new_decides : same_values vs ws ≡ true → is_new old g ≡ is_dirty answer old new g t
    new_decides same = unless_new within (is_new old g) (λ fresh. fresh) (λ known. known ∙ sym (ap not same) ∙ inputs_decide known)

  -- a gate of both designs with the same state in both runs is clean where it reads the same in both
  pub known_decides : t ≤ old.horizon → is_new old g ≡ false → (o s : State) → o ≡ state_before answer old t g → s ≡ state_before answer new t g → same_state o s ≡ true →
      (vs ws : List Value) → vs ≡ (task_at answer old g t).inputs → ws ≡ (task_at answer new g t).inputs → same_values vs ws ≡ not (is_dirty answer old new g t)
  known_decides within known o s of_old of_new on vs ws read_old read_new =
      sym (not-not (same_values vs ws))
      ∙ ap not (inputs_decide within o s (λ k. of_old) of_new on vs ws read_old read_new known ∙ sym (ap (λ (b : Bool). b || not (same_task (task_at answer old g t) (task_at answer new g t))) known) ∙ sym (by_task within))

  -- a new gate is dirty
  pub new_dirty : t ≤ old.horizon → is_new old g ≡ true → true ≡ is_dirty answer old new g t
  new_dirty within new = unless_new within true (λ fresh. refl) (λ known. let no : true ≡ false = sym new ∙ known in absurd (cc))

  -- a gate that is not dirty is not new
  pub clean_known : is_dirty answer old new g t ≡ false → is_new old g ≡ false
  clean_known off =
      let o = task_at answer old g t in let n = task_at answer new g t in
      (or_parts (is_new old g) (not (same_task o n)) (or_parts (not (nat_le t old.horizon)) (is_new old g || not (same_task o n)) off).1).0

  -- nor has the old run ended
  pub clean_within : is_dirty answer old new g t ≡ false → t ≤ old.horizon
  clean_within off =
      let o = task_at answer old g t in let n = task_at answer new g t in
      let early = not-false (nat_le t old.horizon) (or_parts (not (nat_le t old.horizon)) (is_new old g || not (same_task o n)) off).0 in
      grind (arith, nat_tests)

module _ (answer : Evaluation → ℕ → State) (d : Netlist) (g : GateEntry) where
  -- after moment 0, and with nothing due, the inputs decide
  pub stirred_is : (t : ℕ) → 0 < t → is_due (state_before answer d t g) t ≡ false → (ws vs : List Value) → ws ≡ (task_at answer d g t).inputs → vs ≡ (task_at answer d g (t - 1)).inputs →
      not (same_values ws vs) ≡ is_stirred answer d g t
  stirred_is zero some none ws vs now before = absurd (omega arith)
  stirred_is (suc r) some none ws vs now before =
      let e : suc r - 1 ≡ r = omega arith in
      let then : vs ≡ (task_at answer d g r).inputs = before ∙ ap (λ (m : ℕ). (task_at answer d g m).inputs) e in
      rw (now, then, none) (sym (or-false (not (same_values (task_at answer d g (suc r)).inputs (task_at answer d g r).inputs))))

  -- a gate that is not stirred keeps its state
  pub rests : (stays : (e : Evaluation) (t u : ℕ) → t < u → NothingDue u (answer e t) → answer (again e (answer e t)) u ≡ answer e t) → (t : ℕ) → is_stirred answer d g t ≡ false →
      state_before answer d t g ≡ state_after answer d g t
  rests stays zero off = absurd (cc)
  rests stays (suc r) off = sym (still_after answer d stays g r off)
