-- The states and traces of stirred gates go on, the others stay.
use Rattle.std.proofs.Common.{◌≡◌, ◌<◌, ◌∙◌, sym, ap, refl, false, ℕ, zero, suc, ◌+◌, ◌-◌, List, map, Option, Some, None, slice_get, All, add-one, arith}
use Rattle.std.specs.Option.{option_map, option_map_or}
use Rattle.std.proofs.lemmas.Option.{slice_get-map}
use Rattle.gatestep.specs.Step.{State, Evaluation, due}
use Rattle.gatestep.specs.kept.Tasks.{IsTask, NothingDue, again}
use Rattle.design.specs.kept.Lawful.{IsGate}
use Rattle.design.specs.Netlist.{GateEntry, Netlist}
use Rattle.design.proofs.ByNameLemmas.{all_at}
use Rattle.waveform.specs.kept.Changes.{trace_below}
use Rattle.waveform.specs.Entries.{same_state}
use Rattle.waveform.specs.kept.Timelines.{is_reached, pushed}
use Rattle.scratch.specs.kept.Places.{has, passing}
use Rattle.scratch.specs.Run.{state_after, state_before}
use Rattle.scratch.specs.Work.{is_stirred}
use Rattle.scratch.proofs.Passing.{has_place}
use Rattle.scratch.proofs.Runs.{Grows, Reached, settled}
use Rattle.scratch.proofs.Still.{Stays, still_after, trace_stays}

module _ (answer : Evaluation → ℕ → State) (d : Netlist) where
  module _ (current : (e : Evaluation) (t : ℕ) → (answer e t).current ≡ (due e.state t).current)
      (stays : (e : Evaluation) (t u : ℕ) → t < u → NothingDue u (answer e t) → answer (again e (answer e t)) u ≡ answer e t) where
    still_state : (g : GateEntry) (t : ℕ) → 0 < t → is_stirred answer d g t ≡ false → state_before answer d t g ≡ state_before answer d (t + 1) g
    still_state g zero begun h = absurd (omega arith)
    still_state g (suc v) begun h = rw add-one (sym (still_after answer d stays g v h))

    still_trace : Stays same_state due → (g : GateEntry) (t : ℕ) → 0 < t → is_stirred answer d g t ≡ false → trace_below (state_after answer d g) t ≡ trace_below (state_after answer d g) (t + 1)
    still_trace still g zero begun h = absurd (omega arith)
    still_trace still g (suc v) begun h = rw add-one (sym (trace_stays answer d stays still g v h))

    module _ {Y : Type 0} (f h : GateEntry → Y) (t : ℕ) (same : (g : GateEntry) → is_stirred answer d g t ≡ false → f g ≡ h g) where
      unstirred_by : (o : Option GateEntry) → option_map_or (λ g. is_stirred answer d g t) o false ≡ false → option_map f o ≡ option_map h o
      unstirred_by None off = refl
      unstirred_by (Some g) off = ap (λ y. Some y) (same g off)

      -- what stays of gates that are not stirred stays at all other places
      unstirred : (k : ℕ) → has k (passing (λ g. is_stirred answer d g t) 0 d.gates) ≡ false → slice_get (map f d.gates) k ≡ slice_get (map h d.gates) k
      unstirred k off =
          slice_get-map f d.gates k
          ∙ unstirred_by (slice_get d.gates k) (sym (has_place (λ g. is_stirred answer d g t) d.gates k) ∙ off)
          ∙ sym (slice_get-map h d.gates k)

    pub other_states : (t : ℕ) → 0 < t → (k : ℕ) → has k (passing (λ g. is_stirred answer d g t) 0 d.gates) ≡ false →
        slice_get (map (state_before answer d t) d.gates) k ≡ slice_get (map (state_before answer d (t + 1)) d.gates) k
    other_states t begun = unstirred (state_before answer d t) (state_before answer d (t + 1)) t (λ g off. still_state g t begun off)

    pub other_traces : Stays same_state due → (t : ℕ) → 0 < t → (k : ℕ) → has k (passing (λ g. is_stirred answer d g t) 0 d.gates) ≡ false →
        slice_get (map (λ g. trace_below (state_after answer d g) t) d.gates) k ≡ slice_get (map (λ g. trace_below (state_after answer d g) (t + 1)) d.gates) k
    other_traces still t begun = unstirred (λ g. trace_below (state_after answer d g) t) (λ g. trace_below (state_after answer d g) (t + 1)) t (λ g off. still_trace still g t begun off)

  module _ (pending : (e : Evaluation) (t : ℕ) → IsTask e → NothingDue t (answer e t)) (grows : Grows same_state due) (are : All IsGate d.gates) where
    trace_by : (t k : ℕ) (o : Option GateEntry) (trace : List (ℕ × State)) (s : State) → slice_get d.gates k ≡ o → option_map (λ g. trace_below (state_after answer d g) t) o ≡ Some trace →
        option_map (state_before answer d (t + 1)) o ≡ Some s → option_map (λ g. trace_below (state_after answer d g) (t + 1)) o ≡ Some (pushed same_state due trace t s)
    trace_by t k None trace s at old new = absurd (cc)
    trace_by t k (Some g) trace s at old new =
        let was : trace_below (state_after answer d g) t ≡ trace = cc in
        let is : state_before answer d (t + 1) g ≡ s = cc in
        let one : pushed same_state due (trace_below (state_after answer d g) t) t (state_before answer d (t + 1) g) ≡ trace_below (state_after answer d g) (t + 1) =
        rw add-one (grows (state_after answer d g) (settled answer d pending g (all_at IsGate d.gates k g are at)) t) in
        ap (λ y. Some y) (sym one ∙ ap (λ x. pushed same_state due x t (state_before answer d (t + 1) g)) was ∙ ap (pushed same_state due trace t) is)

    -- the trace at a place goes on with the state there
    pub next_trace : (t k : ℕ) (trace : List (ℕ × State)) (s : State) → slice_get (map (λ g. trace_below (state_after answer d g) t) d.gates) k ≡ Some trace →
        slice_get (map (state_before answer d (t + 1)) d.gates) k ≡ Some s → slice_get (map (λ g. trace_below (state_after answer d g) (t + 1)) d.gates) k ≡ Some (pushed same_state due trace t s)
    next_trace t k trace s old new =
        slice_get-map (λ g. trace_below (state_after answer d g) (t + 1)) d.gates k
        ∙ trace_by t k (slice_get d.gates k) trace s refl (sym (slice_get-map (λ g. trace_below (state_after answer d g) t) d.gates k) ∙ old) (sym (slice_get-map (state_before answer d (t + 1)) d.gates k) ∙ new)

  module _ (pending : (e : Evaluation) (t : ℕ) → IsTask e → NothingDue t (answer e t)) (reached : Reached same_state due) (are : All IsGate d.gates) where
    known_by : (t k : ℕ) → 0 < t → (o : Option GateEntry) (trace : List (ℕ × State)) (was s : State) → slice_get d.gates k ≡ o → option_map (λ g. trace_below (state_after answer d g) t) o ≡ Some trace →
        option_map (state_before answer d t) o ≡ Some was → is_reached same_state due trace t s ≡ same_state s (due was t)
    known_by zero k begun o trace was s at old before = absurd (omega arith)
    known_by (suc m) k begun None trace was s at old before = absurd (cc)
    known_by (suc m) k begun (Some g) trace was s at old before =
        let is : trace_below (state_after answer d g) (suc m) ≡ trace = cc in
        let stood : state_before answer d (suc m) g ≡ was = cc in
        let one : suc m - 1 ≡ m = omega arith in
        let law : is_reached same_state due (trace_below (state_after answer d g) (suc m)) (suc m) s ≡ same_state s (due (state_after answer d g m) (suc m)) =
        rw one at (reached (state_after answer d g) (settled answer d pending g (all_at IsGate d.gates k g are at)) (suc m) begun s) in
        ap (λ x. is_reached same_state due x (suc m) s) (sym is) ∙ law ∙ ap (λ x. same_state s (due x (suc m))) stood

    -- the trace at a place has become the state that stood there before, once its due event is current
    pub known : (t k : ℕ) → 0 < t → (trace : List (ℕ × State)) (was s : State) → slice_get (map (λ g. trace_below (state_after answer d g) t) d.gates) k ≡ Some trace →
        slice_get (map (state_before answer d t) d.gates) k ≡ Some was → is_reached same_state due trace t s ≡ same_state s (due was t)
    known t k begun trace was s old before =
        known_by t k begun (slice_get d.gates k) trace was s refl (sym (slice_get-map (λ g. trace_below (state_after answer d g) t) d.gates k) ∙ old) (sym (slice_get-map (state_before answer d t) d.gates k) ∙ before)
