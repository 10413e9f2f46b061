-- A gate that had the state and the inputs of an old run does what it did there.
use Rattle.std.proofs.Common.{◌≡◌, ◌<◌, ◌≤◌, ◌∙◌, ◌⊎◌, ap, sym, subst, refl, false, not, ℕ, zero, suc, List, [], ◌++◌, Option, None, Some, IfNone, inl, inr, arith}
use Rattle.std.specs.Option.{ForSome}
use Rattle.std.specs.Prelude.{◌&&◌}
use Rattle.std.proofs.lemmas.Bool.{and_from, and_parts, not-false, not_from_true, or_from, or_parts, cases_lt}
use Rattle.fourstate.specs.declared.value.Value.{Value}
use Rattle.gatestep.specs.Step.{State, Evaluation, due}
use Rattle.gateline.proofs.Alike.{SameChanges}
use Rattle.gateline.proofs.Lists.{same_values_equal, same_values_itself}
use Rattle.gateline.proofs.Still.{never_asked, work_splits}
use Rattle.gateline.specs.declared.walk.Former.{Former}
use Rattle.gateline.specs.kept.Line.{line_trace, line_work_from, state_by, task_by}
use Rattle.gateline.specs.kept.OldLines.{IsFollowedAt, OldRecord, old_inputs, state_till, wanted_beside}
use Rattle.gateline.specs.kept.Starts.{begin_of}
use Rattle.gateline.specs.kept.Waves.{inputs_by}
use Rattle.scratch.specs.Work.{same_values}
use Rattle.scratch.specs.kept.Cells.{CellRecord}
use Rattle.waveform.specs.Entries.{same_state}
use Rattle.waveform.specs.Timelines.{changes_below, entries_until}
use Rattle.waveform.specs.kept.Changes.{state_at, trace_below}
use Rattle.waveform.specs.kept.SampleLaws.{is_same_state, same_state_self}

-- an entry of a list that is cut (`waveform::laws::cut_of_changes`)
abbrev pub Cuts : Type 0
Cuts = (f : ℕ → State) (t n : ℕ) → t < n → entries_until (changes_below same_state due f n) t ≡ changes_below same_state due f (suc t)

-- from the moment `first` on, up to `bound`
module _ (answer : Evaluation → ℕ → State) (cell : CellRecord) (waves : List (List (ℕ × Value))) (old : OldRecord) (first bound : ℕ)
    (followed : (t : ℕ) → t < bound → IsFollowedAt answer cell old t) (there : old.is_other ≡ false)
    (same : (t : ℕ) → first ≤ t → t < bound → old_inputs old cell.inputs t ≡ inputs_by waves cell.inputs t)
    (agree : state_till old.trace first ≡ state_by answer cell.kind cell.delays (inputs_by waves cell.inputs) first) where
  abbrev inputs : ℕ → List Value
  inputs = inputs_by waves cell.inputs

  abbrev AgreeAt : ℕ → Type 0
  AgreeAt t = state_till old.trace t ≡ state_by answer cell.kind cell.delays inputs t

  -- it stands as it did there
  pub states : (t : ℕ) → first ≤ t → t ≤ bound → AgreeAt t
  states zero from low = subst AgreeAt (let here : first ≡ 0 = omega arith in here) agree
  states (suc t) from low =
      elim (cases_lt t first) [
        | inl before ↦ subst AgreeAt (let here : first ≡ suc t = omega arith in here) agree
        | inr after ↦ followed t (omega arith) there
            ∙ (λ i. answer (record { kind = cell.kind; delays = cell.delays; state = states t (omega arith) (omega arith) i; inputs = same t (omega arith) (omega arith) i }) t)
      ]

  unwanted : (t : ℕ) → first ≤ t → t < bound → wanted_beside old cell.inputs (task_by answer cell.kind cell.delays inputs t) t ≡ false
  unwanted t from low =
      let state = state_by answer cell.kind cell.delays inputs t in
      let alike = same_state (state_till old.trace t) state && same_values (old_inputs old cell.inputs t) (inputs t) in
      or_from old.is_other (not alike) there
      (not_from_true alike
      (and_from (same_state (state_till old.trace t) state) (same_values (old_inputs old cell.inputs t) (inputs t))
      (ap (λ s. same_state s state) (states t from (omega arith)) ∙ same_state_self state)
      (ap (λ l. same_values l (inputs t)) (same t from low) ∙ same_values_itself (inputs t))))

  -- and nothing is asked of it
  pub unasked : (a n : ℕ) → first ≤ a → n ≤ bound → line_work_from answer cell.kind cell.delays inputs (wanted_beside old cell.inputs) a n ≡ []
  unasked a n from low = never_asked answer cell.kind cell.delays inputs (wanted_beside old cell.inputs) a n (λ t after before. unwanted t (omega arith) (omega arith))

-- from moment 0 on its trace is the same
module _ (answer : Evaluation → ℕ → State) (cell : CellRecord) (waves : List (List (ℕ × Value))) (old : OldRecord) (bound : ℕ)
    (followed : (t : ℕ) → t < bound → IsFollowedAt answer cell old t) (there : 0 < bound → old.is_other ≡ false)
    (same : (t : ℕ) → t < bound → old_inputs old cell.inputs t ≡ inputs_by waves cell.inputs t) where
  abbrev asked_from : ℕ → ℕ → List (Evaluation × ℕ)
  asked_from = line_work_from answer cell.kind cell.delays (inputs_by waves cell.inputs) (wanted_beside old cell.inputs)

  pub same_begin : SameChanges → Cuts → (done last : ℕ) → old.trace ≡ trace_below (state_at old.trace) (suc last) → done < bound → done ≤ last →
      entries_until old.trace done ≡ line_trace answer cell.kind cell.delays (inputs_by waves cell.inputs) (suc done)
  same_begin law cuts done last whole low within =
      ap (λ l. entries_until l done) whole ∙ cuts (state_at old.trace) done (suc last) (omega arith)
      ∙ law (state_at old.trace) (λ t. state_by answer cell.kind cell.delays (inputs_by waves cell.inputs) (suc t)) (suc done)
      (λ t before. states answer cell waves old 0 bound followed (there (omega arith)) (λ u from under. same u under) refl (suc t) (omega arith) (omega arith))

  pub begin_unasked : (a n : ℕ) → n ≤ bound → asked_from a n ≡ []
  begin_unasked a n low =
      elim (cases_lt 0 bound) [
        | inl some ↦ unasked answer cell waves old 0 bound followed (there some) (λ u from under. same u under) refl a n (omega arith) low
        | inr none ↦ ap (asked_from a) (let here : n ≡ 0 = omega arith in here)
      ]

  -- so it is the same from where on it is followed
  later_begin : (a b n : ℕ) → a ≤ b → b ≤ bound → asked_from b n ≡ asked_from a n
  later_begin a b n from within =
      elim (cases_lt n b) [
        | inl before ↦ begin_unasked b n (omega arith) ∙ sym (begin_unasked a n (omega arith))
        | inr after ↦
            ap (λ l. l ++ asked_from b n) (sym (begin_unasked a b within))
            ∙ sym (work_splits answer cell.kind cell.delays (inputs_by waves cell.inputs) (wanted_beside old cell.inputs) a b n from after)
      ]

  pub begun_later : (former later : Option Former) (moment : ℕ) (P : Former → Type 0) → moment ≤ bound → IfNone later (former ≡ None) →
      ForSome later (λ x. (former ≡ Some x) ⊎ (begin_of former ≤ moment × (suc x.done ≡ moment) × P x)) → (n : ℕ) → asked_from (begin_of later) n ≡ asked_from (begin_of former) n
  begun_later former None moment P within none some n = ap (λ f. asked_from (begin_of f) n) (sym none)
  begun_later former (Some x) moment P within none some n =
      elim (some x refl) [
        | inl same ↦ ap (λ f. asked_from (begin_of f) n) (sym same)
        | inr made ↦
            let order : begin_of former ≤ suc x.done = (let low = made.0 in let here = made.1 in omega arith) in
            later_begin (begin_of former) (suc x.done) n order (let here = made.1 in omega arith)
      ]

-- where its task is not wanted beside an old run, its state there is the answer to its task
pub known_state : (answer : Evaluation → ℕ → State) (cell : CellRecord) (old : OldRecord) (state : State) (values : List Value) (t : ℕ) →
    wanted_beside old cell.inputs (record { kind = cell.kind; delays = cell.delays; state = state; inputs = values }) t ≡ false → IsFollowedAt answer cell old t →
    state_at old.trace t ≡ answer (record { kind = cell.kind; delays = cell.delays; state = state; inputs = values }) t
known_state answer cell old state values t off followed =
    let same = same_state (state_till old.trace t) state && same_values (old_inputs old cell.inputs t) values in
    let parts = or_parts old.is_other (not same) off in
    let alike = and_parts (same_state (state_till old.trace t) state) (same_values (old_inputs old cell.inputs t) values) (not-false same parts.1) in
    let stood : state_till old.trace t ≡ state = is_same_state (state_till old.trace t) state alike.0 in
    let read : old_inputs old cell.inputs t ≡ values = same_values_equal (old_inputs old cell.inputs t) values alike.1 in
    followed parts.0 ∙ (λ i. answer (record { kind = cell.kind; delays = cell.delays; state = stood i; inputs = read i }) t)
