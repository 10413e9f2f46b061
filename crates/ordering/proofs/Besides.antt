-- What is wanted of the gates beside an old run is what is dirty.
use Rattle.std.proofs.Common.{◌≡◌, ◌<◌, ◌≤◌, ◌∙◌, sym, ap, subst, refl, cond, Bool, true, false, not, ℕ, zero, suc, List, [], ◌∷◌, ◌++◌, length, map, Option, Some, None, IfSome, slice_get, arith}
use Rattle.std.specs.Prelude.{IsPermutation, nat_le, ◌||◌, ◌&&◌}
use Rattle.std.specs.Borrow.{Bor}
use Rattle.std.specs.List.{filter, slice_index_or}
use Rattle.std.specs.Option.{option_map_or}
use Rattle.std.proofs.lemmas.List.Elements.{filter-append}
use Rattle.std.proofs.lemmas.Option.{slice_get_within, get_or_from_slice_get}
use Rattle.gatestep.specs.Step.{State, Evaluation}
use Rattle.gatestep.proofs.Jobs.{part_moved}
use Rattle.design.specs.Netlist.{GateEntry, Netlist}
use Rattle.waveform.specs.Changes.{wave_at}
use Rattle.waveform.specs.Entries.{same_state}
use Rattle.waveform.specs.Timelines.{moments}
use Rattle.waveform.specs.kept.Changes.{state_at, trace_below}
use Rattle.scratch.specs.Asked.{IsAskedInPart, IsAskedInSomeOrder}
use Rattle.scratch.specs.Run.{state_before}
use Rattle.scratch.specs.Work.{inputs_at, is_stirred, same_values, task_at}
use Rattle.scratch.specs.kept.Kept.{cell_of, input_of, input_value}
use Rattle.gateline.specs.kept.OldLines.{IsFollowedAt, IsOldLine, OldRecord, wanted_beside}
use Rattle.rundiff.specs.Dirty.{is_dirty, is_new, same_task}
use Rattle.rundiff.specs.kept.OldRuns.{AreOldRun, OldRunRecord, state_till}
use Rattle.rundiff.specs.kept.Places.{blank_gate, gate_at}
use Rattle.rundiff.proofs.EachPlace.{holds_index}
use Rattle.ordering.specs.kept.Gates.{column_of, gate_work_from, moments_from}
use Rattle.ordering.specs.kept.OldRuns.{IsOldRun, line_at, wanted_at}
use Rattle.ordering.specs.kept.Order.{each_in_order, is_order, order_work_from}
use Rattle.ordering.specs.kept.Reworks.{rework_from}
use Rattle.ordering.proofs.Orders.{rows_ordered}

-- tests that agree below n let the same of these moments through
alike_from : (p q : ℕ → Bool) (a n : ℕ) → ((t : ℕ) → t < n → p t ≡ q t) → filter p (moments_from a n) ≡ filter q (moments_from a n)
alike_from p q a zero same = refl
alike_from p q a (suc n) same =
    ap (filter p) (filter-append (λ t. nat_le a t) (moments n) (n ∷ []))
    ∙ filter-append p (moments_from a n) (filter (λ t. nat_le a t) (n ∷ []))
    ∙ (λ i. alike_from p q a n (λ t low. same t (omega arith)) i ++ last (nat_le a n) i)
    ∙ sym (filter-append q (moments_from a n) (filter (λ t. nat_le a t) (n ∷ [])))
    ∙ sym (ap (filter q) (filter-append (λ t. nat_le a t) (moments n) (n ∷ [])))
  where
    last : (b : Bool) → filter p (cond b (n ∷ []) []) ≡ filter q (cond b (n ∷ []) [])
    last true = ap (λ (b : Bool). cond b (n ∷ []) []) (same n (omega arith))
    last false = refl

-- what is the same of each gate is the same in an order
each_alike : (d : Netlist) (f h : ℕ → GateEntry → List (Evaluation × ℕ)) → ((k : ℕ) (g : GateEntry) → slice_get d.gates k ≡ Some g → f k g ≡ h k g) → (order : List ℕ) → each_in_order d f order ≡ each_in_order d h order
each_alike d f h same [] = refl
each_alike d f h same (k ∷ order) = λ i. one (slice_get d.gates k) refl i ++ each_alike d f h same order i
  where
    one : (o : Option GateEntry) → slice_get d.gates k ≡ o → option_map_or (f k) o [] ≡ option_map_or (h k) o []
    one None at = refl
    one (Some g) at = same k g at

module _ (answer : Evaluation → ℕ → State) (old new : Netlist) (run : OldRunRecord) (right : AreOldRun answer old new run) (same_end : new.horizon ≡ old.horizon)
    (states : (p : ℕ) → p < length new.gates → is_new old (gate_at new p) ≡ false → (t : ℕ) → t ≤ suc old.horizon → state_till (slice_index_or run.traces p []) t ≡ state_before answer old t (gate_at new p))
    (inputs : (p : ℕ) → p < length new.gates → (t : ℕ) → t ≤ old.horizon →
    map (λ input. input_value (map (λ wave. wave_at wave t) run.waves) input) (map (input_of new) (gate_at new p).inputs) ≡ inputs_at answer old (gate_at new p) t)
    (whole : (p : ℕ) → p < length new.gates → slice_index_or run.traces p [] ≡ trace_below (state_at (slice_index_or run.traces p [])) (suc old.horizon))
    (dirty : (g : GateEntry) (t : ℕ) → t ≤ old.horizon → is_dirty answer old new g t ≡ (is_new old g || not (same_task (task_at answer old g t) (task_at answer new g t)))) where
  module _ (k : ℕ) (low : k < length new.gates) where
    abbrev gate : GateEntry
    gate = gate_at new k

    abbrev line : OldRecord
    line = line_at run k

    other : line.is_other ≡ is_new old gate
    other = holds_index (λ p other. other ≡ is_new old (gate_at new p)) run.others k true right.others (let count = right.other_count in omega arith)

    -- the state there was the answer to the task there
    followed : (t : ℕ) → t ≤ new.horizon → IsFollowedAt answer (cell_of new gate) line t
    followed t within = λ there.
        let known : is_new old gate ≡ false = sym other ∙ there in
        let before = states k low known t (omega arith) in
        let read = inputs k low t (omega arith) in
        states k low known (suc t) (omega arith)
        ∙ sym (λ i. answer (record { kind = gate.kind; delays = gate.delays; state = before i; inputs = read i }) t)

    old_line : IsOldLine answer (cell_of new gate) new.horizon line
    old_line = record { followed = followed; whole = whole k low ∙ ap (λ h. trace_below (state_at line.trace) (suc h)) (sym same_end) }

    -- its task is wanted where it is dirty
    wanted_by_case : (t : ℕ) → t ≤ old.horizon → (b : Bool) → is_new old gate ≡ b →
        wanted_beside line (cell_of new gate).inputs (task_at answer new gate t) t ≡ (is_new old gate || not (same_task (task_at answer old gate t) (task_at answer new gate t)))
    wanted_by_case t within true is =
        ap (λ (b : Bool). b || not (same_state (state_till line.trace t) (state_before answer new t gate)
        && same_values (map (λ input. input_value (map (λ wave. wave_at wave t) run.waves) input) (map (input_of new) gate.inputs)) (inputs_at answer new gate t))) (other ∙ is)
        ∙ sym (ap (λ (b : Bool). b || not (same_task (task_at answer old gate t) (task_at answer new gate t))) is)
    wanted_by_case t within false is =
        let before = states k low is t (omega arith) in
        let read = inputs k low t within in
        λ i. other i || not (same_state (before i) (state_before answer new t gate) && same_values (read i) (inputs_at answer new gate t))

    wanted : (t : ℕ) → t ≤ old.horizon → wanted_beside line (cell_of new gate).inputs (task_at answer new gate t) t ≡ is_dirty answer old new gate t
    wanted t within = wanted_by_case t within (is_new old gate) refl ∙ sym (dirty gate t within)

  -- so it is of the gate at a place
  old_line_at : (k : ℕ) (o : Option GateEntry) → slice_get new.gates k ≡ o → IfSome o (λ g. IsOldLine answer (cell_of new g) new.horizon (line_at run k))
  old_line_at k None at = tt
  old_line_at k (Some g) at =
      subst (λ e. IsOldLine answer (cell_of new e) new.horizon (line_at run k)) (get_or_from_slice_get new.gates k g blank_gate at) (old_line k (slice_get_within new.gates k g at))

  pub is_old_run : IsOldRun answer new run
  is_old_run = record { traces = right.trace_count; others = right.other_count; lines = λ k. old_line_at k (slice_get new.gates k) refl }

  module _ (lent : Bor OldRunRecord) (is : lent.now ≡ run) (a : ℕ) (order : List ℕ) (ordered : is_order new order ≡ true) where
    abbrev asks : GateEntry → ℕ → Bool
    asks g t = is_dirty answer old new g t && is_stirred answer new g t

    abbrev times : List ℕ
    times = moments_from a (suc new.horizon)

    of_gate : (k : ℕ) (g : GateEntry) → slice_get new.gates k ≡ Some g → gate_work_from answer new (wanted_at (Some lent) new k g) g a (suc new.horizon) ≡ column_of answer new asks times g
    of_gate k g at =
        let low = slice_get_within new.gates k g at in
        let here = get_or_from_slice_get new.gates k g blank_gate at in
        ap (map (λ t. (task_at answer new g t, t)))
        (alike_from (λ t. wanted_at (Some lent) new k g (task_at answer new g t) t && is_stirred answer new g t) (asks g) a (suc new.horizon)
        (λ t below.
        ap (λ (b : Bool). b && is_stirred answer new g t)
        (ap (λ (r : OldRunRecord). wanted_beside (line_at r k) (cell_of new g).inputs (task_at answer new g t) t) is
        ∙ subst (λ e. wanted_beside (line_at run k) (cell_of new e).inputs (task_at answer new e t) t ≡ is_dirty answer old new e t) here (wanted k low t (omega arith)))))

    work_is : order_work_from answer new (Some lent) a (suc new.horizon) order ≡ each_in_order new (λ k g. column_of answer new asks times g) order
    work_is = each_alike new (λ k g. gate_work_from answer new (wanted_at (Some lent) new k g) g a (suc new.horizon)) (λ k g. column_of answer new asks times g) of_gate order

    reordered : IsPermutation (rework_from answer old new a (suc new.horizon)) (order_work_from answer new (Some lent) a (suc new.horizon) order)
    reordered = subst (IsPermutation (rework_from answer old new a (suc new.horizon))) (sym work_is) (rows_ordered new order ordered answer asks times)

    module _ (before now : List (Evaluation × ℕ)) where
      pub beside_all : now ≡ before ++ order_work_from answer new (Some lent) a (suc new.horizon) order → IsAskedInSomeOrder before now (rework_from answer old new a (suc new.horizon))
      beside_all e = (order_work_from answer new (Some lent) a (suc new.horizon) order, reordered, e)

      pub beside_part : IsAskedInPart before now (order_work_from answer new (Some lent) a (suc new.horizon) order) → IsAskedInPart before now (rework_from answer old new a (suc new.horizon))
      beside_part part =
          (part.0, part_moved (rework_from answer old new a (suc new.horizon)) (order_work_from answer new (Some lent) a (suc new.horizon) order) part.0 reordered part.1, part.2)
