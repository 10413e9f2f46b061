use Rattle.std.proofs.Common.{◌≡◌, ◌<◌, ◌≤◌, ◌∙◌, ap, sym, refl, ℕ, Some, None, true, false, slice_get, length, List, ◌⊎◌, inl, inr, arith}
use Rattle.std.specs.Option.{option_map_or}
use Rattle.std.specs.Prelude.{nat_eq}
use Rattle.std.proofs.lemmas.Option.{slice_get_read}
use Rattle.event_queue.specs.kept.Noted.{IsAdded, noted}
use Rattle.fourstate.specs.declared.value.Value.{Value}
use Rattle.gatestep.specs.Step.{State}
use Rattle.gatestep.specs.Tasks.{PendingFrom}
use Rattle.design.proofs.ByNameLemmas.{all_at}
use Rattle.scratch.specs.kept.Places.{has, pends_at}
use Rattle.scratch.proofs.Among.{nat_beyond}
use Rattle.scratch.proofs.Notes.{elsewhere, event_noted, keeps, none_here}
use Rattle.scratch.proofs.Passing.{in_list}
use Rattle.scratch.proofs.noting.list_events.Goals as goal
use Rattle.scratch.proofs.noting.list_events.Goals.{in-Some+in_ok-add, in_default}

abbrev Covered : List State → ℕ → List (ℕ × List ℕ) → Type 0
Covered states p queue = (k u : ℕ) → k < p → pends_at states k u ≡ true → has k (noted queue u) ≡ true

none_by : (states : List State) (p : ℕ) (s : State) → slice_get states p ≡ Some s → (queue : List (ℕ × List ℕ)) → Covered states p queue → s.pending ≡ None → (k u : ℕ) → pends_at states k u ≡ true → (k < p) ⊎ (k ≡ p) → has k (noted queue u) ≡ true
none_by states p s at queue covers none k u h (inl low) = covers k u low h
none_by states p s at queue covers none k u h (inr same) = absurd (none_here states p s at none u (ap (λ m. pends_at states m u) (sym same) ∙ h))

some_by : (states : List State) (p : ℕ) (s : State) → slice_get states p ≡ Some s → (old new : List (ℕ × List ℕ)) → Covered states p old → (event : Value × ℕ) → s.pending ≡ Some event →
    IsAdded event.1 p old new → (k u : ℕ) → pends_at states k u ≡ true → (k < p) ⊎ (k ≡ p) → has k (noted new u) ≡ true
some_by states p s at old new covers event some added k u h (inl low) = keeps event.1 p old new added k u (covers k u low h)
some_by states p s at old new covers event some added k u h (inr same) =
    ap (λ m. has m (noted new u)) same ∙ event_noted states p s at event some old new added u (ap (λ m. pends_at states m u) (sym same) ∙ h)

pub loop-place-preserved : goal.loop-place-preserved
loop-place-preserved c =
    let states = c.args.states.now in let place = c.loop-place.place in let s = c.index-states-place.result in
    let at = slice_get_read states (length states) place s refl c.loop-place-test.true c.index-states-place.is in
    elim c.match-pending.branch [
      | in-Some+in_ok-add w ↦
          let event : Value × ℕ = (w.in-Some.field-0-0, w.in-Some.t) in
          let pending : s.pending ≡ Some event = sym c.pending.ensures ∙ w.in-Some.is in
          record {
            covers = rw w.events-is (λ k u low h. some_by states place s at c.loop-place.events w.add.new.self c.loop-place.invariant.covers event pending w.in_ok-add.ensures.ok k u h (search arith));
            early = λ n all u low.
                let later : n ≤ event.1 = all_at (PendingFrom n) states place s all at event pending in
                ap (λ q. noted q u) w.events-is ∙ elsewhere event.1 place c.loop-place.events w.add.new.self w.in_ok-add.ensures.ok u (nat_beyond event.1 u (omega arith)) ∙ c.loop-place.invariant.early n all u low;
          }
      | in_default w ↦
          let pending : s.pending ≡ None = sym c.pending.ensures ∙ w.in_default.is in
          record {
            covers = rw w.events-is (λ k u low h. none_by states place s at c.loop-place.events c.loop-place.invariant.covers pending k u h (search arith));
            early = λ n all u low. ap (λ q. noted q u) w.events-is ∙ c.loop-place.invariant.early n all u low;
          }
    ]

pub returns-clause-covers : goal.returns-clause-covers
returns-clause-covers c = λ k t from h.
    let within = in_list (λ (s : State). option_map_or (λ event. nat_eq event.1 t) s.pending false) c.args.states.now k h in
    c.loop-place.invariant.covers k t (let past = c.loop-place-test.false in omega arith) h
