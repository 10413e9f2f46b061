-- The held gates that are not chosen to be looked at: they are not stirred, so they keep their states.
use Rattle.std.proofs.Common.{◌≡◌, ℕ, zero, suc, ◌<◌, ◌∙◌, ap, sym, refl, List, Bool, true, false, not, map, length, Option, filter, ◌&&◌, AllPairs}
use Rattle.std.proofs.Math.Bool.{and-false}
use Rattle.gatestep.specs.Step.{State, Evaluation, due}
use Rattle.gatestep.specs.kept.Tasks.{NothingDue, again}
use Rattle.design.specs.Netlist.{GateEntry, Netlist}
use Rattle.waveform.specs.Entries.{same_state}
use Rattle.waveform.specs.kept.Patches.{Keeps, PatchRecord}
use Rattle.waveform.specs.Timelines.{changes_below}
use Rattle.scratch.specs.Run.{state_after, state_before}
use Rattle.scratch.specs.Work.{is_stirred}
use Rattle.scratch.proofs.Still.{none_due, still_due, still_after}
use Rattle.scratch.proofs.Driven.{either}
use Rattle.rundiff.specs.Dirty.{is_dirty, working_at}
use Rattle.rundiff.specs.kept.Fronts.{IsOwn, is_working, named_state}
use Rattle.rundiff.specs.kept.Places.{blank_gate, gate_at, is_among}
use Rattle.rundiff.proofs.Filtering.{passing}
use Rattle.rundiff.proofs.OneGate.{rests}
use Rattle.rundiff.proofs.Resting.{rests_on, own_more}
use Rattle.rundiff.proofs.Lists.{not_so}

-- `waveform::laws::no_change_by_drift`
abbrev pub NoChangeByDrift : {A : Type 0} → (A → A → Bool) → (A → ℕ → A) → Type 0
NoChangeByDrift {A = A} same drift = (f : ℕ → A) (t : ℕ) → f (suc t) ≡ drift (f t) (suc t) → changes_below same drift f (suc (suc t)) ≡ changes_below same drift f (suc t)

module _ (answer : Evaluation → ℕ → State) (old new : Netlist)
    (stays : (e : Evaluation) (t u : ℕ) → t < u → NothingDue u (answer e t) → answer (again e (answer e t)) u ≡ answer e t) (law : NoChangeByDrift same_state due) where
  -- the trace of a gate that is not stirred has no more changes
  no_more : (g : GateEntry) (t : ℕ) → is_stirred answer new g t ≡ false → changes_below same_state due (state_after answer new g) (suc t) ≡ changes_below same_state due (state_after answer new g) t
  no_more g zero off = absurd (cc)
  no_more g (suc r) off =
      let f : ℕ → State = state_after answer new g in
      let none : due (f r) (suc r) ≡ f r = none_due (f r) (suc r) (still_due answer new g r off) in
      law f r (still_after answer new stays g r off ∙ sym none)

  pub still_trace : (p t : ℕ) (o : Option (PatchRecord State)) → is_stirred answer new (gate_at new p) t ≡ false → IsOwn o →
      Keeps same_state due (named_state answer old (gate_at new p).name) (state_after answer new (gate_at new p)) o t →
      Keeps same_state due (named_state answer old (gate_at new p).name) (state_after answer new (gate_at new p)) o (suc t)
  still_trace p t o off own kept =
      own_more same_state due (state_after answer new (gate_at new p)) (named_state answer old (gate_at new p).name) t (suc t) o own kept (no_more (gate_at new p) t off)

-- what is not held is not chosen
pub not_chosen : (held : ℕ → Bool) (chosen : List ℕ) → ((p : ℕ) → is_among chosen p ≡ true → held p ≡ true) → (p : ℕ) → held p ≡ false → is_among chosen p ≡ false
not_chosen held chosen of p free = not_so (is_among chosen p) (held p) (of p) free

module _ (answer : Evaluation → ℕ → State) (old new : Netlist) (t : ℕ) (held : ℕ → Bool) (chosen : List ℕ)
    (gates : (p : ℕ) → held p ≡ true → p < length new.gates)
    (chosen_held : (p : ℕ) → is_among chosen p ≡ true → held p ≡ true)
    (clean : (p : ℕ) → p < length new.gates → held p ≡ false → is_dirty answer old new (gate_at new p) t ≡ false)
    (quiet : (p : ℕ) → p < length new.gates → (held p && not (is_among chosen p)) ≡ true → is_stirred answer new (gate_at new p) t ≡ false) where
  -- a held gate that is not chosen is not stirred
  pub calm : (p : ℕ) → held p ≡ true → is_among chosen p ≡ false → is_stirred answer new (gate_at new p) t ≡ false
  calm p on off = quiet p (gates p on) (rests_on (held p) (is_among chosen p) on off)

  -- a gate that is not chosen is not evaluated
  pub unchosen : (p : ℕ) → p < length new.gates → is_among chosen p ≡ false → is_working answer old new t p ≡ false
  unchosen p low off =
      let dirty = is_dirty answer old new (gate_at new p) t in let stirred = is_stirred answer new (gate_at new p) t in
      either (held p)
      (λ on. ap (λ (b : Bool). dirty && b) (calm p on off) ∙ and-false dirty)
      (λ free. ap (λ (b : Bool). b && stirred) (clean p low free))

  -- the held gates that are evaluated are chosen
  pub chosen_working : (p : ℕ) → (is_among chosen p && is_working answer old new t p) ≡ (held p && is_working answer old new t p)
  chosen_working p =
      either (is_among chosen p)
      (λ among. rw (among, chosen_held p among) refl)
      (λ off. either (held p) (λ on. rw (off, on, unchosen p (gates p on) off) refl) (λ free. rw (off, free) refl))

  -- the gates that are evaluated
  pub chosen_all : (working : List ℕ) → AllPairs (λ p q. p < q) chosen → working ≡ filter (is_working answer old new t) chosen → working_at answer old new t ≡ map (gate_at new) working
  chosen_all working rising is =
      passing new.gates blank_gate (λ g. is_dirty answer old new g t && is_stirred answer new g t) chosen rising (λ p among. gates p (chosen_held p among))
      (λ p low on. either (is_among chosen p) (λ yes. yes) (λ no. let off = unchosen p low no in cc))
      ∙ ap (map (gate_at new)) (sym is)

  -- a held gate that is not chosen keeps its state
  pub calm_state : (stays : (e : Evaluation) (t u : ℕ) → t < u → NothingDue u (answer e t) → answer (again e (answer e t)) u ≡ answer e t) → (p : ℕ) → held p ≡ true → is_among chosen p ≡ false →
      state_before answer new t (gate_at new p) ≡ state_after answer new (gate_at new p) t
  calm_state stays p on off = rests answer new (gate_at new p) stays t (calm p on off)
