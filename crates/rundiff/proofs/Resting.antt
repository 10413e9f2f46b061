-- The held gates that are not evaluated.
use Rattle.std.proofs.Common.{◌≡◌, ℕ, suc, ◌<◌, ◌≤◌, ◌∙◌, ap, sym, refl, subst, List, Bool, true, false, not, map, Option, Some, length, arith, ⊎_elim, All, ◌+◌, inl, inr, None, filter}
use Rattle.std.specs.Prelude.{◌&&◌, slice_index_or}
use Rattle.std.proofs.lemmas.Bool.{cases_lt, and_parts}
use Rattle.std.proofs.lemmas.List.Elements.{All-map}
use Rattle.std.proofs.Math.Bool.{and-false}
use Rattle.fourstate.specs.declared.limits.TheConstants.{MAX_DELAY}
use Rattle.gatestep.specs.Tasks.{PendingFrom}
use Rattle.gatestep.specs.kept.Tasks.{IsTask, NothingDue, PendingBefore}
use Rattle.waveform.specs.kept.Entries.{CanStore}
use Rattle.waveform.specs.declared.times.TheConstants.{TIME_END}
use Rattle.std.specs.Option.{option_map_or}
use Rattle.std.proofs.lemmas.Option.{slice_get-get_or}
use Rattle.gatestep.specs.Step.{State, Evaluation, initial}
use Rattle.design.specs.kept.Lawful.{IsDesign}
use Rattle.design.specs.Netlist.{GateEntry, Netlist}
use Rattle.waveform.specs.kept.Patches.{IsMended, Keeps, PatchRecord}
use Rattle.waveform.specs.Timelines.{changes_below}
use Rattle.scratch.specs.Run.{state_after}
use Rattle.scratch.proofs.Runs.{can_store}
use Rattle.rundiff.specs.kept.Fronts.{ArePlaces, GoesAlong, IsFree, named_state, IsOwn}
use Rattle.rundiff.specs.kept.Places.{blank_gate, gate_at, is_among}
use Rattle.rundiff.specs.kept.Kept.{Agrees, IsClosed}
use Rattle.rundiff.proofs.Filtering.{filter_places}
use Rattle.rundiff.proofs.Known.{known_gate}
use Rattle.rundiff.proofs.Steps.{is_one}
use Rattle.rundiff.proofs.NamedLines.{keeps_none}

pub resting_held : (slice held_list resting_slice resting : List ℕ) (held test : ℕ → Bool) → slice ≡ held_list → resting_slice ≡ resting → ArePlaces held_list held → resting ≡ filter (λ p. not (test p)) slice →
    ArePlaces resting_slice (λ p. held p && not (test p))
resting_held slice held_list resting_slice resting held test same that are is =
    subst (λ (l : List ℕ). ArePlaces l (λ p. held p && not (test p))) (sym (that ∙ is ∙ ap (filter (λ p. not (test p))) same)) (filter_places held_list held (λ p. not (test p)) are)

-- a held gate that is not evaluated rests; one that is evaluated, or not held, does not
pub rests_on : (h w : Bool) → h ≡ true → w ≡ false → (h && not w) ≡ true
rests_on h w on off = rw (on, off) refl

pub resting_off : (h w : Bool) → h ≡ false → (h && not w) ≡ false
resting_off h w off = rw off refl

pub not_resting : (h w : Bool) → w ≡ true → (h && not w) ≡ false
not_resting h w on = rw on (and-false h)

-- where a patch was left
abbrev pub IsLeft : {A : Type 0} → Option (PatchRecord A) → Type 0
IsLeft {A} o = (patch : PatchRecord A) × (o ≡ Some patch) × (s : ℕ) × (patch.since ≡ Some s)

-- what is known of a patch that was left: it goes along with the former function
pub left_at : {A : Type 0} (same : A → A → Bool) (drift : A → ℕ → A) (f g : ℕ → A) (n : ℕ) (o : Option (PatchRecord A)) (left : IsLeft o) → Keeps same drift g f o n →
    (left.0.line ≡ changes_below same drift f left.2) × (left.2 ≤ n) × ((m : ℕ) → left.2 ≤ m → m < n → f m ≡ g m)
left_at {A} same drift f g n o left kept =
    let patch : PatchRecord A = left.0 in
    let at : Keeps same drift g f (Some patch) n = subst (λ (o : Option (PatchRecord A)). Keeps same drift g f o n) left.1 kept in
    let now : IsMended same drift g f patch.line (Some left.2) n = subst (λ (s : Option ℕ). IsMended same drift g f patch.line s n) left.3 at in
    now

-- and so is what is known at a later moment
pub left_to : {A : Type 0} (same : A → A → Bool) (drift : A → ℕ → A) (f g : ℕ → A) (n l : ℕ) (o : Option (PatchRecord A)) → IsLeft o → Keeps same drift g f o n → n ≤ l → ((m : ℕ) → n ≤ m → m < l → f m ≡ g m) → Keeps same drift g f o l
left_to {A} same drift f g n l o left kept order alike =
    let patch : PatchRecord A = left.0 in let s : ℕ = left.2 in
    let was = left_at same drift f g n o left kept in
    let low : s ≤ n = was.1 in
    let high : s ≤ l = omega arith in
    let now : IsMended same drift g f patch.line (Some s) l =
    (was.0, high, λ m from until. ⊎_elim (λ early. was.2 m from early) (λ late. alike m late until) (cases_lt m n)) in
    subst (λ (o : Option (PatchRecord A)). Keeps same drift g f o l) (sym left.1) (subst (λ (s : Option ℕ). IsMended same drift g f patch.line s l) (sym left.3) now)

-- what goes along with the former function goes on with it
pub free_to : {A : Type 0} (same : A → A → Bool) (drift : A → ℕ → A) (f g : ℕ → A) (n l : ℕ) (o : Option (PatchRecord A)) → IsFree o → Keeps same drift g f o n → n ≤ l → ((m : ℕ) → n ≤ m → m < l → f m ≡ g m) → Keeps same drift g f o l
free_to {A} same drift f g n l o free kept order alike =
    ⊎_elim
    (λ none.
    subst (λ (o : Option (PatchRecord A)). Keeps same drift g f o l) (sym none)
    (λ m until. ⊎_elim (λ early. keeps_none same drift f g n o none kept m early) (λ late. alike m late until) (cases_lt m n)))
    (λ left. left_to same drift f g n l o left kept order alike)
    free

pub free_more : {A : Type 0} (same : A → A → Bool) (drift : A → ℕ → A) (f g : ℕ → A) (t : ℕ) (o : Option (PatchRecord A)) → IsFree o → Keeps same drift g f o t → f t ≡ g t → Keeps same drift g f o (suc t)
free_more same drift f g t o free kept now =
    free_to same drift f g t (suc t) o free kept (omega arith) (λ m from until. let e : m ≡ t = omega arith in ap f e ∙ now ∙ ap g (sym e))

-- what is free now goes along from the next moment on
pub free_along : {A : Type 0} (same : A → A → Bool) (drift : A → ℕ → A) (f g : ℕ → A) (n : ℕ) (o : Option (PatchRecord A)) → IsFree o → Keeps same drift g f o n → GoesAlong o (suc n)
free_along same drift f g n o free kept =
    ⊎_elim (λ none. inl none)
    (λ left. let was = left_at same drift f g n o left kept in let low : left.2 ≤ n = was.1 in let next : left.2 < suc n = omega arith in inr (left.0, left.1, left.2, left.3, next))
    free

pub along_free : {A : Type 0} (o : Option (PatchRecord A)) (n : ℕ) → GoesAlong o n → IsFree o
along_free o n along = ⊎_elim (λ none. inl none) (λ left. inr (left.0, left.1, left.2, left.3)) along

pub along_more : {A : Type 0} (o : Option (PatchRecord A)) (n m : ℕ) → n ≤ m → GoesAlong o n → GoesAlong o m
along_more o n m order along = ⊎_elim (λ none. inl none) (λ left. let low : left.2 < n = left.4 in let more : left.2 < m = omega arith in inr (left.0, left.1, left.2, left.3, more)) along

-- what goes along had the former value last
pub along_last : {A : Type 0} (same : A → A → Bool) (drift : A → ℕ → A) (f g : ℕ → A) (r : ℕ) (o : Option (PatchRecord A)) → GoesAlong o (suc r) → Keeps same drift g f o (suc r) → f r ≡ g r
along_last same drift f g r o along kept =
    ⊎_elim
    (λ none. keeps_none same drift f g (suc r) o none kept r (omega arith))
    (λ left.
    let was = left_at same drift f g (suc r) o (left.0, left.1, left.2, left.3) kept in
    let low : left.2 < suc r = left.4 in was.2 r (omega arith) (omega arith))
    along

-- a function with a patch of its own goes on with it while it does not change
pub own_more : {A : Type 0} (same : A → A → Bool) (drift : A → ℕ → A) (f g : ℕ → A) (n m : ℕ) (o : Option (PatchRecord A)) → IsOwn o → Keeps same drift g f o n →
    changes_below same drift f m ≡ changes_below same drift f n → Keeps same drift g f o m
own_more {A} same drift f g n m o own kept none =
    let patch : PatchRecord A = own.0 in
    let is : o ≡ Some patch = own.1 in
    let whole : patch.since ≡ None = own.2 in
    let at : Keeps same drift g f (Some patch) n = subst (λ (o : Option (PatchRecord A)). Keeps same drift g f o n) is kept in
    let now : IsMended same drift g f patch.line None n = subst (λ (s : Option ℕ). IsMended same drift g f patch.line s n) whole at in
    let then : IsMended same drift g f patch.line None m = now ∙ sym none in
    subst (λ (o : Option (PatchRecord A)). Keeps same drift g f o m) (sym is) (subst (λ (s : Option ℕ). IsMended same drift g f patch.line s m) (sym whole) then)

module _ (answer : Evaluation → ℕ → State) (old new : Netlist) where
  -- a gate that is not held has the state of the old run
  pub free_state : (live : List ℕ → Bool) (t : ℕ) → IsDesign old → IsClosed old new live → Agrees answer old new live (suc t) → (p : ℕ) → p < length new.gates → live (gate_at new p).output ≡ false →
      state_after answer new (gate_at new p) t ≡ named_state answer old (gate_at new p).name t
  free_state live t is closed agrees p low free =
      let g = gate_at new p in
      let found = known_gate old is g (closed.gates p blank_gate low free) in
      sym (agrees.states p blank_gate low free) ∙ sym (ap (λ (o : Option GateEntry). option_map_or (λ h. state_after answer old h t) o initial) found)

-- what is not held does not work, and what is held and is not both held and working does not work
pub idle : (h w : Bool) → (h ≡ false → w ≡ false) → (h && w) ≡ false → w ≡ false
idle true w free and_parts = and_parts
idle false w free and_parts = free refl

-- the states of some gates after a moment can be stored there
pub stored_each : (answer : Evaluation → ℕ → State) (d : Netlist) (pending : (e : Evaluation) (t : ℕ) → IsTask e → NothingDue t (answer e t))
    (near : (e : Evaluation) (t : ℕ) → IsTask e → PendingBefore (t + MAX_DELAY) e.state → PendingBefore (t + 1 + MAX_DELAY) (answer e t)) → IsDesign d → (t : ℕ) → t < TIME_END → (places : List ℕ) →
    ((p : ℕ) → is_among places p ≡ true → p < length d.gates) → (states : List State) → states ≡ map (λ p. state_after answer d (gate_at d p) t) places → All (CanStore t) states
stored_each answer d pending near is t low places gates states those =
    subst (All (CanStore t)) (sym those)
    (All-map (CanStore t) (λ p. state_after answer d (gate_at d p) t) places
    (λ k e within.
    let p = slice_index_or places k e in
    can_store answer d pending near (gate_at d p) (is.gates p blank_gate (gates p (is_one places k p (slice_get-get_or places k e within)))) t low))

-- what can be stored at a moment is pending for later
pub stored_later : (t : ℕ) (states : List State) → All (CanStore t) states → All (PendingFrom (suc t)) states
stored_later t states can = λ k e within event is. let after = ((can k e within).1 event is).0 in omega arith
