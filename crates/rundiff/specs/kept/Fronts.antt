-- What a front keeps of a new run beside an old one, and what is known of it.
use Rattle.std.specs.Prelude.{◌≡◌, ◌⊎◌, ◌&&◌, ◌<◌, ◌≤◌, Bool, true, false, ℕ, suc, List, map, length, Option, Some, None, not}
use Rattle.std.specs.List.{All, AllPairs, filter}
use Rattle.std.specs.Option.{option_map_or, ForSome}
use Rattle.std.specs.Ordering.{nat_cmp}
use Rattle.std.specs.BTreeSet.{contains}
use Rattle.fourstate.specs.declared.value.Value.{Value}
use Rattle.fourstate.specs.Values.{same_value}
use Rattle.gatestep.specs.Step.{State, Evaluation, due, initial}
use Rattle.gatestep.specs.Tasks.{IsReady}
use Rattle.catalog.specs.kept.Catalog.{place_of}
use Rattle.design.specs.Connections.{to_net}
use Rattle.design.specs.Keys.{Keyed, KeyedGate}
use Rattle.design.specs.kept.Keys.{gate_by_key}
use Rattle.design.specs.Netlist.{Netlist, gate_named, reads}
use Rattle.edits.specs.kept.Touched.{is_touched}
use Rattle.waveform.specs.Entries.{same_state, standing}
use Rattle.waveform.specs.kept.Entries.{CanStore}
use Rattle.waveform.specs.kept.Patches.{Keeps, PatchRecord}
use Rattle.waveform.specs.kept.Timelines.{end_of}
use Rattle.scratch.specs.Run.{state_after, value}
use Rattle.rundiff.specs.Dirty.{is_dirty, working_at}
use Rattle.event_queue.specs.kept.Noted.{noted}
use Rattle.rundiff.specs.kept.Kept.{Agrees, IsClosed, read_at}
use Rattle.rundiff.specs.kept.Noting.{IsNoted}
use Rattle.rundiff.specs.kept.Places.{gate_at, is_among, is_live, net_at}
use Rattle.scratch.specs.Work.{is_stirred, task_at}
use Rattle.rundiff.specs.kept.PlaceMaps.{kept_at}
use Rattle.rundiff.specs.declared.front.Front.{Front}
use Rattle.rundiff.specs.declared.gates.Outcomes.{Outcomes}
use Rattle.rundiff.specs.declared.place_map.PlaceMap.{PlaceMap}
use Rattle.rundiff.specs.declared.looking.Outcome.{Outcome}
use Rattle.rundiff.specs.declared.looking.Outcome.TheVariants.{Working, Resting, Clean}

-- the state of the gate of this name after t, x with nothing pending where there is none
abbrev pub named_state : (Evaluation → ℕ → State) → Netlist → List ℕ → ℕ → State
named_state answer d name t = option_map_or (λ g. state_after answer d g t) (gate_named d name) initial

-- Patches by place.

-- a patch is there and has all of the function so far
abbrev pub IsOwn : {A : Type 0} → Option (PatchRecord A) → Type 0
IsOwn {A} kept = (patch : PatchRecord A) × (kept ≡ Some patch) × (patch.since ≡ None)

-- nothing is kept, or a patch that was left: the function goes along with the former one from some moment on
abbrev pub IsFree : {A : Type 0} → Option (PatchRecord A) → Type 0
IsFree {A} kept = (kept ≡ None) ⊎ ((patch : PatchRecord A) × (kept ≡ Some patch) × (s : ℕ) × (patch.since ≡ Some s))

-- nothing is kept, or a patch that was left before n
abbrev pub GoesAlong : {A : Type 0} → Option (PatchRecord A) → ℕ → Type 0
GoesAlong {A} kept n = (kept ≡ None) ⊎ ((patch : PatchRecord A) × (kept ≡ Some patch) × (s : ℕ) × (patch.since ≡ Some s) × (s < n))

-- no patch has an entry at n or later
abbrev pub EndBy : {A : Type 0} → PlaceMap (PatchRecord A) → ℕ → Type 0
EndBy patches n = (p : ℕ) → ForSome (kept_at patches p) (λ patch. end_of patch.line ≤ n)

module _ (answer : Evaluation → ℕ → State) (old new : Netlist) where
  -- the value of a net below n, by its patch and the old run
  abbrev pub IsWave : PlaceMap (PatchRecord Value) → ℕ → ℕ → Type 0
  IsWave waves p n = Keeps same_value standing (read_at answer old (to_net (net_at new p).name)) (value answer new (net_at new p)) (kept_at waves p) n

  abbrev pub AreWaves : PlaceMap (PatchRecord Value) → ℕ → Type 0
  AreWaves waves n = (p : ℕ) → p < length new.nets → IsWave waves p n

  -- the state of a gate below n, by its patch and the old run
  abbrev pub IsTrace : PlaceMap (PatchRecord State) → ℕ → ℕ → Type 0
  IsTrace traces p n = Keeps same_state due (named_state answer old (gate_at new p).name) (state_after answer new (gate_at new p)) (kept_at traces p) n

  abbrev pub AreTraces : PlaceMap (PatchRecord State) → ℕ → Type 0
  AreTraces traces n = (p : ℕ) → p < length new.gates → IsTrace traces p n

  -- the gate at a place is evaluated at t
  abbrev pub is_working : ℕ → ℕ → Bool
  is_working t p = is_dirty answer old new (gate_at new p) t && is_stirred answer new (gate_at new p) t

  -- there is a gate at the place, and it is not dirty at t
  abbrev pub IsClean : ℕ → ℕ → Type 0
  IsClean t p = (p < length new.gates) × (is_dirty answer old new (gate_at new p) t ≡ false)

-- a net has the same value at t in both runs, or the outputs of all its readers are at these places
abbrev pub IsAlike : (Evaluation → ℕ → State) → (old new : Netlist) → (ℕ → Bool) → ℕ → ℕ → Type 0
IsAlike answer old new found t p =
    (read_at answer old (to_net (net_at new p).name) t ≡ value answer new (net_at new p) t)
    ⊎ ((q : ℕ) → q < length new.gates → reads (gate_at new q) (net_at new p).name ≡ true → is_live new found (gate_at new q).output ≡ true)

-- the gates that are held are those that drive the nets that are live
pub record AreDrivers (d : Netlist) (live held : ℕ → Bool) : Type 0 where
  pub nets : (p : ℕ) → live p ≡ true → p < length d.nets
  pub gates : (p : ℕ) → held p ≡ true → p < length d.gates
  pub drivers : (p : ℕ) → p < length d.gates → held p ≡ is_live d live (gate_at d p).output

-- places in order: these, and no others
pub record ArePlaces (places : List ℕ) (test : ℕ → Bool) : Type 0 where
  pub rising : AllPairs (λ p q. p < q) places
  pub all : (p : ℕ) → is_among places p ≡ test p

-- the nets and gates of a front
abbrev pub live_in : Front → ℕ → Bool
live_in front = contains nat_cmp front.live

abbrev pub held_in : Front → ℕ → Bool
held_in front = contains nat_cmp front.held

-- the nets that edits touched, or a gate that they touched drives
abbrev pub fixed_in : Front → ℕ → Bool
fixed_in front = contains nat_cmp front.fixed

-- the tasks of the gates that are evaluated
abbrev pub tasks_in : Front → List Evaluation
tasks_in front = front.outcomes.tasks.items

-- the nets that are live and the gates that drive them, where the values of the nets below n are known; all else is as in the
-- old run
pub record AreLive (answer : Evaluation → ℕ → State) (old new : Netlist) (live held fixed : ℕ → Bool) (patches : PlaceMap (PatchRecord Value)) (n : ℕ) : Type 0 where
  pub drivers : AreDrivers new live held
  pub base : IsClosed old new (is_live new fixed)
  pub fixed_live : (p : ℕ) → fixed p ≡ true → live p ≡ true
  pub closed : IsClosed old new (is_live new live)
  pub agrees : Agrees answer old new (is_live new live) n
  pub waves : AreWaves answer old new patches n
  pub wave_ends : EndBy patches n
  pub kept_waves : (p : ℕ) → live p ≡ true → GoesAlong (kept_at patches p) n ⊎ IsOwn (kept_at patches p)
  pub other_waves : (p : ℕ) → live p ≡ false → IsFree (kept_at patches p)

abbrev pub AreLiveIn : (Evaluation → ℕ → State) → (old new : Netlist) → Front → ℕ → Type 0
AreLiveIn answer old new front n = AreLive answer old new (live_in front) (held_in front) (fixed_in front) front.waves n

-- the front is right, where the moments below n are done
pub record IsFront (answer : Evaluation → ℕ → State) (old new : Netlist) (front : Front) (n : ℕ) : Type 0 where
  pub live : AreLiveIn answer old new front n
  pub traces : AreTraces answer old new front.traces n
  pub trace_ends : EndBy front.traces n
  pub own_traces : (p : ℕ) → held_in front p ≡ true → (n ≡ 0) ⊎ IsOwn (kept_at front.traces p)
  pub other_traces : (p : ℕ) → held_in front p ≡ false → IsFree (kept_at front.traces p)
  pub awaits : IsNoted answer old new (live_in front) (held_in front) (held_in front) n (noted front.events) (noted front.inputs) (noted front.nets) n

-- the held gates that are not looked at
abbrev pub passed_in : Front → ℕ → Bool
passed_in front p = held_in front p && not (is_among front.gates.items p)

-- the front is right at the moment t, at which all nets are done, and no gate; which gates are to be looked at is known
pub record AreNetsDone (answer : Evaluation → ℕ → State) (old new : Netlist) (front : Front) (t : ℕ) : Type 0 where
  pub live : AreLiveIn answer old new front (suc t)
  pub clean : (p : ℕ) → p < length new.gates → held_in front p ≡ false → is_dirty answer old new (gate_at new p) t ≡ false
  pub traces : AreTraces answer old new front.traces t
  pub trace_ends : EndBy front.traces t
  pub other_traces : (p : ℕ) → held_in front p ≡ false → IsFree (kept_at front.traces p)
  pub chosen : ArePlaces front.gates.items (is_among front.gates.items)
  pub chosen_held : (p : ℕ) → is_among front.gates.items p ≡ true → held_in front p ≡ true
  pub quiet : (p : ℕ) → p < length new.gates → passed_in front p ≡ true → is_stirred answer new (gate_at new p) t ≡ false
  pub own_traces : (p : ℕ) → passed_in front p ≡ true → IsOwn (kept_at front.traces p)
  pub awaits : IsNoted answer old new (live_in front) (passed_in front) (passed_in front) t (noted front.events) (noted front.inputs) (noted front.nets) (suc t)

-- the held gates that are not evaluated
abbrev pub resting_in : (Evaluation → ℕ → State) → (old new : Netlist) → Front → ℕ → ℕ → Bool
resting_in answer old new front t p = held_in front p && not (is_working answer old new t p)

-- the front is right at the moment t, which is done but for the states of the gates that are evaluated
pub record IsWaiting (answer : Evaluation → ℕ → State) (old new : Netlist) (front : Front) (t : ℕ) : Type 0 where
  pub live : AreLiveIn answer old new front (suc t)
  pub rested : (p : ℕ) → p < length new.gates → is_working answer old new t p ≡ false → IsTrace answer old new front.traces p (suc t)
  pub working : (p : ℕ) → p < length new.gates → is_working answer old new t p ≡ true → IsTrace answer old new front.traces p t
  pub clean : (p : ℕ) → p < length new.gates → held_in front p ≡ false → is_working answer old new t p ≡ false
  pub trace_ends : (p : ℕ) → ForSome (kept_at front.traces p) (λ patch. (end_of patch.line ≤ suc t) × (is_working answer old new t p ≡ true → end_of patch.line ≤ t))
  pub own_traces : (p : ℕ) → held_in front p ≡ true → is_working answer old new t p ≡ false → IsOwn (kept_at front.traces p)
  pub other_traces : (p : ℕ) → held_in front p ≡ false → IsFree (kept_at front.traces p)
  pub places : ArePlaces front.outcomes.working.items (λ p. held_in front p && is_working answer old new t p)
  pub tasks : working_at answer old new t ≡ map (gate_at new) front.outcomes.working.items
  pub same : All (IsClean answer old new t) front.outcomes.clean.items
  pub awaits : IsNoted answer old new (live_in front) (resting_in answer old new front t) (held_in front) (suc t) (noted front.events) (noted front.inputs) (noted front.nets) (suc t)

-- what comes of the gate at a place at t: it is evaluated, or it is not, and its state after t is known; where it is not dirty
-- that is known too
abbrev pub IsOutcome : (Evaluation → ℕ → State) → (old new : Netlist) → ℕ → ℕ → Outcome → Type 0
IsOutcome answer old new t p (Working task) = (is_working answer old new t p ≡ true) × (task ≡ task_at answer new (gate_at new p) t) × IsReady t task
IsOutcome answer old new t p (Resting state) = (is_working answer old new t p ≡ false) × (state ≡ state_after answer new (gate_at new p) t) × CanStore t state
IsOutcome answer old new t p (Clean state) = (is_working answer old new t p ≡ false) × (state ≡ state_after answer new (gate_at new p) t) × CanStore t state × IsClean answer old new t p

-- what comes of the gates at these places at t, in order
pub record AreOutcomes (answer : Evaluation → ℕ → State) (old new : Netlist) (t : ℕ) (places : List ℕ) (out : Outcomes) : Type 0 where
  pub working : out.working.items ≡ filter (is_working answer old new t) places
  pub tasks : out.tasks.items ≡ map (λ p. task_at answer new (gate_at new p) t) out.working.items
  pub ready : All (IsReady t) out.tasks.items
  pub resting : out.resting.items ≡ filter (λ p. not (is_working answer old new t p)) places
  pub states : out.states.items ≡ map (λ p. state_after answer new (gate_at new p) t) out.resting.items
  pub can : All (CanStore t) out.states.items
  pub same : All (IsClean answer old new t) out.clean.items

-- each touched net that is there is at one of these places, and so is the output of each touched gate that is there
pub record AreTouched (d : Keyed) (nets gates places : List ℕ) : Type 0 where
  pub of_nets : (key : ℕ) → is_touched nets key ≡ true → (p : ℕ) → place_of d.nets key ≡ Some p → is_among places p ≡ true
  pub of_gates : (key : ℕ) → is_touched gates key ≡ true → (g : KeyedGate) → gate_by_key d key ≡ Some g → (p : ℕ) → place_of d.nets g.output ≡ Some p → is_among places p ≡ true
