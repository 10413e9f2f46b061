-- The lines of a run, read in the order of its nets and gates.
use Rattle.std.proofs.Common.{◌≡◌, ◌<◌, ◌∙◌, ap, sym, refl, Bool, ℕ, suc, ◌+◌, ◌-◌, List, [], ◌∷◌, ◌++◌, map, take, Option, Some, None, All, option_map, slice_get, arith}
use Rattle.std.proofs.lemmas.List.{map-append}
use Rattle.fourstate.specs.declared.value.Value.TheVariants.{Unknown}
use Rattle.fourstate.specs.Values.{same_value}
use Rattle.gatestep.specs.Step.{State, Evaluation, due, initial}
use Rattle.gatestep.specs.kept.Tasks.{IsTask, NothingDue}
use Rattle.catalog.specs.Catalog.{records_of}
use Rattle.design.specs.Keys.{Keyed, entry_in, netlist}
use Rattle.design.specs.kept.Keys.{gate_by_key}
use Rattle.design.specs.kept.Lawful.{IsGate}
use Rattle.design.specs.Netlist.{GateEntry, NetEntry, Netlist}
use Rattle.design.proofs.ByNameLemmas.{gate_at_is}
use Rattle.waveform.specs.Entries.{same_state, standing}
use Rattle.waveform.specs.kept.Runs.{RunRecord}
use Rattle.waveform.specs.kept.Tables.{line_at}
use Rattle.waveform.specs.Timelines.{changes_below, entries_until, value_by}
use Rattle.waveform.specs.kept.Timelines.{IsAlwaysSettled}
use Rattle.scratch.specs.kept.HorizonLaws.{CutsChanges}
use Rattle.std.specs.Option.{option_map_or}
use Rattle.scratch.specs.kept.Kept.{lone_driver}
use Rattle.scratch.specs.kept.Recorded.{recorded_below}
use Rattle.scratch.specs.Run.{state_after, state_before, value, wave_of}
use Rattle.scratch.specs.kept.Run.{IsRun, trace_of}
use Rattle.scratch.proofs.Lists.{take_next}
use Rattle.scratch.proofs.Moments.{map_twice}
use Rattle.scratch.proofs.Recorded.{recorded_alone, recorded_whole}
use Rattle.scratch.proofs.Runs.{map_where, settled}

both : {A B C : Type 0} (f : A → B) (h : B → C) (o : Option A) → option_map h (option_map f o) ≡ option_map (λ a. h (f a)) o
both f h None = refl
both f h (Some a) = refl

-- the trace under the key of a gate is that of the gate at its place
pub trace_there : (answer : Evaluation → ℕ → State) (d : Keyed) (run : RunRecord) → IsRun answer d run → (k key : ℕ) → gate_by_key d key ≡ slice_get (records_of d.gates) k →
    option_map (trace_of answer (netlist d)) (slice_get (netlist d).gates k) ≡ line_at run.traces key
trace_there answer d run is k key at =
    ap (option_map (trace_of answer (netlist d))) (gate_at_is d k)
    ∙ both (entry_in d.nets) (trace_of answer (netlist d)) (slice_get (records_of d.gates) k)
    ∙ ap (option_map (λ g. trace_of answer (netlist d) (entry_in d.nets g))) (sym at)
    ∙ sym (is.traces key)

-- what is found from one line more
pub one_found : {X L Y : Type 0} (f : X → L) (h : X → Y) (xs : List X) (k : ℕ) (line : L) (y : Y) (old new : List Y) → ((x : X) → slice_get xs k ≡ Some x → line ≡ f x → y ≡ h x) →
    option_map f (slice_get xs k) ≡ Some line → old ≡ map h (take k xs) → new ≡ old ++ y ∷ [] → new ≡ map h (take (k + 1) xs)
one_found f h xs k line y old new so is was more = by (slice_get xs k) refl is
  where
    by : (o : Option _) → slice_get xs k ≡ o → option_map f o ≡ Some line → new ≡ map h (take (k + 1) xs)
    by None at is = absurd (cc)
    by (Some x) at is =
        let same : line ≡ f x = cc in
        more ∙ ap (λ l. l ++ y ∷ []) was ∙ ap (λ z. map h (take k xs) ++ z ∷ []) (so x at same)
        ∙ sym (map-append h (take k xs) (x ∷ [])) ∙ ap (map h) (sym (take_next xs k x at))

module _ (answer : Evaluation → ℕ → State) (d : Netlist) (h : ℕ) (is : h ≡ d.horizon) where
  -- no entry lies past the horizon
  pub whole_trace : CutsChanges same_state due → (g : GateEntry) → entries_until (trace_of answer d g) h ≡ trace_of answer d g
  whole_trace cuts g =
      cuts (state_after answer d g) h (suc d.horizon) (omega arith)
      ∙ ap (λ t. changes_below same_state due (state_after answer d g) (suc t)) is

-- the changes of a function give its values (`waveform::laws::value_of_changes`)
abbrev pub GivesValues : {A : Type 0} → (A → A → Bool) → (A → ℕ → A) → A → Type 0
GivesValues {A = A} same drift start = (f : ℕ → A) → IsAlwaysSettled drift f → (t n : ℕ) → t < n → value_by drift start (changes_below same drift f n) t ≡ f t

module _ (answer : Evaluation → ℕ → State) (d : Netlist) (h : ℕ) (is : h ≡ d.horizon) where
  -- the value at the horizon
  pub last_value : GivesValues same_value standing Unknown → (n : NetEntry) → value_by standing Unknown (wave_of answer d n) h ≡ value answer d n (suc d.horizon - 1)
  last_value gives n =
      let same : h ≡ suc d.horizon - 1 = omega arith in
      gives (value answer d n) (λ t. refl) h (suc d.horizon) (omega arith) ∙ ap (value answer d n) same

  -- what is copied of a wave: all of it, or moment 0
  pub copied_wave : CutsChanges same_value standing → (n : NetEntry) (o : Option ℕ) (until : ℕ) → lone_driver d n ≡ o → until ≡ option_map_or (λ k. 0) o h →
      entries_until (wave_of answer d n) until ≡ recorded_below answer d n (suc d.horizon)
  copied_wave cuts n None until alone so_far =
      cuts (value answer d n) until (suc d.horizon) (let so : until ≡ h = so_far in omega (arith, so, is))
      ∙ ap (λ t. changes_below same_value standing (value answer d n) t) (let so : until ≡ h = so_far in let end : suc until ≡ suc d.horizon = omega (arith, so, is) in end)
      ∙ sym (recorded_whole answer d n (suc d.horizon) alone)
  copied_wave cuts n (Some k) until alone so_far =
      cuts (value answer d n) until (suc d.horizon) (let so : until ≡ 0 = so_far in omega (arith, so))
      ∙ ap (λ t. changes_below same_value standing (value answer d n) t) (let so : until ≡ 0 = so_far in let end : suc until ≡ 1 = omega (arith, so) in end)
      ∙ sym (recorded_alone answer d n (suc d.horizon) k alone)

  -- and the states
  module _ (pending : (e : Evaluation) (t : ℕ) → IsTask e → NothingDue t (answer e t)) (gates : All IsGate d.gates) where
    last_state : GivesValues same_state due initial → (g : GateEntry) → IsGate g → value_by due initial (trace_of answer d g) h ≡ state_before answer d (suc d.horizon) g
    last_state gives g gate =
        gives (state_after answer d g) (λ t. settled answer d pending g gate t) h (suc d.horizon) (omega arith) ∙ ap (state_after answer d g) is

    pub last_states : GivesValues same_state due initial → (lines : List (List (ℕ × State))) (states : List State) → lines ≡ map (trace_of answer d) d.gates →
        states ≡ map (λ line. value_by due initial line h) lines → states ≡ map (state_before answer d (suc d.horizon)) d.gates
    last_states gives lines states are those =
        those ∙ ap (map (λ line. value_by due initial line h)) are ∙ map_twice (trace_of answer d) (λ line. value_by due initial line h) d.gates
        ∙ map_where IsGate (λ g. value_by due initial (trace_of answer d g) h) (state_before answer d (suc d.horizon)) (last_state gives) d.gates gates
