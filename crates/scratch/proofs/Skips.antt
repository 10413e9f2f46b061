-- The moments before the next one for which something is noted are skipped.
use Rattle.std.proofs.Common.{◌≡◌, ◌≢◌, ◌<◌, ◌≤◌, ◌∙◌, sym, ap, subst, refl, Bool, true, false, ℕ, zero, suc, ◌+◌, ◌-◌, List, [], map, Option, Some, None, slice_get, slice_index_or, length, All, arith, ◌⊎◌, inl, inr}
use Rattle.std.specs.Prelude.{nat_eq, nat_le}
use Rattle.std.specs.Option.{option_map_or, option_map, ForSome}
use Rattle.std.proofs.lemmas.Bool.{cases_lt, false_from_ne_true}
use Rattle.std.proofs.lemmas.Bool.Decides.{nat_tests}
use Rattle.std.proofs.lemmas.Option.{slice_get-map, slice_get-get_or}
use Rattle.event_queue.specs.kept.Noted.{noted}
use Rattle.fourstate.specs.declared.value.Value.{Value}
use Rattle.fourstate.specs.Values.{same_value}
use Rattle.gatestep.specs.Step.{State, Evaluation, due}
use Rattle.gatestep.specs.Tasks.{PendingFrom}
use Rattle.gatestep.specs.kept.Tasks.{IsTask, NothingDue, again}
use Rattle.design.specs.kept.Lawful.{IsGate}
use Rattle.design.specs.Netlist.{GateEntry, Netlist, has_point}
use Rattle.design.proofs.ByNameLemmas.{all_at}
use Rattle.waveform.specs.kept.Changes.{trace_below}
use Rattle.waveform.specs.Entries.{same_state, standing}
use Rattle.waveform.proofs.Lists.{filter-none}
use Rattle.scratch.specs.kept.Places.{Announces, Covers, has, pends_at, point_at}
use Rattle.scratch.specs.kept.Quiet.{IsQuiet}
use Rattle.scratch.specs.kept.Recorded.{recorded_below}
use Rattle.scratch.specs.Run.{state_after, state_before, value}
use Rattle.scratch.specs.kept.Stands.{Stands}
use Rattle.scratch.specs.Work.{is_due, is_stirred, stirred_at}
use Rattle.scratch.specs.declared.engine.Engine.{Engine}
use Rattle.scratch.proofs.Recorded.{recorded_moves}
use Rattle.scratch.proofs.Runs.{map_where, ready_all}
use Rattle.scratch.proofs.Still.{Stays, quiet_gate, quiet_net, still_after, trace_stays, wave_stays}

-- where no place is noted nothing is wanted
pub unwanted : (wanted : ℕ → ℕ → Bool) (listed : ℕ → List ℕ) (n k t : ℕ) → Covers wanted listed n → n ≤ t → listed t ≡ [] → wanted k t ≡ false
unwanted wanted listed n k t covers from off =
    false_from_ne_true (wanted k t) (λ h.
    let there = covers k t from h in
    let none : has k (listed t) ≡ false = ap (has k) off in
    let never : false ≡ true = sym none ∙ there in cc)

-- nor where none is noted up to the moment
pub unannounced : (wanted : ℕ → ℕ → Bool) (listed : ℕ → List ℕ) (n k t : ℕ) → Announces wanted listed n → n ≤ t → ((u : ℕ) → n ≤ u → u ≤ t → listed u ≡ []) → wanted k t ≡ false
unannounced wanted listed n k t announces from off =
    false_from_ne_true (wanted k t) (λ h.
    let there = announces k t from h in
    let none : has k (listed there.0) ≡ false = ap (has k) (off there.0 there.1 there.2) in
    let never : false ≡ true = sym none ∙ there.3 in cc)

due_now : (p : Option (Value × ℕ)) (t : ℕ) → ForSome p (λ event. t ≤ event.1) →
    option_map_or (λ event. nat_eq event.1 t) p false ≡ option_map_or (λ event. nat_le event.1 t) p false
due_now None t h = refl
due_now (Some event) t h = let later = h event refl in grind (arith, nat_tests)

-- an event that is due but not overdue is pending for t
pub is_due_now : (s : State) (t : ℕ) → PendingFrom t s → option_map_or (λ event. nat_eq event.1 t) s.pending false ≡ is_due s t
is_due_now s t h = due_now s.pending t h

module _ (answer : Evaluation → ℕ → State) (d : Netlist)
    (current : (e : Evaluation) (t : ℕ) → (answer e t).current ≡ (due e.state t).current)
    (pending : (e : Evaluation) (t : ℕ) → IsTask e → NothingDue t (answer e t))
    (stays : (e : Evaluation) (t u : ℕ) → t < u → NothingDue u (answer e t) → answer (again e (answer e t)) u ≡ answer e t)
    (still_waves : Stays same_value standing) (still_traces : Stays same_state due)
    (are : All IsGate d.gates) where
  -- the moments from n to u are done as it stands
  pub record Skipped (e : Engine) (n u : ℕ) : Type 0 where
    pub stands : Stands answer d e u
    pub quiet : (w : ℕ) → n ≤ w → w < u → stirred_at answer d w ≡ []

  module _ (e : Engine) (v : ℕ) (s : Stands answer d e (suc v)) (no_event : noted e.events (suc v) ≡ []) (no_point : noted e.points (suc v) ≡ []) where
    state_at : (k : ℕ) (x : GateEntry) → k < length d.gates → slice_get e.states.items k ≡ Some (state_before answer d (suc v) (slice_index_or d.gates k x))
    state_at k x within =
        ap (λ states. slice_get states k) s.states ∙ slice_get-map (state_before answer d (suc v)) d.gates k
        ∙ ap (option_map (state_before answer d (suc v))) (slice_get-get_or d.gates k x within)

    quiet : IsQuiet answer d (suc v)
    quiet =
        record {
          no_point = λ k x within.
              ap (λ o. option_map_or (λ n. has_point n.points (suc v)) o false) (sym (slice_get-get_or d.nets k x within))
              ∙ unannounced (point_at d.nets) (noted e.points) (suc v) k (suc v) s.points (omega arith) (λ u from to. let same : suc v ≡ u = omega arith in ap (noted e.points) (sym same) ∙ no_point);
          nothing_due = λ k x within.
              let state = state_before answer d (suc v) (slice_index_or d.gates k x) in
              let ready : PendingFrom (suc v) state = all_at (PendingFrom (suc v)) e.states.items k state (ready_all answer d pending are (suc v) e.states.items s.states) (state_at k x within) in
              sym (is_due_now state (suc v) ready)
              ∙ ap (λ o. option_map_or (λ s. option_map_or (λ event. nat_eq event.1 (suc v)) s.pending false) o false) (sym (state_at k x within))
              ∙ unwanted (pends_at e.states.items) (noted e.events) (suc v) k (suc v) s.events (omega arith) no_event;
        }

    calm : All (λ g. is_stirred answer d g (suc v) ≡ false) d.gates
    calm = λ k x within. quiet_gate answer d current v quiet (slice_index_or d.gates k x) (quiet.nothing_due k x within)

    states_stay : map (state_before answer d (suc (suc v))) d.gates ≡ map (state_before answer d (suc v)) d.gates
    states_stay = map_where (λ g. is_stirred answer d g (suc v) ≡ false) _ _ (λ g p. still_after answer d stays g v p) d.gates calm

    traces_stay : map (λ g. trace_below (state_after answer d g) (suc (suc v))) d.gates ≡ map (λ g. trace_below (state_after answer d g) (suc v)) d.gates
    traces_stay = map_where (λ g. is_stirred answer d g (suc v) ≡ false) _ _ (λ g p. trace_stays answer d stays still_traces g v p) d.gates calm

    values_stay : map (λ x. value answer d x (suc v)) d.nets ≡ map (λ x. value answer d x v) d.nets
    values_stay = map_where (λ n. has_point n.points (suc v) ≡ false) _ _ (quiet_net answer d current v quiet) d.nets quiet.no_point

    waves_stay : map (λ x. recorded_below answer d x (suc (suc v))) d.nets ≡ map (λ x. recorded_below answer d x (suc v)) d.nets
    waves_stay =
        map_where (λ n. has_point n.points (suc v) ≡ false) _ _
        (λ n none. recorded_moves answer d n (suc (suc v)) (suc v) (wave_stays still_waves answer d n v (quiet_net answer d current v quiet n none))) d.nets quiet.no_point

    early_on : (listed : ℕ → List ℕ) → listed (suc v) ≡ [] → ((t : ℕ) → t < suc v → listed t ≡ []) → (t : ℕ) → (t < suc v) ⊎ (t ≡ suc v) → listed t ≡ []
    early_on listed here before t (inl low) = before t low
    early_on listed here before t (inr same) = ap listed same ∙ here

    later_on : (listed : ℕ → List ℕ) (k u : ℕ) → listed (suc v) ≡ [] → has k (listed u) ≡ true → suc v ≤ u → (suc (suc v) ≤ u) ⊎ (u ≡ suc v) → suc (suc v) ≤ u
    later_on listed k u none there from (inl later) = later
    later_on listed k u none there from (inr same) = absurd (let never : false ≡ true = ap (has k) (sym none) ∙ ap (λ w. has k (listed w)) (sym same) ∙ there in cc)

    skip_one : Skipped e (suc v) (suc (suc v))
    skip_one =
        record {
          stands =
              record {
                begun = omega arith;
                states = s.states ∙ sym states_stay;
                values = let one : suc v - 1 ≡ v = omega arith in let two : suc (suc v) - 1 ≡ suc v = omega arith in
                    rw two ((rw one at s.values) ∙ sym values_stay);
                waves = s.waves ∙ sym waves_stay;
                traces = s.traces ∙ sym traces_stay;
                events = λ k t from h. s.events k t (omega arith) h;
                points = λ k t from h.
                    let there = s.points k t (omega arith) h in let after = there.1 in
                    (there.0, later_on (noted e.points) k there.0 no_point there.3 after (search arith), there.2, there.3);
                no_early_event = λ t below. early_on (noted e.events) no_event s.no_early_event t (search arith);
                no_early_point = λ t below. early_on (noted e.points) no_point s.no_early_point t (search arith);
                counts = s.counts;
              };
          quiet = λ w from low. let same : suc v ≡ w = omega arith in ap (stirred_at answer d) (sym same) ∙ filter-none (λ g. is_stirred answer d g (suc v)) d.gates calm;
        }

  quiet_by : (e : Engine) (n v w : ℕ) → Skipped e n (suc v) → Skipped e (suc v) (suc (suc v)) → n ≤ w → (w < suc v) ⊎ (suc v ≤ w) → w < suc (suc v) → stirred_at answer d w ≡ []
  quiet_by e n v w before one from (inl low) below = before.quiet w from low
  quiet_by e n v w before one from (inr high) below = one.quiet w high below

  skip_by : (e : Engine) (n u : ℕ) → Skipped e n u → noted e.events u ≡ [] → noted e.points u ≡ [] → Skipped e n (suc u)
  skip_by e n zero s no_event no_point = absurd (let b = s.stands.begun in omega arith)
  skip_by e n (suc v) s no_event no_point =
      let one = skip_one e v s.stands no_event no_point in
      record { stands = one.stands; quiet = λ w from below. quiet_by e n v w s one from (cases_lt w (suc v)) below }

  skip : (e : Engine) (n k : ℕ) → Stands answer d e n → ((t : ℕ) → t < n + k → noted e.events t ≡ []) → ((t : ℕ) → t < n + k → noted e.points t ≡ []) → Skipped e n (n + k)
  skip e n zero s no_event no_point =
      let z : n + 0 ≡ n = omega arith in
      record { stands = rw z s; quiet = λ w from low. absurd (omega arith) }
  skip e n (suc k) s no_event no_point =
      let z : n + suc k ≡ suc (n + k) = omega arith in
      let before = skip e n k s (λ t low. no_event t (omega arith)) (λ t low. no_point t (omega arith)) in
      subst (Skipped e n) (sym z) (skip_by e n (n + k) before (no_event (n + k) (omega arith)) (no_point (n + k) (omega arith)))

  -- where nothing is noted for a moment before u, all moments before u are done
  pub reach : (e : Engine) (n u : ℕ) → n ≤ u → Stands answer d e n → ((t : ℕ) → t < u → noted e.events t ≡ []) → ((t : ℕ) → t < u → noted e.points t ≡ []) → Skipped e n u
  reach e n u le s no_event no_point =
      let z : n + (u - n) ≡ u = omega arith in
      subst (Skipped e n) z (skip e n (u - n) s (λ t low. no_event t (omega arith)) (λ t low. no_point t (omega arith)))

  noted_by : (e : Engine) (n t : ℕ) → Stands answer d e n → (noted e.events t ≡ [] → noted e.points t ≢ []) → (t < n) ⊎ (n ≤ t) → n ≤ t
  noted_by e n t s some (inl low) = absurd (some (s.no_early_event t low) (s.no_early_point t low))
  noted_by e n t s some (inr le) = le

  -- a moment for which something is noted is still to come
  pub not_before : (e : Engine) (n t : ℕ) → Stands answer d e n → (noted e.events t ≡ [] → noted e.points t ≢ []) → n ≤ t
  not_before e n t s some = noted_by e n t s some (cases_lt t n)
