-- The wave of a net that one driver alone gives its value is told by the driver's trace.
use Rattle.std.proofs.Common.{Bool, true, false, set, inl, inr, ◌⊎◌, IfSome, ◌≡◌, ◌<◌, ◌≤◌, ◌∙◌, sym, ap, subst, refl, ℕ, suc, ◌+◌, List, [], ◌∷◌, map, Option, Some, None, slice_get, slice_index_or, unwrap_or, length, All, arith}
use Rattle.std.specs.Option.{option_map}
use Rattle.std.specs.List.{enumerate_from, filter}
use Rattle.std.proofs.lemmas.List.{length-map, length-set}
use Rattle.std.proofs.lemmas.List.Elements.{All-cons, All-filter, All-head, All-map, All-nil, All-weaker}
use Rattle.std.specs.Prelude.{nat_eq}
use Rattle.std.proofs.lemmas.Bool.{cases_lt, eqb-true}
use Rattle.std.proofs.lemmas.Bool.Decides.{nat_tests}
use Rattle.std.proofs.lemmas.Option.{slice_get-map, slice_get_past, slice_get_read}
use Rattle.fourstate.specs.declared.value.Value.{Value}
use Rattle.fourstate.specs.declared.value.Value.TheVariants.{Unknown}
use Rattle.gatestep.specs.Step.{State, Evaluation, due, initial}
use Rattle.gatestep.specs.kept.Tasks.{IsTask, NothingDue}
use Rattle.catalog.proofs.ListLemmas.{slice_get_some}
use Rattle.design.specs.kept.Lawful.{IsGate}
use Rattle.design.specs.Names.{same_name}
use Rattle.design.specs.Netlist.{GateEntry, NetEntry, Netlist}
use Rattle.design.specs.kept.Places.{driver_places}
use Rattle.design.proofs.ByNameLemmas.{all_at}
use Rattle.waveform.specs.Changes.{wave_changes_below}
use Rattle.waveform.specs.kept.Changes.{state_at}
use Rattle.waveform.specs.kept.Currents.{GoesOn, currents}
use Rattle.waveform.specs.Entries.{same_state}
use Rattle.scratch.specs.kept.Kept.{currents_of, lone_driver}
use Rattle.scratch.specs.kept.Recorded.{recorded_below}
use Rattle.scratch.specs.Run.{evaluation_at, state_after, state_before, value, wave_of}
use Rattle.scratch.specs.kept.Run.{trace_of}
use Rattle.scratch.proofs.Between.{alike as alike_lists, set_apart, set_here}
use Rattle.scratch.proofs.Copies.{GivesValues}
use Rattle.scratch.proofs.NetSteps.{lone_gives, lone_is, resolved_is}
use Rattle.scratch.proofs.Recorded.{recorded_alone}
use Rattle.scratch.proofs.Runs.{settled}

enumerated : (i : ℕ) (gates : List GateEntry) → All (λ (p : ℕ × GateEntry). p.0 < i + length gates) (enumerate_from i gates)
enumerated i [] = All-nil (λ (p : ℕ × GateEntry). p.0 < i + 0)
enumerated i (g ∷ gates) =
    All-cons (λ (p : ℕ × GateEntry). p.0 < i + length (g ∷ gates)) (i, g) (enumerate_from (i + 1) gates) (omega arith)
    (All-weaker (λ (p : ℕ × GateEntry). p.0 < i + 1 + length gates) (λ (p : ℕ × GateEntry). p.0 < i + length (g ∷ gates)) (λ p h. omega arith) (enumerate_from (i + 1) gates) (enumerated (i + 1) gates))

within_gates : (gates : List GateEntry) (name : List ℕ) → All (λ k. k < length gates) (driver_places gates name)
within_gates gates name =
    All-map (λ k. k < length gates) (λ (p : ℕ × GateEntry). p.0) (filter (λ (p : ℕ × GateEntry). same_name p.1.output name) (enumerate_from 0 gates))
    (All-filter (λ (p : ℕ × GateEntry). same_name p.1.output name) (λ (p : ℕ × GateEntry). p.0 < length gates) (enumerate_from 0 gates)
    (All-weaker (λ (p : ℕ × GateEntry). p.0 < 0 + length gates) (λ (p : ℕ × GateEntry). p.0 < length gates) (λ p h. omega arith) (enumerate_from 0 gates) (enumerated 0 gates)))

-- the driver is one of the gates
pub lone_within : (d : Netlist) (n : NetEntry) (k : ℕ) → lone_driver d n ≡ Some k → k < length d.gates
lone_within d n k alone =
    All-head (λ k. k < length d.gates) k [] (subst (All (λ k. k < length d.gates)) (lone_is d n k alone).alone (within_gates d.gates n.name))

-- the driver that alone gives a net its value, with its trace
pub record Found (answer : Evaluation → ℕ → State) (d : Netlist) (n : NetEntry) (k : ℕ) (line : List (ℕ × State)) : Type 0 where
  pub gate : GateEntry
  pub is : IsGate gate
  pub alone : lone_driver d n ≡ Some k
  pub there : slice_get d.gates k ≡ Some gate
  pub trace : line ≡ trace_of answer d gate

pub found : (answer : Evaluation → ℕ → State) (d : Netlist) (n : NetEntry) (k : ℕ) (traces : List (List (ℕ × State))) (line : List (ℕ × State)) → All IsGate d.gates →
    lone_driver d n ≡ Some k → traces ≡ map (trace_of answer d) d.gates → line ≡ slice_index_or traces k line → Found answer d n k line
found answer d n k traces line are alone is read =
    let within : k < length d.gates = lone_within d n k alone in
    let it = slice_get_some d.gates k within in
    let among : k < length traces = (let as_many = simp length-map at (ap length is) in omega arith) in
    let both : Some line ≡ Some (trace_of answer d it.0) =
    sym (slice_get_read traces (length traces) k line refl among read) ∙ ap (λ l. slice_get l k) is
    ∙ slice_get-map (trace_of answer d) d.gates k ∙ ap (option_map (trace_of answer d)) it.1 in
    record { gate = it.0; is = all_at IsGate d.gates k it.0 are it.1; alone = alone; there = it.1; trace = (cc) }

-- functions that are the same below a moment have the same changes below it (`waveform::laws::same_changes`)
abbrev pub Alike : Type 0
Alike = (f g : ℕ → Value) (n : ℕ) → ((t : ℕ) → t < n → f t ≡ g t) → wave_changes_below f n ≡ wave_changes_below g n

module _ (answer : Evaluation → ℕ → State) (d : Netlist)
    (current : (e : Evaluation) (t : ℕ) → (answer e t).current ≡ (due e.state t).current)
    (pending : (e : Evaluation) (t : ℕ) → IsTask e → NothingDue t (answer e t))
    (gives : GivesValues same_state due initial) (alike : Alike)
    (n : NetEntry) (k : ℕ) (line : List (ℕ × State)) (it : Found answer d n k line) where
  abbrev g : GateEntry
  g = it.gate

  -- the net has what the driver gives
  pub gives_value : (t : ℕ) → value answer d n t ≡ (state_after answer d g t).current
  gives_value t =
      let states : List State = map (state_before answer d t) d.gates in
      let found : unwrap_or (slice_get (currents_of states t) k) Unknown ≡ value answer d n t =
      resolved_is answer d t states n _ (unwrap_or (slice_get (currents_of states t) k) Unknown) refl refl (lone_gives d (currents_of states t) t n k it.alone) in
      let read : slice_get (currents_of states t) k ≡ Some (due (state_before answer d t g) t).current =
      slice_get-map (λ s. (due s t).current) states k
      ∙ ap (option_map (λ s. (due s t).current)) (slice_get-map (state_before answer d t) d.gates k ∙ ap (option_map (state_before answer d t)) it.there) in
      sym found ∙ ap (λ (o : Option Value). unwrap_or o Unknown) read ∙ sym (current (evaluation_at d (state_before answer d t) g t) t)

  -- which its trace tells up to the horizon
  pub told : (t : ℕ) → t < suc d.horizon → state_at (trace_of answer d g) t ≡ state_after answer d g t
  told t within = gives (state_after answer d g) (λ u. settled answer d pending g it.is u) t (suc d.horizon) within

  pub goes_on : GoesOn line (suc d.horizon)
  goes_on =
      subst (λ l. GoesOn l (suc d.horizon)) (sym it.trace) (λ t within.
      ap (λ s. s.current) (told (suc t) within)
      ∙ current (evaluation_at d (state_before answer d (suc t)) g (suc t)) (suc t)
      ∙ ap (λ s. (due s (suc t)).current) (sym (told t (omega arith))))

  same_below : (m : ℕ) → m ≤ suc d.horizon → wave_changes_below (currents line) m ≡ wave_changes_below (value answer d n) m
  same_below m within =
      ap (λ l. wave_changes_below (currents l) m) it.trace
      ∙ alike (currents (trace_of answer d g)) (value answer d n) m
      (λ t low. ap (λ s. s.current) (told t (omega arith)) ∙ sym (gives_value t))

  pub begins : (wave : List (ℕ × Value)) (u : ℕ) → wave ≡ recorded_below answer d n u → wave ≡ wave_changes_below (currents line) 1
  begins wave u was = was ∙ recorded_alone answer d n u k it.alone ∙ sym (same_below 1 (omega arith))

  pub is_whole : (wave : List (ℕ × Value)) → wave ≡ wave_changes_below (currents line) (suc d.horizon) → wave ≡ wave_of answer d n
  is_whole wave now = now ∙ same_below (suc d.horizon) (omega arith)

-- the waves at the places before one are whole, and the others as they were recorded
pub record Completed (answer : Evaluation → ℕ → State) (d : Netlist) (place : ℕ) (waves : List (List (ℕ × Value))) : Type 0 where
  pub as_many : length waves ≡ length d.nets
  pub whole : (k : ℕ) → k < place → slice_get waves k ≡ slice_get (map (wave_of answer d) d.nets) k
  pub rest : (k : ℕ) → place ≤ k → slice_get waves k ≡ slice_get (map (λ n. recorded_below answer d n (suc d.horizon)) d.nets) k

module _ (answer : Evaluation → ℕ → State) (d : Netlist) where
  pub none_completed : (waves : List (List (ℕ × Value))) → waves ≡ map (λ n. recorded_below answer d n (suc d.horizon)) d.nets → Completed answer d 0 waves
  none_completed waves are =
      record { as_many = simp length-map at (ap length are); whole = λ k low. absurd (omega arith); rest = λ k from. ap (λ l. slice_get l k) are }

  pub all_completed : (place : ℕ) (waves : List (List (ℕ × Value))) → length waves ≤ place → Completed answer d place waves → waves ≡ map (wave_of answer d) d.nets
  all_completed place waves past so_far = alike_lists waves (map (wave_of answer d) d.nets) (λ k. by k (cases_lt k place))
    where
      by : (k : ℕ) → (k < place) ⊎ (place ≤ k) → slice_get waves k ≡ slice_get (map (wave_of answer d) d.nets) k
      by k (inl low) = so_far.whole k low
      by k (inr high) =
          let none : slice_get d.nets k ≡ None = slice_get_past d.nets k (let many = so_far.as_many in omega arith) in
          slice_get_past waves k (omega arith) ∙ sym (slice_get-map (wave_of answer d) d.nets k ∙ ap (option_map (wave_of answer d)) none)

  -- a wave that is left, and what it becomes
  pub one_left : (place : ℕ) (waves : List (List (ℕ × Value))) (wave : List (ℕ × Value)) → Completed answer d place waves → slice_get waves place ≡ Some wave →
      IfSome (slice_get d.nets place) (λ n. wave ≡ recorded_below answer d n (suc d.horizon))
  one_left place waves wave so_far there =
      of_option (slice_get d.nets place) (sym there ∙ so_far.rest place (omega arith) ∙ slice_get-map (λ n. recorded_below answer d n (suc d.horizon)) d.nets place)
    where
      of_option : (o : Option NetEntry) → Some wave ≡ option_map (λ n. recorded_below answer d n (suc d.horizon)) o → IfSome o (λ n. wave ≡ recorded_below answer d n (suc d.horizon))
      of_option None e = tt
      of_option (Some n) e = cc

  pub one_completed : (place : ℕ) (waves : List (List (ℕ × Value))) (wave : List (ℕ × Value)) → place < length waves → Completed answer d place waves →
      IfSome (slice_get d.nets place) (λ n. wave ≡ wave_of answer d n) → Completed answer d (place + 1) (set waves place wave)
  one_completed place waves wave within so_far is =
      record {
        as_many = length-set waves place wave ∙ so_far.as_many;
        whole = λ k low. by k (nat_eq k place) refl low;
        rest = λ k from. set_apart waves place k wave (grind (arith, nat_tests)) ∙ so_far.rest k (omega arith);
      }
    where
      here : (o : Option NetEntry) → slice_get d.nets place ≡ o → IfSome o (λ n. wave ≡ wave_of answer d n) → Some wave ≡ option_map (wave_of answer d) o
      here None at so = absurd (let some = slice_get_some d.nets place (let many = so_far.as_many in omega arith) in let both = sym some.1 ∙ at in cc)
      here (Some n) at so = ap (λ w. Some w) so

      by : (k : ℕ) (b : Bool) → nat_eq k place ≡ b → k < place + 1 → slice_get (set waves place wave) k ≡ slice_get (map (wave_of answer d) d.nets) k
      by k true e low =
          subst (λ p. slice_get (set waves place wave) p ≡ slice_get (map (wave_of answer d) d.nets) p) (sym (eqb-true k place e))
          (set_here waves place wave within ∙ here (slice_get d.nets place) refl is ∙ sym (slice_get-map (wave_of answer d) d.nets place))
      by k false e low = set_apart waves place k wave e ∙ so_far.whole k (grind (arith, nat_tests))
