-- Where nothing is noted nothing happens to what is live.
use Rattle.std.proofs.Common.{◌≡◌, ◌<◌, ◌≤◌, ◌∙◌, sym, ap, subst, refl, Bool, true, false, not, ℕ, zero, suc, ◌-◌, List, Option, Some, None, length, All, arith, ⊎_elim}
use Rattle.std.specs.Prelude.{nat_eq, nat_le, slice_index_or, ◌&&◌, ◌||◌, ◌==◌}
use Rattle.std.specs.List.{list_any}
use Rattle.std.specs.Option.{ForSome, option_map_or}
use Rattle.std.proofs.lemmas.Bool.{cases_lt, false_from_ne_true, or_parts, not-false}
use Rattle.std.proofs.lemmas.Bool.Decides.{nat_tests}
use Rattle.std.proofs.lemmas.List.Elements.{All-from_get_or}
use Rattle.std.proofs.lemmas.List.Folds.{list_any_at}
use Rattle.event_queue.specs.kept.Noted.{noted}
use Rattle.fourstate.specs.declared.value.Value.{Value}
use Rattle.fourstate.specs.kept.ValueLaws.{is_same}
use Rattle.fourstate.specs.Values.{same_value}
use Rattle.gatestep.specs.Step.{State, Evaluation}
use Rattle.gatestep.specs.Tasks.{PendingFrom}
use Rattle.gatestep.specs.kept.Tasks.{IsTask, NothingDue}
use Rattle.design.specs.Connections.{Connection, to_net, to_constant}
use Rattle.design.specs.kept.Lawful.{IsDesign}
use Rattle.design.specs.Netlist.{NetEntry, Netlist, has_point}
use Rattle.scratch.specs.Run.{evaluation_at, state_before}
use Rattle.scratch.specs.Work.{is_due}
use Rattle.scratch.proofs.Among.{nat_itself}
use Rattle.scratch.proofs.Skips.{unwanted}
use Rattle.scratch.proofs.Runs.{is_task}
use Rattle.scratch.proofs.Driven.{either}
use Rattle.rundiff.specs.declared.front.Front.{Front}
use Rattle.rundiff.specs.kept.Fronts.{IsFront, held_in, live_in}
use Rattle.rundiff.specs.kept.Kept.{Between, IsClear, read_at}
use Rattle.rundiff.specs.kept.Noting.{input_moves, is_at_live, net_moves, old_moves, pends, wants_event, wants_gate, wants_net}
use Rattle.rundiff.specs.kept.Places.{blank_gate, blank_net, gate_at, is_live, net_at}
use Rattle.rundiff.proofs.ByPlace.{live_at}
use Rattle.rundiff.proofs.Noted.{NoneBefore, unannounced}
use Rattle.rundiff.proofs.Wired.{IsThere, inputs_there, named_in}
use Rattle.rundiff.proofs.Lists.{off_by, not_so}

none_of : {X : Type 0} (test : X → Bool) (xs : List X) (k : ℕ) (d : X) → list_any test xs ≡ false → k < length xs → test (slice_index_or xs k d) ≡ false
none_of test xs k d none low = not_so (test (slice_index_or xs k d)) (list_any test xs) (list_any_at test xs k d low) none

-- nothing is due where nothing is pending for that moment or one before
none_due_by : (p : Option (Value × ℕ)) (n m : ℕ) → ForSome p (λ event. n ≤ event.1) → ((v : ℕ) → n ≤ v → v ≤ m → option_map_or (λ event. nat_eq event.1 v) p false ≡ false) →
    option_map_or (λ event. nat_le event.1 m) p false ≡ false
none_due_by None n m from off = refl
none_due_by (Some event) n m from off =
    false_from_ne_true (nat_le event.1 m) (λ is.
    let low : event.1 ≤ m = grind (arith, nat_tests) in
    let apart = off event.1 (from event refl) low in let itself = nat_itself event.1 in cc)

-- the function has the same value as before at each moment after r and before u, up to h
abbrev StandsStill : (ℕ → Value) → (h r u : ℕ) → Type 0
StandsStill f h r u = (m : ℕ) → r < m → m < u → (nat_le m h && not (same_value (f m) (f (m - 1)))) ≡ false

step_same : (f : ℕ → Value) (h v : ℕ) → suc v ≤ h → (nat_le (suc v) h && not (same_value (f (suc v)) (f (suc v - 1)))) ≡ false → f (suc v) ≡ f v
step_same f h v within off =
    let back : suc v - 1 ≡ v = omega arith in
    let low : nat_le (suc v) h ≡ true = grind (arith, nat_tests) in
    is_same (f (suc v)) (f v)
    (ap (λ (w : ℕ). same_value (f (suc v)) (f w)) (sym back)
    ∙ not-false (same_value (f (suc v)) (f (suc v - 1))) (off_by (nat_le (suc v) h) (not (same_value (f (suc v)) (f (suc v - 1)))) low off))

same_as : (f : ℕ → Value) (h r u : ℕ) → StandsStill f h r u → (m : ℕ) → r < m → m < u → m ≤ h → f m ≡ f r
same_as f h r u still zero from low within = absurd (omega arith)
same_as f h r u still (suc v) from low within =
    let earlier : r < v → f v ≡ f r = λ later. same_as f h r u still v later (omega arith) (omega arith) in
    step_same f h v within (still (suc v) from low)
    ∙ ⊎_elim earlier (λ here. let e : v ≡ r = omega arith in ap f e) (cases_lt r v)

module _ (answer : Evaluation → ℕ → State) (old new : Netlist) (pending : (e : Evaluation) (t : ℕ) → IsTask e → NothingDue t (answer e t)) (is : IsDesign new)
    (front : Front) (r u : ℕ) (right : IsFront answer old new front (suc r)) (none : NoneBefore front u) where
  abbrev live : List ℕ → Bool
  live = is_live new (live_in front)

  gate_on : (p : ℕ) → p < length new.gates → live (gate_at new p).output ≡ true → held_in front p ≡ true
  gate_on p there on = right.live.drivers.drivers p there ∙ on

  ready : (p : ℕ) → p < length new.gates → PendingFrom (suc r) (state_before answer new (suc r) (gate_at new p))
  ready p there = λ event some.
      let gate = gate_at new p in
      let after = pending (evaluation_at new (state_before answer new r) gate r) r (is_task answer new pending gate (is.gates p blank_gate there) r) event some in omega arith

  due_at : (p : ℕ) → p < length new.gates → live (gate_at new p).output ≡ true → Between r u (λ m. is_due (state_before answer new (suc r) (gate_at new p)) m ≡ false)
  due_at p there on = λ m from low.
      let state = state_before answer new (suc r) (gate_at new p) in
      none_due_by state.pending (suc r) m (ready p there)
      (λ v after before.
      off_by (held_in front p) (pends state v) (gate_on p there on)
      (unwanted (wants_event answer old new (held_in front) (suc r)) (noted front.events) (suc r) p v right.awaits.events after (none.events v (omega arith))))

  net_still : (p : ℕ) → p < length new.nets → live (net_at new p).name ≡ true → Between r u (λ m. net_moves answer old new p m ≡ false)
  net_still p there on = λ m from low.
      let on_place : live_in front p ≡ true = sym (live_at new (live_in front) p is.distinct_nets there) ∙ on in
      (or_parts (m == 0) (net_moves answer old new p m)
      (off_by (live_in front p) (m == 0 || net_moves answer old new p m) on_place
      (unannounced (wants_net answer old new (live_in front)) (noted front.nets) (suc r) p m u right.awaits.nets (omega arith) low none.nets))).1

  points_at : (p : ℕ) → p < length new.nets → live (net_at new p).name ≡ true → Between r u (λ m. has_point (net_at new p).points m ≡ false)
  points_at p there on = λ m from low. (or_parts (has_point (net_at new p).points m) (old_moves answer old new (to_net (net_at new p).name) m) (net_still p there on m from low)).0

  -- a connection stands in the old run
  abbrev Stands : Connection → Type 0
  Stands connection = Between r u (λ m. m ≤ old.horizon → read_at answer old connection m ≡ read_at answer old connection r)

  stands : (connection : Connection) → Between r u (λ m. old_moves answer old new connection m ≡ false) → Stands connection
  stands connection still = λ m from low within. same_as (read_at answer old connection) old.horizon r u still m from low within

  waves : All (λ x. live x.name ≡ true → Stands (to_net x.name)) new.nets
  waves =
      All-from_get_or (λ x. live x.name ≡ true → Stands (to_net x.name)) new.nets blank_net
      (λ p there on.
      stands (to_net (net_at new p).name)
      (λ m from low. (or_parts (has_point (net_at new p).points m) (old_moves answer old new (to_net (net_at new p).name) m) (net_still p there on m from low)).1))

  -- a connection to a live net stands as the net does
  at_live : (connection : Connection) → IsThere new connection → is_at_live new (live_in front) connection ≡ true → Stands connection
  at_live (to_constant v) there on = absurd (cc)
  at_live (to_net name) there on =
      let n : NetEntry = there.0 in
      let facts = named_in new (λ x. live x.name ≡ true → Stands (to_net x.name)) name n waves there.1 in
      let same : n.name ≡ name = facts.1 in
      subst (λ (name : List ℕ). Stands (to_net name)) same (facts.0 (ap live same ∙ on))

  -- any other does where no input of the gate changes
  elsewhere : (p : ℕ) → p < length new.gates → live (gate_at new p).output ≡ true → (i : ℕ) (d : Connection) → i < length (gate_at new p).inputs →
      is_at_live new (live_in front) (slice_index_or (gate_at new p).inputs i d) ≡ false → Stands (slice_index_or (gate_at new p).inputs i d)
  elsewhere p there on i d within off =
      let connection = slice_index_or (gate_at new p).inputs i d in
      stands connection
      (λ m from low.
      let still : input_moves answer old new (live_in front) p m ≡ false =
      (or_parts (m == 0) (input_moves answer old new (live_in front) p m)
      (off_by (held_in front p) (m == 0 || input_moves answer old new (live_in front) p m) (gate_on p there on)
      (unannounced (wants_gate answer old new (live_in front) (held_in front)) (noted front.inputs) (suc r) p m u right.awaits.inputs (omega arith) low none.inputs))).1 in
      off_by (not (is_at_live new (live_in front) connection)) (old_moves answer old new connection m) (ap not off)
      (none_of (λ c. not (is_at_live new (live_in front) c) && old_moves answer old new c m) (gate_at new p).inputs i d still within))

  reads_at : (p : ℕ) → p < length new.gates → live (gate_at new p).output ≡ true → All Stands (gate_at new p).inputs
  reads_at p there on = λ i d within.
      let connection = slice_index_or (gate_at new p).inputs i d in
      either (is_at_live new (live_in front) connection)
      (at_live connection (inputs_there new is p blank_gate there i d within))
      (elsewhere p there on i d within)

  -- after r and before u nothing happens to what is live
  pub is_clear : u ≤ suc old.horizon → IsClear answer old new live r u
  is_clear within =
      record {
        within = λ name off. within;
        due = All-from_get_or (λ g. live g.output ≡ true → Between r u (λ m. is_due (state_before answer new (suc r) g) m ≡ false)) new.gates blank_gate due_at;
        points = All-from_get_or (λ x. live x.name ≡ true → Between r u (λ m. has_point x.points m ≡ false)) new.nets blank_net points_at;
        waves = waves;
        reads = All-from_get_or (λ g. live g.output ≡ true → All Stands g.inputs) new.gates blank_gate reads_at;
      }
