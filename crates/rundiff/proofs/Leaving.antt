-- A net that one gate alone drives, which was not dirty at the last moment, leaves what is live, and the gate what is held.
use Rattle.std.proofs.Common.{◌≡◌, ℕ, suc, ◌<◌, ◌≤◌, ◌∙◌, ap, sym, subst, List, [], ◌∷◌, Bool, true, false, cond, not, map, length, arith, All, ◌⊎◌, inl, inr, ⊎_elim}
use Rattle.std.specs.Prelude.{slice_index_or, nat_eq, ◌==◌, ◌||◌, ◌&&◌}
use Rattle.std.specs.List.{list_any}
use Rattle.std.proofs.lemmas.List.Elements.{All-from_get_or}
use Rattle.std.proofs.lemmas.Bool.{or_right, eqb-true, and_from, and_parts, false_from_ne_true}
use Rattle.std.proofs.Math.Bool.{or-false}
use Rattle.std.proofs.lemmas.List.{get_or-map, get_or_default}
use Rattle.std.proofs.lemmas.Map.Keys.{any_passes_from_place}
use Rattle.fourstate.specs.declared.value.Value.{Value}
use Rattle.gatestep.specs.Step.{State, Evaluation}
use Rattle.design.specs.Connections.{Connection, to_net, to_constant}
use Rattle.design.specs.kept.Lawful.{IsDesign}
use Rattle.design.specs.Names.{same_name}
use Rattle.design.specs.Netlist.{GateEntry, Netlist, is_at_net, reads}
use Rattle.design.specs.kept.Places.{driver_places}
use Rattle.design.proofs.NameLemmas.{name_is}
use Rattle.waveform.specs.kept.Patches.{PatchRecord}
use Rattle.scratch.specs.kept.Places.{IsNotedWithin, Keeps}
use Rattle.scratch.specs.Run.{state_before, value}
use Rattle.scratch.proofs.Stirred.{same_self_name}
use Rattle.scratch.proofs.Among.{any_from, nat_itself}
use Rattle.scratch.proofs.Keyed.{same_test}
use Rattle.scratch.proofs.Notes.{within_on}
use Rattle.scratch.proofs.Driven.{either}
use Rattle.rundiff.specs.Dirty.{is_dirty}
use Rattle.rundiff.specs.kept.Fronts.{AreDrivers, AreLive}
use Rattle.rundiff.specs.kept.Kept.{Agrees, IsClosed, IsSameNet, read_at}
use Rattle.rundiff.specs.kept.Noting.{IsNoted, input_moves, is_at_live, net_moves, old_moves, pends}
use Rattle.rundiff.specs.declared.place_map.PlaceMap.{PlaceMap}
use Rattle.rundiff.specs.kept.Places.{blank_gate, blank_net, gate_at, is_among, is_live, net_at}
use Rattle.rundiff.proofs.Alike.{both_more, off_shrinks}
use Rattle.rundiff.proofs.ByPlace.{live_at}
use Rattle.rundiff.proofs.Clean.{clean_after, clean_task, same_net}
use Rattle.rundiff.proofs.Lists.{filter_where}
use Rattle.rundiff.proofs.Readers.{driver_at, live_more}
use Rattle.rundiff.proofs.Wired.{reads_net}
use Rattle.rundiff.proofs.Noted.{not_first}

-- a list of one place has one place
lone : (xs : List ℕ) (a b : ℕ) → length xs ≡ 1 → is_among xs a ≡ true → is_among xs b ≡ true → a ≡ b
lone [] a b one on too = absurd (cc)
lone (x ∷ []) a b one on too =
    let first = eqb-true x a (sym (or-false (x == a)) ∙ on) in
    let second = eqb-true x b (sym (or-false (x == b)) ∙ too) in sym first ∙ second
lone (x ∷ y ∷ xs) a b one on too = absurd (omega arith)

-- lists of values that are the same are so one by one
one_by_one : {X : Type 0} (f h : X → Value) (xs : List X) → map f xs ≡ map h xs → All (λ x. f x ≡ h x) xs
one_by_one f h xs e = λ i d low. sym (get_or-map f xs i d (f d) low) ∙ ap (λ (l : List Value). slice_index_or l i (f d)) e ∙ get_or-map h xs i d (f d) low

-- a place that is taken away
smaller : (same more less : Bool) → less ≡ cond same false more → less ≡ true → more ≡ true
smaller true more less is on = let no : false ≡ true = sym is ∙ on in absurd (cc)
smaller false more less is on = sym is ∙ on

pub taken_off : (place : ℕ) (more less : ℕ → Bool) → ((r : ℕ) → less r ≡ cond (r == place) false (more r)) → (r : ℕ) → nat_eq place r ≡ true → less r ≡ false
taken_off place more less law r same = law r ∙ ap (λ (b : Bool). cond b false (more r)) (same_test r place ∙ same)

pub stays_off : (place : ℕ) (more less : ℕ → Bool) → ((r : ℕ) → less r ≡ cond (r == place) false (more r)) → (r : ℕ) → nat_eq place r ≡ false → less r ≡ false → more r ≡ false
stays_off place more less law r apart off = sym (law r ∙ ap (λ (b : Bool). cond b false (more r)) (same_test r place ∙ apart)) ∙ off

-- what holds of what is live once they have left
pub record AreLeft (answer : Evaluation → ℕ → State) (old new : Netlist) (live later held kept fixed : ℕ → Bool) (n : ℕ) : Type 0 where
  pub drivers : AreDrivers new later kept
  pub fixed_live : (r : ℕ) → fixed r ≡ true → later r ≡ true
  pub closed : IsClosed old new (is_live new later)
  pub agrees : Agrees answer old new (is_live new later) n
  pub was_live : (r : ℕ) → later r ≡ true → live r ≡ true
  pub was_held : (r : ℕ) → kept r ≡ true → held r ≡ true

module _ (answer : Evaluation → ℕ → State) (old new : Netlist) (is : IsDesign new) (t p q : ℕ) (low : p < length new.nets) (there : q < length new.gates)
    (clean : is_dirty answer old new (gate_at new q) t ≡ false) (output : (gate_at new q).output ≡ (net_at new p).name) (alone : length (driver_places new.gates (net_at new p).name) ≡ 1)
    (live later held kept fixed : ℕ → Bool) (gone : (r : ℕ) → later r ≡ cond (r == p) false (live r)) (freed : (r : ℕ) → kept r ≡ cond (r == q) false (held r))
    (lives : live p ≡ true) (unfixed : fixed p ≡ false) (patches : PlaceMap (PatchRecord Value)) (right : AreLive answer old new live held fixed patches (suc t)) where
  abbrev name : List ℕ
  name = (net_at new p).name

  was_live : (r : ℕ) → later r ≡ true → live r ≡ true
  was_live r on = smaller (r == p) (live r) (later r) (gone r) on

  was_held : (r : ℕ) → kept r ≡ true → held r ≡ true
  was_held r on = smaller (r == q) (held r) (kept r) (freed r) on

  adds : (r : ℕ) → live r ≡ (r == p || later r)
  adds r =
      either (r == p)
      (λ same. rw same (ap live (eqb-true r p same) ∙ lives))
      (λ apart. rw apart (sym (gone r ∙ ap (λ (b : Bool). cond b false (live r)) apart)))

  names : (out : List ℕ) → is_live new live out ≡ (same_name out name || is_live new later out)
  names out = live_more new is.distinct_nets p low later live adds out

  p_off : is_live new later name ≡ false
  p_off = live_at new later p is.distinct_nets low ∙ gone p ∙ ap (λ (b : Bool). cond b false (live p)) (nat_itself p)

  -- a net that is not live now was not live before, or it is the one that left
  off_or : (out : List ℕ) → is_live new later out ≡ false → (is_live new live out ≡ false) ⊎ (out ≡ name)
  off_or out off =
      either (same_name out name)
      (λ same. inr (name_is out name same))
      (λ apart. inl (names out ∙ ap (λ (b : Bool). b || is_live new later out) apart ∙ off))

  -- the net has no other driver
  only : (r : ℕ) → r < length new.gates → (gate_at new r).output ≡ name → r ≡ q
  only r within drives =
      let by : (k : ℕ) → k < length new.gates → (gate_at new k).output ≡ name → is_among (driver_places new.gates name) k ≡ true =
      λ k inside at. driver_at new name k inside ∙ ap (λ (m : List ℕ). same_name m name) at ∙ same_self_name name in
      lone (driver_places new.gates name) r q alone (by r within drives) (by q there output)

  other_output : (r : ℕ) → r < length new.gates → (r == q) ≡ false → same_name (gate_at new r).output name ≡ false
  other_output r within apart =
      false_from_ne_true (same_name (gate_at new r).output name) (λ same.
      let e : r ≡ q = only r within (name_is (gate_at new r).output name same) in
      let no : true ≡ false = sym (nat_itself q) ∙ ap (λ (k : ℕ). k == q) (sym e) ∙ apart in cc)

  drivers_now : AreDrivers new later kept
  drivers_now =
      record {
        nets = λ r on. right.drivers.nets r (was_live r on);
        gates = λ r on. right.drivers.gates r (was_held r on);
        drivers = λ r within.
            either (r == q)
            (λ same.
            let e = eqb-true r q same in
            freed r ∙ ap (λ (b : Bool). cond b false (held r)) same ∙ sym (ap (λ (k : ℕ). is_live new later (gate_at new k).output) e ∙ ap (is_live new later) output ∙ p_off))
            (λ apart.
            freed r ∙ ap (λ (b : Bool). cond b false (held r)) apart ∙ right.drivers.drivers r within ∙ names (gate_at new r).output
            ∙ ap (λ (b : Bool). b || is_live new later (gate_at new r).output) (other_output r within apart));
      }

  fixed_later : (r : ℕ) → fixed r ≡ true → later r ≡ true
  fixed_later r on =
      let apart : (r == p) ≡ false = false_from_ne_true (r == p) (λ same. let no : true ≡ false = sym on ∙ ap fixed (eqb-true r p same) ∙ unfixed in cc) in
      gone r ∙ ap (λ (b : Bool). cond b false (live r)) apart ∙ right.fixed_live r on

  closed_now : IsClosed old new (is_live new later)
  closed_now =
      record {
        gates = λ k d within off. right.base.gates k d within (off_shrinks new fixed later fixed_later (slice_index_or new.gates k d).output off);
        nets = λ k d within off. right.base.nets k d within (off_shrinks new fixed later fixed_later (slice_index_or new.nets k d).name off);
      }

  -- the gate that drives the net
  the_gate : (P : GateEntry → Type 0) → P (gate_at new q) → (k : ℕ) (d : GateEntry) → k < length new.gates → (slice_index_or new.gates k d).output ≡ name → P (slice_index_or new.gates k d)
  the_gate P holds k d within drives =
      let same : slice_index_or new.gates k d ≡ gate_at new k = get_or_default new.gates k d blank_gate within in
      let e : k ≡ q = only k within (ap (λ (g : GateEntry). g.output) (sym same) ∙ drives) in
      subst P (sym (same ∙ ap (gate_at new) e)) holds

  same_before : state_before answer old t (gate_at new q) ≡ state_before answer new t (gate_at new q)
  same_before = ap (λ (e : Evaluation). e.state) (clean_task answer old new (gate_at new q) t clean)

  same_inputs : All (λ connection. read_at answer old connection t ≡ read_at answer new connection t) (gate_at new q).inputs
  same_inputs =
      one_by_one (λ c. read_at answer old c t) (λ c. read_at answer new c t) (gate_at new q).inputs
      (ap (λ (e : Evaluation). e.inputs) (clean_task answer old new (gate_at new q) t clean))

  same_value_now : read_at answer old (to_net name) t ≡ value answer new (net_at new p) t
  same_value_now =
      let n = net_at new p in
      let same : IsSameNet old new n = right.base.nets p blank_net low (live_at new fixed p is.distinct_nets low ∙ unfixed) in
      let P : GateEntry → Type 0 = λ g. state_before answer old t g ≡ state_before answer new t g in
      let states : All P _ = filter_where (λ g. same_name g.output name) P new.gates
      (λ k d within at. the_gate P same_before k d within (name_is (slice_index_or new.gates k d).output name at)) in
      reads_net answer old name n t same.net ∙ same_net answer old new n t same.drivers states

  agrees_now : Agrees answer old new (is_live new later) (suc t)
  agrees_now =
      record {
        states = λ k d within off.
            ⊎_elim (λ was. right.agrees.states k d within was)
            (λ drives. the_gate (λ g. state_before answer old (suc t) g ≡ state_before answer new (suc t) g) (clean_after answer old new (gate_at new q) t clean) k d within drives)
            (off_or (slice_index_or new.gates k d).output off);
        inputs = λ k d within off.
            ⊎_elim (λ was. right.agrees.inputs k d within was)
            (λ drives. the_gate (λ g. All (λ connection. read_at answer old connection t ≡ read_at answer new connection t) g.inputs) same_inputs k d within drives)
            (off_or (slice_index_or new.gates k d).output off);
        nets = All-from_get_or (λ x. is_live new later x.name ≡ false → read_at answer old (to_net x.name) t ≡ value answer new x t) new.nets blank_net (λ k within off.
            either (k == p)
            (λ here. subst (λ (r : ℕ). read_at answer old (to_net (net_at new r).name) t ≡ value answer new (net_at new r) t) (sym (eqb-true k p here)) same_value_now)
            (λ apart.
            let stays : later k ≡ live k = gone k ∙ ap (λ (b : Bool). cond b false (live k)) apart in
            right.agrees.nets k blank_net within (live_at new live k is.distinct_nets within ∙ sym stays ∙ sym (live_at new later k is.distinct_nets within) ∙ off)));
      }

  pub left_now : AreLeft answer old new live later held kept fixed (suc t)
  left_now = record { drivers = drivers_now; fixed_live = fixed_later; closed = closed_now; agrees = agrees_now; was_live = was_live; was_held = was_held }

  -- What is noted.

  module _ (events inputs nets after : ℕ → List ℕ) (keeps : Keeps inputs after) (early : (u : ℕ) → u ≤ t → after u ≡ inputs u)
      (next : (r u : ℕ) → r < length new.gates → reads (gate_at new r) name ≡ true → t < u → old_moves answer old new (to_net name) u ≡ true → IsNotedWithin after r (suc t) u)
      (before : IsNoted answer old new live held held (suc t) events inputs nets (suc t)) where
    abbrev test : (ℕ → Bool) → ℕ → Connection → Bool
    test at u c = not (is_at_live new at c) && old_moves answer old new c u

    -- an input that moves moved before, or it reads the net that left
    one : (u : ℕ) (c : Connection) → test later u c ≡ true → (test live u c ≡ true) ⊎ ((is_at_net name c ≡ true) × (old_moves answer old new (to_net name) u ≡ true))
    one u (to_constant v) h = inl h
    one u (to_net m) h =
        either (same_name m name)
        (λ same.
        inr (same, ap (λ (k : List ℕ). old_moves answer old new (to_net k) u) (sym (name_is m name same)) ∙ (and_parts (not (is_live new later m)) (old_moves answer old new (to_net m) u) h).1))
        (λ apart.
        inl (ap (λ (b : Bool). not b && old_moves answer old new (to_net m) u) (names m ∙ ap (λ (b : Bool). b || is_live new later m) apart) ∙ h))

    split : (u : ℕ) (cs : List Connection) → list_any (test later u) cs ≡ true → (list_any (test live u) cs ≡ true) ⊎ ((list_any (is_at_net name) cs ≡ true) × (old_moves answer old new (to_net name) u ≡ true))
    split u cs on =
        let f = any_from (test later u) cs on in
        ⊎_elim (λ was. inl (any_passes_from_place (test live u) cs f.0 f.1 f.2 was)) (λ at. inr (any_passes_from_place (is_at_net name) cs f.0 f.1 f.2 at.0, at.1)) (one u f.1 f.3)

    pub noted_less : IsNoted answer old new later kept kept (suc t) events after nets (suc t)
    noted_less =
        record {
          events = λ r u late h. before.events r u late (both_more (kept r) (held r) (pends (state_before answer new (suc t) (gate_at new r)) u) (was_held r) h);
          inputs = λ r u late h.
              let moves = input_moves answer old new later r u in
              let moved = input_moves answer old new live r u in
              let parts = and_parts (kept r) (u == 0 || moves) h in
              ⊎_elim
              (λ was. within_on inputs after r (suc t) u keeps (before.inputs r u late (and_from (held r) (u == 0 || moved) (was_held r parts.0) (or_right (u == 0) moved was))))
              (λ at. next r u (right.drivers.gates r (was_held r parts.0)) at.0 late at.1)
              (split u (gate_at new r).inputs (not_first t u moves late parts.1));
          nets = λ r u late h. before.nets r u late (both_more (later r) (live r) (u == 0 || net_moves answer old new r u) (was_live r) h);
          no_early_event = before.no_early_event;
          no_early_input = λ u under. early u (omega arith) ∙ before.no_early_input u under;
          no_early_net = before.no_early_net;
        }
