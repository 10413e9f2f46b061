-- At a moment only nets of which something happens change, and the gates that are looked at are those that are stirred.
use Rattle.std.proofs.Common.{◌≡◌, ◌≢◌, ◌<◌, ◌∙◌, sym, ap, subst, refl, Bool, true, false, not, cond, ℕ, zero, suc, ◌-◌, List, [], ◌∷◌, map, Option, Some, None, slice_get, All, AllPairs, arith}
use Rattle.std.specs.Prelude.{nat_eq, ◌||◌, ◌&&◌}
use Rattle.std.specs.Cmp.{both_ways}
use Rattle.std.specs.Cmp.Lexicographic.{same_text}
use Rattle.std.specs.List.{filter, find, list_any}
use Rattle.std.specs.Option.{option_map_or, option_map}
use Rattle.std.proofs.lemmas.List.Elements.{All-cons, All-nil}
use Rattle.std.proofs.lemmas.Option.{slice_get-map, slice_get_within, get_or_from_slice_get}
use Rattle.std.proofs.Math.Bool.{and-false, or_comm}
use Rattle.std.proofs.lemmas.Map.Keys.{any_passes_from_place}
use Rattle.std.proofs.lemmas.Bool.{false_from_ne_true}
use Rattle.fourstate.specs.declared.value.Value.{Value}
use Rattle.fourstate.specs.declared.value.Value.TheVariants.{Unknown}
use Rattle.fourstate.specs.Values.{same_value}
use Rattle.gatestep.specs.Step.{State, Evaluation, due}
use Rattle.gatestep.specs.Tasks.{PendingFrom}
use Rattle.design.specs.Connections.{Connection, to_net, to_constant}
use Rattle.design.specs.Names.{same_name}
use Rattle.design.specs.Netlist.{NetEntry, GateEntry, Netlist, drivers_of, has_point, is_at_net, net_named, reads}
use Rattle.design.proofs.ByNameLemmas.{all_at}
use Rattle.fourstate.specs.kept.ValueLaws.{same_self}
use Rattle.scratch.specs.kept.Places.{Announces, Covers, changes_at, drives_at, has, is_due_at, passing, pends_at, point_at, reads_at}
use Rattle.scratch.specs.Run.{state_before, terminal_at, value}
use Rattle.scratch.specs.Work.{is_due, is_stirred, same_values}
use Rattle.scratch.proofs.Among.{any_from, has_at, has_filter, nat_itself}
use Rattle.scratch.proofs.Passing.{has_place}
use Rattle.scratch.proofs.Skips.{is_due_now}
use Rattle.scratch.proofs.Still.{still_net}

passes_if : (a b : Bool) → (b ≡ true → a ≡ true) → (a && b) ≡ b
passes_if a true h = ap (λ (x : Bool). x && true) (h refl)
passes_if a false h = and-false a

pub same_self_name : (a : List ℕ) → same_name a a ≡ true
same_self_name [] = refl
same_self_name (x ∷ xs) = ap (λ (b : Bool). b && same_name xs xs) (nat_itself x) ∙ same_self_name xs

all_by : {X : Type 0} (p : X → Bool) (P : X → Type 0) (x : X) (xs : List X) (b : Bool) → p x ≡ b → ((k : ℕ) (z : X) → slice_get (x ∷ xs) k ≡ Some z → p z ≡ true → P z) → All P (filter p xs) → All P (cond b (x ∷ filter p xs) (filter p xs))
all_by p P x xs true is h rest = All-cons P x (filter p xs) (h 0 x refl is) rest
all_by p P x xs false is h rest = rest

pub all_of_filter : {X : Type 0} (p : X → Bool) (P : X → Type 0) (xs : List X) → ((k : ℕ) (x : X) → slice_get xs k ≡ Some x → p x ≡ true → P x) → All P (filter p xs)
all_of_filter p P [] h = All-nil P
all_of_filter p P (x ∷ xs) h = all_by p P x xs (p x) refl h (all_of_filter p P xs (λ k. h (suc k)))

differs_by : (a b c : Bool) → not b ≡ c → not (a && b) ≡ (not a || c)
differs_by true b c h = h
differs_by false b c h = refl

-- a list that differs from another one does so at an element
any_differs : {X : Type 0} (f h : X → Value) (xs : List X) → not (same_values (map f xs) (map h xs)) ≡ list_any (λ x. not (same_value (f x) (h x))) xs
any_differs f h [] = refl
any_differs f h (x ∷ xs) = differs_by (same_value (f x) (h x)) (same_values (map f xs) (map h xs)) (list_any (λ x. not (same_value (f x) (h x))) xs) (any_differs f h xs)

any_alike : {X : Type 0} (f h : X → Bool) → ((x : X) → f x ≡ h x) → (xs : List X) → list_any f xs ≡ list_any h xs
any_alike f h same [] = refl
any_alike f h same (x ∷ xs) = ap (λ (b : Bool). b || list_any f xs) (same x) ∙ ap (λ (b : Bool). h x || b) (any_alike f h same xs)

none_any : {X : Type 0} (f : X → Bool) → ((x : X) → f x ≡ false) → (xs : List X) → list_any f xs ≡ false
none_any f none [] = refl
none_any f none (x ∷ xs) = ap (λ (b : Bool). b || list_any f xs) (none x) ∙ none_any f none xs

-- Nets by their names.

find_by : (name : List ℕ) (n : NetEntry) (nets : List NetEntry) (m : NetEntry) (b : Bool) → same_name m.name name ≡ b → find (λ x. same_name x.name name) nets ≡ Some n → m.name ≢ name →
    cond b (Some m) (find (λ x. same_name x.name name) nets) ≡ Some n
find_by name n nets m true is rest other = absurd (other (same_text m.name name (sym is)))
find_by name n nets m false is rest other = rest

-- a net is found by its name
pub find_there : (nets : List NetEntry) (k : ℕ) (n : NetEntry) → AllPairs (λ n m. n.name ≢ m.name) nets → slice_get nets k ≡ Some n → find (λ x. same_name x.name n.name) nets ≡ Some n
find_there [] k n apart at = absurd (cc)
find_there (m ∷ nets) zero n apart at =
    let e : m ≡ n = cc in
    ap (λ (b : Bool). cond b (Some m) (find (λ x. same_name x.name n.name) nets)) (ap (λ x. same_name x.name n.name) e ∙ same_self_name n.name) ∙ ap (λ x. Some x) e
find_there (m ∷ nets) (suc k) n apart at =
    let within = slice_get_within nets k n at in
    let other : m.name ≢ n.name = subst (λ x. m.name ≢ x.name) (get_or_from_slice_get nets k n n at) (apart 0 (suc k) n (omega arith) (omega arith)) in
    find_by n.name n nets m (same_name m.name n.name) refl
    (find_there nets k n (λ i j d low high. apart (suc i) (suc j) d (omega arith) (omega arith)) at) other

found_at_by : (name : List ℕ) (n m : NetEntry) (nets : List NetEntry) (b : Bool) → same_name m.name name ≡ b → cond b (Some m) (find (λ x. same_name x.name name) nets) ≡ Some n →
    (find (λ x. same_name x.name name) nets ≡ Some n → (k : ℕ) × (slice_get nets k ≡ Some n) × (same_name n.name name ≡ true)) → (k : ℕ) × (slice_get (m ∷ nets) k ≡ Some n) × (same_name n.name name ≡ true)
found_at_by name n m nets true is at later = let e : m ≡ n = cc in (0, at, ap (λ x. same_name x.name name) (sym e) ∙ is)
found_at_by name n m nets false is at later = let f = later at in (suc f.0, f.1, f.2)

-- what is found by a name has a place
pub found_at : (name : List ℕ) (n : NetEntry) (nets : List NetEntry) → find (λ x. same_name x.name name) nets ≡ Some n → (k : ℕ) × (slice_get nets k ≡ Some n) × (same_name n.name name ≡ true)
found_at name n [] h = absurd (cc)
found_at name n (m ∷ nets) h = found_at_by name n m nets (same_name m.name name) refl h (found_at name n nets)

module _ (answer : Evaluation → ℕ → State) (d : Netlist) (t : ℕ) (begun : 0 < t) (states : List State) (are_states : states ≡ map (state_before answer d t) d.gates) where
  state_here : (k : ℕ) (g : GateEntry) → slice_get d.gates k ≡ Some g → slice_get states k ≡ Some (state_before answer d t g)
  state_here k g at = ap (λ l. slice_get l k) are_states ∙ slice_get-map (state_before answer d t) d.gates k ∙ ap (option_map (state_before answer d t)) at

  due_by : All (PendingFrom t) states → (k : ℕ) (o : Option State) → slice_get states k ≡ o → option_map_or (λ s. is_due s t) o false ≡ true → pends_at states k t ≡ true
  due_by ready k None at h = absurd (cc)
  due_by ready k (Some s) at h =
      ap (λ o. option_map_or (λ s. option_map_or (λ event. nat_eq event.1 t) s.pending false) o false) at ∙ is_due_now s t (all_at (PendingFrom t) states k s ready at) ∙ h

  -- the due gates
  pub due_is : (events : ℕ → List ℕ) → All (PendingFrom t) states → Covers (pends_at states) events t → (due : List ℕ) → due ≡ filter (λ k. is_due_at states k t) (events t) → (k : ℕ) → has k due ≡ is_due_at states k t
  due_is events ready covers due is k =
      ap (has k) is ∙ has_filter (λ k. is_due_at states k t) k (events t)
      ∙ passes_if (has k (events t)) (is_due_at states k t) (λ h. covers k t (omega arith) (due_by ready k (slice_get states k) refl h))

  still_at : (current : (e : Evaluation) (t : ℕ) → (answer e t).current ≡ (due e.state t).current) → (n : NetEntry) (u : ℕ) → 0 < u → has_point n.points u ≡ false →
      All (λ g. is_due (state_before answer d u g) u ≡ false) (drivers_of d n.name) → value answer d n u ≡ value answer d n (u - 1)
  still_at current n zero low point none = absurd (omega arith)
  still_at current n (suc v) low point none = let e : suc v - 1 ≡ v = omega arith in rw e (still_net answer d current n v point none)

  module _ (current : (e : Evaluation) (t : ℕ) → (answer e t).current ≡ (due e.state t).current)
      (points : ℕ → List ℕ) (announces : Announces (point_at d.nets) points t) (output : ℕ → ℕ → Bool) (drive : (k m : ℕ) → drives_at d k m ≡ true → output k m ≡ true)
      (gates : List ℕ) (due_gates : (k : ℕ) → has k gates ≡ is_due_at states k t) where
    keeps : (m : ℕ) (n : NetEntry) → slice_get d.nets m ≡ Some n → has m (points t) ≡ false → list_any (λ k. output k m) gates ≡ false → value answer d n t ≡ value answer d n (t - 1)
    keeps m n at undriven off =
        let no_point : has_point n.points t ≡ false = false_from_ne_true (has_point n.points t) (λ h.
        let there = announces m t (omega arith) (ap (λ o. option_map_or (λ n. has_point n.points t) o false) at ∙ h) in
        let from = there.1 in let to = there.2 in
        let same : there.0 ≡ t = omega arith in
        let never : false ≡ true = sym undriven ∙ ap (λ u. has m (points u)) (sym same) ∙ there.3 in cc) in
        let none : All (λ g. is_due (state_before answer d t g) t ≡ false) (drivers_of d n.name) =
        all_of_filter (λ g. same_name g.output n.name) (λ g. is_due (state_before answer d t g) t ≡ false) d.gates (λ k g here named.
        false_from_ne_true (is_due (state_before answer d t g) t) (λ h.
        let drives : drives_at d k m ≡ true = ap (λ o. option_map_or (λ n. option_map_or (λ g. same_name g.output n.name) (slice_get d.gates k) false) o false) at
        ∙ ap (λ o. option_map_or (λ g. same_name g.output n.name) o false) here ∙ named in
        let in_due : has k gates ≡ true = due_gates k ∙ ap (λ o. option_map_or (λ s. is_due s t) o false) (state_here k g here) ∙ h in
        let i = has_at k gates in_due in
        let any = any_passes_from_place (λ k. output k m) gates i.0 k i.1 (drive k m drives) in
        let never : false ≡ true = sym off ∙ any in cc)) in
        still_at current n t begun no_point none

    others_by : (m : ℕ) (o : Option NetEntry) → slice_get d.nets m ≡ o → has m (points t) ≡ false → list_any (λ k. output k m) gates ≡ false → option_map_or (λ n. not (same_value (value answer d n t) (value answer d n (t - 1)))) o false ≡ false
    others_by m None at undriven off = refl
    others_by m (Some n) at undriven off = ap (λ v. not (same_value v (value answer d n (t - 1)))) (keeps m n at undriven off) ∙ ap not (same_self (value answer d n (t - 1)))

    -- other nets keep their values
    pub others : (m : ℕ) → has m (points t) ≡ false → list_any (λ k. output k m) gates ≡ false → changes_at answer d m t ≡ false
    others m undriven off = others_by m (slice_get d.nets m) refl undriven off

  module _ (distinct : AllPairs (λ n m. n.name ≢ m.name) d.nets) where
    -- the value that an input reads has changed
    abbrev moved : Connection → Bool
    moved terminal = not (same_value (terminal_at d (state_before answer d t) terminal t) (terminal_at d (state_before answer d (t - 1)) terminal (t - 1)))

    moved_net : (name : List ℕ) (n : NetEntry) → net_named d name ≡ Some n → moved (to_net name) ≡ not (same_value (value answer d n t) (value answer d n (t - 1)))
    moved_net name n at = ap (λ o. not (same_value (option_map_or (λ n. value answer d n t) o Unknown) (option_map_or (λ n. value answer d n (t - 1)) o Unknown))) at

    module _ (k : ℕ) (g : GateEntry) (here : slice_get d.gates k ≡ Some g) (changed : List ℕ) (change : (m : ℕ) → has m changed ≡ changes_at answer d m t) where
      reads_here : (m : ℕ) (n : NetEntry) → slice_get d.nets m ≡ Some n → reads_at d k m ≡ reads g n.name
      reads_here m n at =
          ap (λ o. option_map_or (λ n. option_map_or (λ g. reads g n.name) (slice_get d.gates k) false) o false) at ∙ ap (λ o. option_map_or (λ g. reads g n.name) o false) here

      changes_here : (m : ℕ) (n : NetEntry) → slice_get d.nets m ≡ Some n → changes_at answer d m t ≡ not (same_value (value answer d n t) (value answer d n (t - 1)))
      changes_here m n at = ap (λ o. option_map_or (λ n. not (same_value (value answer d n t) (value answer d n (t - 1)))) o false) at

      one_reads : (i : ℕ) (terminal : Connection) (n : NetEntry) → slice_get g.inputs i ≡ Some terminal → is_at_net n.name terminal ≡ true → net_named d n.name ≡ Some n →
          not (same_value (value answer d n t) (value answer d n (t - 1))) ≡ true → list_any moved g.inputs ≡ true
      one_reads i (to_net name) n at named found differs =
          let same : name ≡ n.name = same_text name n.name (sym named) in
          any_passes_from_place moved g.inputs i (to_net name) at (moved_net name n (ap (net_named d) same ∙ found) ∙ differs)
      one_reads i (to_constant v) n at named found differs = absurd (cc)

      there_by : (m : ℕ) (o : Option NetEntry) → slice_get d.nets m ≡ o → has m changed ≡ true → reads_at d k m ≡ true → list_any moved g.inputs ≡ true
      there_by m None at on read = absurd (let e = ap (λ o. option_map_or (λ n. option_map_or (λ g. reads g n.name) (slice_get d.gates k) false) o false) (sym at) ∙ read in cc)
      there_by m (Some n) at on read =
          let f = any_from (is_at_net n.name) g.inputs (sym (reads_here m n at) ∙ read) in
          one_reads f.0 f.1 n f.2 f.3 (find_there d.nets m n distinct at) (sym (changes_here m n at) ∙ sym (change m) ∙ on)

      there : list_any (λ m. reads_at d k m) changed ≡ true → list_any moved g.inputs ≡ true
      there h = let f = any_from (λ m. reads_at d k m) changed h in there_by f.1 (slice_get d.nets f.1) refl (any_passes_from_place (nat_eq f.1) changed f.0 f.1 f.2 (nat_itself f.1)) f.3

      back_net : (i : ℕ) (name : List ℕ) (o : Option NetEntry) → net_named d name ≡ o → slice_get g.inputs i ≡ Some (to_net name) → moved (to_net name) ≡ true → list_any (λ m. reads_at d k m) changed ≡ true
      back_net i name None found at on =
          absurd (let e : false ≡ true = ap (λ o. not (same_value (option_map_or (λ n. value answer d n t) o Unknown) (option_map_or (λ n. value answer d n (t - 1)) o Unknown))) (sym found) ∙ on in cc)
      back_net i name (Some n) found at on =
          let f = found_at name n d.nets found in
          let same : n.name ≡ name = same_text n.name name (sym f.2) in
          let in_changed : has f.0 changed ≡ true = change f.0 ∙ changes_here f.0 n f.1 ∙ sym (moved_net name n found) ∙ on in
          let read : reads_at d k f.0 ≡ true = reads_here f.0 n f.1 ∙ any_passes_from_place (is_at_net n.name) g.inputs i (to_net name) at (ap (same_name name) same ∙ same_self_name name) in
          let j = has_at f.0 changed in_changed in
          any_passes_from_place (λ m. reads_at d k m) changed j.0 f.0 j.1 read

      back_by : (i : ℕ) (terminal : Connection) → slice_get g.inputs i ≡ Some terminal → moved terminal ≡ true → list_any (λ m. reads_at d k m) changed ≡ true
      back_by i (to_net name) at on = back_net i name (net_named d name) refl at on
      back_by i (to_constant v) at on = absurd (let e : false ≡ true = sym (ap not (same_self v)) ∙ on in cc)

      back : list_any moved g.inputs ≡ true → list_any (λ m. reads_at d k m) changed ≡ true
      back h = let f = any_from moved g.inputs h in back_by f.0 f.1 f.2 f.3

      some_moved : list_any (λ m. reads_at d k m) changed ≡ list_any moved g.inputs
      some_moved = both_ways (list_any (λ m. reads_at d k m) changed) (list_any moved g.inputs) there back

    stirred_by : (u : ℕ) → 0 < u → (g : GateEntry) →
        is_stirred answer d g u ≡ (list_any (λ x. not (same_value (terminal_at d (state_before answer d u) x u) (terminal_at d (state_before answer d (u - 1)) x (u - 1)))) g.inputs || is_due (state_before answer d u g) u)
    stirred_by zero low g = absurd (omega arith)
    stirred_by (suc v) low g =
        let e : suc v - 1 ≡ v = omega arith in
        rw e (ap (λ (b : Bool). b || is_due (state_before answer d (suc v) g) (suc v)) (any_differs (λ x. terminal_at d (state_before answer d (suc v)) x (suc v)) (λ x. terminal_at d (state_before answer d v) x v) g.inputs))

    no_gate : (k m : ℕ) (o : Option NetEntry) → slice_get d.gates k ≡ None → option_map_or (λ n. option_map_or (λ g. reads g n.name) (slice_get d.gates k) false) o false ≡ false
    no_gate k m None off = refl
    no_gate k m (Some n) off = ap (λ o. option_map_or (λ g. reads g n.name) o false) off

    looked_by : (k : ℕ) (o : Option GateEntry) → slice_get d.gates k ≡ o → (changed : List ℕ) → ((m : ℕ) → has m changed ≡ changes_at answer d m t) →
        (is_due_at states k t || list_any (λ m. reads_at d k m) changed) ≡ option_map_or (λ g. is_stirred answer d g t) o false
    looked_by k None at changed change =
        let no_state : is_due_at states k t ≡ false = ap (λ l. option_map_or (λ s. is_due s t) (slice_get l k) false) are_states
        ∙ ap (λ o. option_map_or (λ s. is_due s t) o false) (slice_get-map (state_before answer d t) d.gates k ∙ ap (option_map (state_before answer d t)) at) in
        ap (λ (b : Bool). b || list_any (λ m. reads_at d k m) changed) no_state ∙ none_any (λ m. reads_at d k m) (λ m. no_gate k m (slice_get d.nets m) at) changed
    looked_by k (Some g) at changed change =
        let state : is_due_at states k t ≡ is_due (state_before answer d t g) t = ap (λ o. option_map_or (λ s. is_due s t) o false) (state_here k g at) in
        ap (λ (b : Bool). b || list_any (λ m. reads_at d k m) changed) state
        ∙ ap (λ (b : Bool). is_due (state_before answer d t g) t || b) (some_moved k g at changed change)
        ∙ or_comm (is_due (state_before answer d t g) t) (list_any moved g.inputs) ∙ sym (stirred_by t begun g)

    -- those that are looked at are the stirred gates
    pub looked : (readers : ℕ → List ℕ) → ((k m : ℕ) → has k (readers m) ≡ reads_at d k m) → (changed : List ℕ) → ((m : ℕ) → has m changed ≡ changes_at answer d m t) → (due gates : List ℕ) →
        ((k : ℕ) → has k due ≡ is_due_at states k t) → ((k : ℕ) → has k gates ≡ (has k due || list_any (λ m. has k (readers m)) changed)) →
        (k : ℕ) → has k gates ≡ has k (passing (λ g. is_stirred answer d g t) 0 d.gates)
    looked readers read changed change due gates due_gates those k =
        those k ∙ ap (λ (b : Bool). b || list_any (λ m. has k (readers m)) changed) (due_gates k)
        ∙ ap (λ (b : Bool). is_due_at states k t || b) (any_alike (λ m. has k (readers m)) (λ m. reads_at d k m) (λ m. read k m) changed)
        ∙ looked_by k (slice_get d.gates k) refl changed change ∙ sym (has_place (λ g. is_stirred answer d g t) d.gates k)
