-- Tallies of drivers: one driver more, and another value of one driver.
use Rattle.std.proofs.Common.{◌≡◌, ◌<◌, ◌≤◌, ◌∙◌, sym, ap, subst, refl, Bool, true, false, cond, ℕ, zero, suc, ◌+◌, ◌-◌, ◌^◌, List, [], ◌∷◌, ◌++◌, map, take, length, Option, Some, None, slice_get, unwrap_or, add-one, zero-add, arith}
use Rattle.std.specs.Prelude.{nat_eq, nat_lt, ◌||◌, count_by, if◌then◌else◌}
use Rattle.std.specs.List.{enumerate_from, filter}
use Rattle.std.specs.Option.{option_map, option_map_or}
use Rattle.std.proofs.Math.ListN.{set}
use Rattle.std.proofs.lemmas.Bool.Decides.{nat_tests}
use Rattle.std.proofs.lemmas.List.{length-map, length-take-le, map-append}
use Rattle.std.proofs.lemmas.List.Sums.{count_by-le-length, length-filter, sum_by-append, sum_by-cons}
use Rattle.std.proofs.lemmas.Option.{slice_get-map, slice_get_within}
use Rattle.std.proofs.lemmas.Bool.{eqb-true, false_from_ne_true, or_parts}
use Rattle.std.proofs.Math.Bool.{or-false}
use Rattle.std.proofs.lemmas.List.FromFn.{length-enumerate_from}
use Rattle.fourstate.specs.declared.net.NetKind.{NetKind}
use Rattle.fourstate.specs.declared.net.NetRule.{NetRule}
use Rattle.fourstate.specs.declared.value.Value.{Value}
use Rattle.fourstate.specs.declared.value.Value.TheVariants.{HighZ, One, Unknown, Zero}
use Rattle.fourstate.specs.Nets.{net_of, resolved, rule_of}
use Rattle.fourstate.specs.Values.{occurs, same_value}
use Rattle.gatestep.specs.Step.{State, Evaluation, due}
use Rattle.design.specs.Names.{same_name}
use Rattle.design.specs.Netlist.{GateEntry, NetEntry, Netlist}
use Rattle.design.specs.kept.Places.{driver_places}
use Rattle.scratch.specs.kept.Kept.{currents_of, output_at, places_at, values_at}
use Rattle.scratch.specs.kept.Places.{AreRising, drives_at, has, is_due_at}
use Rattle.scratch.specs.Run.{state_before}
use Rattle.scratch.specs.kept.Tallies.{AreTallies, Counts}
use Rattle.scratch.specs.kept.Tally.{tally_of, times}
use Rattle.scratch.specs.Work.{is_due, task_at}
use Rattle.scratch.specs.declared.tallies.Tallies.{Tallies}
use Rattle.scratch.specs.declared.tally.Tally.{Tally}
use Rattle.smallvec.specs.SmallVec.{SmallVec}
use Rattle.scratch.proofs.Among.{absent, nat_itself}
use Rattle.scratch.proofs.Between.{set_apart, set_here}
use Rattle.scratch.proofs.Lists.{map_alike, take_next}
use Rattle.scratch.proofs.Moments.{map_twice}
use Rattle.scratch.proofs.Passing.{has_place, passing_rises}
use Rattle.scratch.proofs.Still.{none_due}

-- the value of a driver
abbrev pub at : List Value → ℕ → Value
at values k = unwrap_or (slice_get values k) Unknown

-- how many drivers at some places give a value
abbrev pub givers : Value → List Value → List ℕ → ℕ
givers v values places = count_by (same_value v) (values_at values places)

-- the first driver before the others
giver_first : (v : Value) (values : List Value) (q : ℕ) (qs : List ℕ) → givers v values (q ∷ qs) ≡ times v (at values q) + givers v values qs
giver_first v values q qs = sum_by-cons (λ x. cond (same_value v x) 1 0) (at values q) (values_at values qs)

-- one driver more
pub one_giver_more : (v : Value) (values : List Value) (places : List ℕ) (i p : ℕ) → slice_get places i ≡ Some p →
    givers v values (take (i + 1) places) ≡ givers v values (take i places) + times v (at values p)
one_giver_more v values places i p there =
    let more : values_at values (take (i + 1) places) ≡ values_at values (take i places) ++ at values p ∷ [] =
    ap (values_at values) (take_next places i p there) ∙ map-append (at values) (take i places) (p ∷ []) in
    let zero_more : times v (at values p) + 0 ≡ times v (at values p) = omega arith in
    let last : count_by (same_value v) (at values p ∷ []) ≡ times v (at values p) = sum_by-cons (λ x. cond (same_value v x) 1 0) (at values p) [] ∙ zero_more in
    ap (count_by (same_value v)) more
    ∙ sum_by-append (λ x. cond (same_value v x) 1 0) (values_at values (take i places)) (at values p ∷ [])
    ∙ ap (λ n. givers v values (take i places) + n) last

-- no more drivers give a value than there are
pub at_most : (v : Value) (values : List Value) (places : List ℕ) → givers v values places ≤ length places
at_most v values places =
    let few = count_by-le-length (same_value v) (values_at values places) in
    let same = length-map places (at values) in
    omega (arith, few, same)

-- so one more can be counted
pub room : (v : Value) (values : List Value) (places : List ℕ) (i p : ℕ) → slice_get places i ≡ Some p → length places < 2 ^ 64 →
    givers v values (take i places) + times v (at values p) < 2 ^ 64
room v values places i p there fits =
    let more = one_giver_more v values places i p there in
    let most = at_most v values (take (i + 1) places) in
    let within = slice_get_within places i p there in
    let few : length (take (i + 1) places) ≡ i + 1 = length-take-le (i + 1) places (omega arith) in
    omega (arith, more, most, few, within)

-- a tally to which a driver is added
pub added : (values : List Value) (places : List ℕ) (i p : ℕ) → slice_get places i ≡ Some p → (old new : Tally) (value : Value) → value ≡ at values p → old ≡ tally_of (values_at values (take i places)) →
    new.zeros ≡ old.zeros + times Zero value → new.ones ≡ old.ones + times One value → new.unknowns ≡ old.unknowns + times Unknown value → new ≡ tally_of (values_at values (take (i + 1) places))
added values places i p there old new value is before zeros ones unknowns =
    let z : new.zeros ≡ givers Zero values (take (i + 1) places) =
    zeros ∙ ap (λ (t : Tally). t.zeros + times Zero value) before ∙ ap (λ x. givers Zero values (take i places) + times Zero x) is ∙ sym (one_giver_more Zero values places i p there) in
    let o : new.ones ≡ givers One values (take (i + 1) places) =
    ones ∙ ap (λ (t : Tally). t.ones + times One value) before ∙ ap (λ x. givers One values (take i places) + times One x) is ∙ sym (one_giver_more One values places i p there) in
    let x : new.unknowns ≡ givers Unknown values (take (i + 1) places) =
    unknowns ∙ ap (λ (t : Tally). t.unknowns + times Unknown value) before ∙ ap (λ x. givers Unknown values (take i places) + times Unknown x) is ∙ sym (one_giver_more Unknown values places i p there) in
    λ j. record { zeros = z j; ones = o j; unknowns = x j }

pub few_drivers : (gates : List GateEntry) (name : List ℕ) → length (driver_places gates name) ≤ length gates
few_drivers gates name =
    let pairs = enumerate_from 0 gates in
    let a = length-map (filter (λ p. same_name p.1.output name) pairs) (λ p. p.0) in
    let b = length-filter (λ p. same_name p.1.output name) pairs in
    let c = count_by-le-length (λ p. same_name p.1.output name) pairs in
    let e = length-enumerate_from 0 gates in
    omega (arith, a, b, c, e)

swapped : (k q : ℕ) → nat_eq k q ≡ false → nat_eq q k ≡ false
swapped k q h = grind (arith, nat_tests)

module _ (values : List Value) (k : ℕ) (next : Value) where
  elsewhere : (q : ℕ) → nat_eq k q ≡ false → at (set values k next) q ≡ at values q
  elsewhere q other = ap (λ o. unwrap_or o Unknown) (set_apart values k q next (swapped k q other))

  -- drivers without that one give what they gave
  pub apart : (places : List ℕ) → has k places ≡ false → values_at (set values k next) places ≡ values_at values places
  apart [] off = refl
  apart (q ∷ qs) off =
      let parts = or_parts (nat_eq k q) (has k qs) off in
      ap (λ x. x ∷ values_at (set values k next) qs) (elsewhere q parts.0) ∙ ap (λ l. at values q ∷ l) (apart qs parts.1)

  module _ (former : Value) (there : slice_get values k ≡ Some former) where
    was : (q : ℕ) → k ≡ q → at values q ≡ former
    was q e = ap (at values) (sym e) ∙ ap (λ o. unwrap_or o Unknown) there

    is : (q : ℕ) → k ≡ q → at (set values k next) q ≡ next
    is q e = ap (at (set values k next)) (sym e) ∙ ap (λ o. unwrap_or o Unknown) (set_here values k next (slice_get_within values k former there))

    exchanged_by : (v : Value) (q : ℕ) (qs : List ℕ) (b : Bool) → nat_eq k q ≡ b → AreRising (suc q) qs → (b || has k qs) ≡ true →
        (has k qs ≡ true → givers v (set values k next) qs + times v former ≡ givers v values qs + times v next) →
        givers v (set values k next) (q ∷ qs) + times v former ≡ givers v values (q ∷ qs) + times v next
    exchanged_by v q qs true e rising on later =
        let same = eqb-true k q e in
        let off : has k qs ≡ false = absent k (suc q) qs rising (omega (arith, same)) in
        let now : givers v (set values k next) (q ∷ qs) ≡ times v next + givers v values qs =
        giver_first v (set values k next) q qs ∙ ap (λ x. times v x + givers v (set values k next) qs) (is q same) ∙ ap (λ l. times v next + count_by (same_value v) l) (apart qs off) in
        let before : givers v values (q ∷ qs) ≡ times v former + givers v values qs = giver_first v values q qs ∙ ap (λ x. times v x + givers v values qs) (was q same) in
        omega (arith, now, before)
    exchanged_by v q qs false e rising on later =
        let now : givers v (set values k next) (q ∷ qs) ≡ times v (at values q) + givers v (set values k next) qs =
        giver_first v (set values k next) q qs ∙ ap (λ x. times v x + givers v (set values k next) qs) (elsewhere q e) in
        let before : givers v values (q ∷ qs) ≡ times v (at values q) + givers v values qs = giver_first v values q qs in
        omega (arith, now, before, later on)

    -- one of the drivers gives another value
    pub exchanged : (v : Value) (a : ℕ) (places : List ℕ) → AreRising a places → has k places ≡ true →
        givers v (set values k next) places + times v former ≡ givers v values places + times v next
    exchanged v a [] rising on = absurd (cc)
    exchanged v a (q ∷ qs) rising on = exchanged_by v q qs (nat_eq k q) refl rising.1 on (exchanged v (suc q) qs rising.1)

    counted_by : (v : Value) (q : ℕ) (qs : List ℕ) (b : Bool) → nat_eq k q ≡ b → (b || has k qs) ≡ true → (has k qs ≡ true → times v former ≤ givers v values qs) →
        times v former ≤ givers v values (q ∷ qs)
    counted_by v q qs true e on later =
        let before : givers v values (q ∷ qs) ≡ times v former + givers v values qs = giver_first v values q qs ∙ ap (λ x. times v x + givers v values qs) (was q (eqb-true k q e)) in
        omega (arith, before)
    counted_by v q qs false e on later =
        let before : givers v values (q ∷ qs) ≡ times v (at values q) + givers v values qs = giver_first v values q qs in
        omega (arith, before, later on)

    -- what one of the drivers gives is counted
    pub counted : (v : Value) (places : List ℕ) → has k places ≡ true → times v former ≤ givers v values places
    counted v [] on = absurd (cc)
    counted v (q ∷ qs) on = counted_by v q qs (nat_eq k q) refl on (counted v qs)

net_by : (d : Netlist) (k : ℕ) (o : Option NetEntry) → option_map_or (λ n. option_map_or (λ g. same_name g.output n.name) (slice_get d.gates k) false) o false ≡ true → (n : NetEntry) × (o ≡ Some n)
net_by d k None h = absurd (cc)
net_by d k (Some n) h = (n, refl)

-- the drivers of a net are the gates that drive it
drives_is : (d : Netlist) (k m : ℕ) (n : NetEntry) → slice_get d.nets m ≡ Some n → drives_at d k m ≡ has k (driver_places d.gates n.name)
drives_is d k m n net =
    ap (λ o. option_map_or (λ n. option_map_or (λ g. same_name g.output n.name) (slice_get d.gates k) false) o false) net
    ∙ sym (has_place (λ g. same_name g.output n.name) d.gates k)

module _ (d : Netlist) (outputs : List ℕ)
    (drives : (k m : ℕ) → drives_at d k m ≡ true → has m (output_at outputs k) ≡ true) (driven : (k m : ℕ) → has m (output_at outputs k) ≡ true → drives_at d k m ≡ true)
    (nets : List (Option Tally)) (values : List Value) (are : AreTallies d nets values) (k : ℕ) (next : Value) where
  no_driver : (m : ℕ) (n : NetEntry) → slice_get d.nets m ≡ Some n → has m (output_at outputs k) ≡ false → has k (driver_places d.gates n.name) ≡ false
  no_driver m n net off =
      false_from_ne_true (has k (driver_places d.gates n.name)) (λ h.
      let there = drives k m (drives_is d k m n net ∙ h) in
      let never : false ≡ true = sym off ∙ there in cc)

  kept : (m : ℕ) (tally : Tally) (n : NetEntry) → slice_get nets m ≡ Some (Some tally) → slice_get d.nets m ≡ Some n → has m (output_at outputs k) ≡ false →
      tally ≡ tally_of (values_at (set values k next) (driver_places d.gates n.name))
  kept m tally n there net off =
      are m tally n there net ∙ ap tally_of (sym (apart values k next (driver_places d.gates n.name) (no_driver m n net off)))

  -- where the net that a gate drives has no tally all tallies stay
  pub all_kept : ((m : ℕ) (tally : Tally) → slice_get nets m ≡ Some (Some tally) → has m (output_at outputs k) ≡ false) → AreTallies d nets (set values k next)
  all_kept off m tally n there net = kept m tally n there net (off m tally there)

  module _ (former : Value) (there : slice_get values k ≡ Some former) (o : ℕ) (output : slice_get outputs k ≡ Some o) (tally : Tally) (here : slice_get nets o ≡ Some (Some tally)) where
    drives_it : drives_at d k o ≡ true
    drives_it = driven k o (ap (λ w. has o (option_map_or (λ m. m ∷ []) w [])) output ∙ ap (λ (b : Bool). b || false) (nat_itself o))

    -- the net and its drivers
    pub its_net : NetEntry
    its_net = (net_by d k (slice_get d.nets o) drives_it).0

    pub net_at_output : slice_get d.nets o ≡ Some its_net
    unfolding its_net
    net_at_output = (net_by d k (slice_get d.nets o) drives_it).1

    abbrev places : List ℕ
    places = driver_places d.gates its_net.name

    among : has k places ≡ true
    among = sym (drives_is d k o its_net net_at_output) ∙ drives_it

    -- the former value is counted
    pub can_remove : (v : Value) → times v former ≤ givers v values places
    can_remove v = counted values k next former there v places among

    changes_to : (v : Value) → givers v values places - times v former + times v next ≡ givers v (set values k next) places
    changes_to v =
        let low = can_remove v in
        let moved = exchanged values k next former there v 0 places (passing_rises (λ g. same_name g.output its_net.name) 0 d.gates) among in
        omega (arith, low, moved)

    -- and the next one can be
    pub can_add : length d.gates < 2 ^ 64 → (v : Value) → givers v values places - times v former + times v next < 2 ^ 64
    can_add fits v =
        let now = changes_to v in let most = at_most v (set values k next) places in let few = few_drivers d.gates its_net.name in
        omega (arith, now, most, few)

    pub is_tally : tally ≡ tally_of (values_at values places)
    is_tally = are o tally its_net here net_at_output

    pub zeros_low : times Zero former ≤ tally.zeros
    zeros_low = rw (ap (λ (t : Tally). t.zeros) is_tally) (can_remove Zero)

    pub ones_low : times One former ≤ tally.ones
    ones_low = rw (ap (λ (t : Tally). t.ones) is_tally) (can_remove One)

    pub unknowns_low : times Unknown former ≤ tally.unknowns
    unknowns_low = rw (ap (λ (t : Tally). t.unknowns) is_tally) (can_remove Unknown)

    pub zeros_fit : length d.gates < 2 ^ 64 → tally.zeros - times Zero former + times Zero next < 2 ^ 64
    zeros_fit fits = rw (ap (λ (t : Tally). t.zeros) is_tally) (can_add fits Zero)

    pub ones_fit : length d.gates < 2 ^ 64 → tally.ones - times One former + times One next < 2 ^ 64
    ones_fit fits = rw (ap (λ (t : Tally). t.ones) is_tally) (can_add fits One)

    pub unknowns_fit : length d.gates < 2 ^ 64 → tally.unknowns - times Unknown former + times Unknown next < 2 ^ 64
    unknowns_fit fits = rw (ap (λ (t : Tally). t.unknowns) is_tally) (can_add fits Unknown)

    module _ (new : Tally)
        (zeros : new.zeros ≡ tally.zeros - times Zero former + times Zero next) (ones : new.ones ≡ tally.ones - times One former + times One next)
        (unknowns : new.unknowns ≡ tally.unknowns - times Unknown former + times Unknown next) where
      new_is : new ≡ tally_of (values_at (set values k next) places)
      new_is =
          let z : new.zeros ≡ givers Zero (set values k next) places = zeros ∙ ap (λ (t : Tally). t.zeros - times Zero former + times Zero next) is_tally ∙ changes_to Zero in
          let i : new.ones ≡ givers One (set values k next) places = ones ∙ ap (λ (t : Tally). t.ones - times One former + times One next) is_tally ∙ changes_to One in
          let x : new.unknowns ≡ givers Unknown (set values k next) places = unknowns ∙ ap (λ (t : Tally). t.unknowns - times Unknown former + times Unknown next) is_tally ∙ changes_to Unknown in
          λ j. record { zeros = z j; ones = i j; unknowns = x j }

      moved_by : (m : ℕ) (t : Tally) (n : NetEntry) (b : Bool) → nat_eq m o ≡ b → slice_get (set nets o (Some new)) m ≡ Some (Some t) → slice_get d.nets m ≡ Some n →
          t ≡ tally_of (values_at (set values k next) (driver_places d.gates n.name))
      moved_by m t n true e got net =
          let same = eqb-true m o e in
          let both : Some (Some t) ≡ Some (Some new) = sym got ∙ ap (slice_get (set nets o (Some new))) same ∙ set_here nets o (Some new) (slice_get_within nets o (Some tally) here) in
          let one : t ≡ new = cc in
          let nets_same : Some n ≡ Some its_net = sym net ∙ ap (slice_get d.nets) same ∙ net_at_output in
          let its : n ≡ its_net = cc in
          one ∙ new_is ∙ ap (λ (n : NetEntry). tally_of (values_at (set values k next) (driver_places d.gates n.name))) (sym its)
      moved_by m t n false e got net =
          kept m t n (sym (set_apart nets o m (Some new) e) ∙ got) net
          (ap (λ w. has m (option_map_or (λ m. m ∷ []) w [])) output ∙ ap (λ (b : Bool). b || false) e)

      -- with the net's tally moved the tallies are those of the new values
      pub all_moved : AreTallies d (set nets o (Some new)) (set values k next)
      all_moved m t n got net = moved_by m t n (nat_eq m o) refl got net

-- Drivers as moments pass.

undue_by : (o : Option State) (t : ℕ) → option_map_or (λ s. is_due s t) o false ≡ false → option_map (λ s. s.current) o ≡ option_map (λ s. (due s t).current) o
undue_by None t h = refl
undue_by (Some s) t h = ap (λ (r : State). Some r.current) (sym (none_due s t h))

-- a driver of which nothing is due gives what it gave
pub undue : (states : List State) (k t : ℕ) → is_due_at states k t ≡ false → slice_get (map (λ s. s.current) states) k ≡ slice_get (currents_of states t) k
undue states k t h =
    slice_get-map (λ (s : State). s.current) states k ∙ undue_by (slice_get states k) t h ∙ sym (slice_get-map (λ s. (due s t).current) states k)

-- a list that takes an element over from another one
pub set_as : (now new : List Value) (p : ℕ) → length now ≡ length new → slice_get (set now p (at new p)) p ≡ slice_get new p
set_as [] [] p e = refl
set_as [] (y ∷ ys) p e = absurd (omega arith)
set_as (x ∷ xs) [] p e = absurd (omega arith)
set_as (x ∷ xs) (y ∷ ys) zero e = refl
set_as (x ∷ xs) (y ∷ ys) (suc p) e = set_as xs ys p (omega arith)

module _ (answer : Evaluation → ℕ → State) (d : Netlist) (current : (e : Evaluation) (t : ℕ) → (answer e t).current ≡ (due e.state t).current) where
  -- what drivers give at a moment is what they give after it
  pub settled_currents : (t : ℕ) (before after : List State) → before ≡ map (state_before answer d t) d.gates → after ≡ map (state_before answer d (t + 1)) d.gates →
      currents_of before t ≡ map (λ s. s.current) after
  settled_currents t before after was is =
      let next : after ≡ map (state_before answer d (suc t)) d.gates = rw add-one at is in
      ap (λ ss. currents_of ss t) was
      ∙ map_twice (state_before answer d t) (λ s. (due s t).current) d.gates
      ∙ map_alike (λ g. (due (state_before answer d t g) t).current) (λ g. (state_before answer d (suc t) g).current) (λ g. sym (current (task_at answer d g t) t)) d.gates
      ∙ sym (map_twice (state_before answer d (suc t)) (λ (s : State). s.current) d.gates)
      ∙ ap (map (λ (s : State). s.current)) (sym next)

  -- nothing is due at moment 0
  pub opening_currents : (before after : List State) → before ≡ map (state_before answer d 0) d.gates → after ≡ map (state_before answer d 1) d.gates →
      map (λ s. s.current) before ≡ map (λ s. s.current) after
  opening_currents before after was is =
      ap (map (λ (s : State). s.current)) was
      ∙ map_twice (state_before answer d 0) (λ (s : State). s.current) d.gates
      ∙ sym (map_twice (state_before answer d 0) (λ s. (due s 0).current) d.gates)
      ∙ settled_currents 0 (map (state_before answer d 0) d.gates) after refl is

-- What a net has depends on which counts are not 0.

occurs_by : (v x : Value) (values : List Value) (b : Bool) → same_value v x ≡ b → nat_lt 0 (count_by (same_value v) values) ≡ occurs v values →
    nat_lt 0 (cond b 1 0 + count_by (same_value v) values) ≡ (b || occurs v values)
occurs_by v x values true e rest = grind (arith, nat_tests)
occurs_by v x values false e rest = ap (nat_lt 0) (zero-add (count_by (same_value v) values)) ∙ rest

-- a value is among others if it is counted
pub is_counted : (v : Value) (values : List Value) → nat_lt 0 (count_by (same_value v) values) ≡ occurs v values
is_counted v [] = grind (arith, nat_tests)
is_counted v (x ∷ xs) = ap (nat_lt 0) (sum_by-cons (λ y. cond (same_value v y) 1 0) x xs) ∙ occurs_by v x xs (same_value v x) refl (is_counted v xs)

-- values that stand for those that occur
abbrev pub stand_for : (a b c : Bool) → List Value
stand_for a b c = (if a then Zero else HighZ) ∷ (if b then One else HighZ) ∷ (if c then Unknown else HighZ) ∷ []

stand_by : (rule : NetRule) (a b c : Bool) → resolved rule (occurs Zero (stand_for a b c)) (occurs One (stand_for a b c)) (occurs Unknown (stand_for a b c)) ≡ resolved rule a b c
stand_by rule true true true = refl
stand_by rule true true false = refl
stand_by rule true false true = refl
stand_by rule true false false = refl
stand_by rule false true true = refl
stand_by rule false true false = refl
stand_by rule false false true = refl
stand_by rule false false false = refl

pub stand : (kind : NetKind) (values : List Value) (tally : Tally) → tally ≡ tally_of values →
    net_of kind (stand_for (nat_lt 0 tally.zeros) (nat_lt 0 tally.ones) (nat_lt 0 tally.unknowns)) ≡ net_of kind values
stand kind values tally is =
    ap (λ (t : Tally). net_of kind (stand_for (nat_lt 0 t.zeros) (nat_lt 0 t.ones) (nat_lt 0 t.unknowns))) is
    ∙ stand_by (rule_of kind) (nat_lt 0 (count_by (same_value Zero) values)) (nat_lt 0 (count_by (same_value One) values)) (nat_lt 0 (count_by (same_value Unknown) values))
    ∙ ap (λ b. resolved (rule_of kind) b (nat_lt 0 (count_by (same_value One) values)) (nat_lt 0 (count_by (same_value Unknown) values))) (is_counted Zero values)
    ∙ ap (λ b. resolved (rule_of kind) (occurs Zero values) b (nat_lt 0 (count_by (same_value Unknown) values))) (is_counted One values)
    ∙ ap (λ b. resolved (rule_of kind) (occurs Zero values) (occurs One values) b) (is_counted Unknown values)

-- Tallies of nets, at their places.

pub tally_there : (o : Option (Option Tally)) (tally : Tally) → option_map_or (λ t. t) o None ≡ Some tally → o ≡ Some (Some tally)
tally_there None tally h = cc
tally_there (Some x) tally h = ap (λ t. Some t) h

none_there : (o : Option (Option Tally)) (tally : Tally) → option_map_or (λ t. t) o None ≡ None → o ≡ Some (Some tally) → ⊥
none_there None tally none h = cc
none_there (Some x) tally none h = let e : x ≡ Some tally = cc in cc

-- a net without a tally is none of those that have one
pub other_net : (nets : List (Option Tally)) (outputs : List ℕ) (k o : ℕ) → slice_get outputs k ≡ Some o → option_map_or (λ t. t) (slice_get nets o) None ≡ None →
    (m : ℕ) (tally : Tally) → slice_get nets m ≡ Some (Some tally) → has m (output_at outputs k) ≡ false
other_net nets outputs k o output none m tally there =
    ap (λ w. has m (option_map_or (λ m. m ∷ []) w [])) output
    ∙ false_from_ne_true (nat_eq m o || false) (λ h.
    let same = eqb-true m o (sym (or-false (nat_eq m o)) ∙ h) in
    none_there (slice_get nets o) tally none (ap (slice_get nets) (sym same) ∙ there))

places_by : (o : Option (SmallVec ℕ)) (l : List ℕ) → option_map (λ (v : SmallVec ℕ). v.items) o ≡ Some l → option_map_or (λ (v : SmallVec ℕ). v.items) o [] ≡ l
places_by None l h = cc
places_by (Some v) l h = cc

-- the drivers that are listed for a net
pub listed_drivers : (d : Netlist) (lists : List (SmallVec ℕ)) → map (λ (v : SmallVec ℕ). v.items) lists ≡ map (λ n. driver_places d.gates n.name) d.nets → (m : ℕ) (n : NetEntry) →
    slice_get d.nets m ≡ Some n → places_at lists m ≡ driver_places d.gates n.name
listed_drivers d lists are m n net =
    places_by (slice_get lists m) (driver_places d.gates n.name)
    (sym (slice_get-map (λ (v : SmallVec ℕ). v.items) lists m) ∙ ap (λ l. slice_get l m) are ∙ slice_get-map (λ n. driver_places d.gates n.name) d.nets m
    ∙ ap (option_map (λ n. driver_places d.gates n.name)) net)

-- what is kept beside the room for values stays what it is
pub counts_kept : (d : Netlist) (old new : Tallies) (currents : List Value) → new.nets ≡ old.nets → new.counted ≡ old.counted → Counts d old currents → Counts d new currents
counts_kept d old new currents nets counted counts =
    record {
      nets = subst (λ values. AreTallies d new.nets.items values.items) (sym counted) (subst (λ ns. AreTallies d ns.items old.counted.items) (sym nets) counts.nets);
      counted = λ some. ap (λ values. values.items) counted ∙ counts.counted (subst (λ ns. 0 < length ns.items) nets some);
    }
