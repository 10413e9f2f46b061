-- Edits of the nets keep a design whole.
use Rattle.std.proofs.Common.{◌≡◌, ◌≢◌, ℕ, ◌+◌, ◌-◌, ◌<◌, ◌≤◌, Bool, true, false, not, cond, ◌==◌, ◌||◌, List, [], ◌∷◌, ◌++◌, length, IsSome, All, AllPairs, Option, Some, None, option_map, sym, refl, ap, subst, ◌∙◌, arith}
use Rattle.std.proofs.lemmas.Bool.{both_ways, eqb-false, eqb-true, ne_eqb}
use Rattle.std.proofs.lemmas.List.{length-map, length_push, map_push}
use Rattle.std.proofs.lemmas.List.Elements.{All-filter}
use Rattle.std.proofs.lemmas.List.Kept.{AllPairs-filter}
use Rattle.std.proofs.lemmas.List.Quantifiers.{all_pairs_push}
use Rattle.std.proofs.lemmas.List.Sums.{count_by-le-length, length-filter, sum_by-append}
use Rattle.std.specs.List.{filter}
use Rattle.fourstate.specs.declared.limits.TheConstants.{MAX_TIME}
use Rattle.fourstate.specs.declared.value.Value.{Value}
use Rattle.catalog.specs.Catalog.{record_at, records_of}
use Rattle.catalog.specs.kept.Catalog.{keys_of, with_record, without_key}
use Rattle.design.specs.declared.limits.TheConstants.{MAX_NETS, MAX_POINTS}
use Rattle.design.specs.Keys.{Keyed, KeyedGate, netlist}
use Rattle.design.specs.kept.Keys.{IsConnected, drives_key, reads_key, with_keyed_net, with_net_at, without_keyed_net}
use Rattle.design.specs.kept.Kept.{IsKept}
use Rattle.design.specs.kept.Lawful.{IsNet}
use Rattle.design.specs.Netlist.{GateEntry, NetEntry, has_net, has_point, is_used, point_total, with_net, with_net_changed, without_net}
use Rattle.design.specs.declared.net_change.NetChange.{NetChange}
use Rattle.design.specs.declared.net_change.NetChange.TheVariants.{Kind, Point, NoPoint}
use Rattle.design.specs.kept.Records.{HasRoom, IsNetChange, net_changed}
use Rattle.design.proofs.ChangeLemmas.{each_with, keys_with, keys_without, record_added, record_with, record_without, records_with, records_without, sum_with, sum_without}
use Rattle.design.proofs.ConnectionLemmas.{IsAlike, alike_there, alike_unused, gates_alike, look, seen, used_by_name}
use Rattle.design.proofs.DesignLemmas.{apart_with, each_connected, kept_nets, net_keys_apart, nets_apart}
use Rattle.design.proofs.EntryLemmas.{Each, absent, any_none, apart_filter, apart_push, each_filter, each_from, each_push, each_to, each_unmap, each_weaker, found, here, unnamed}
use Rattle.design.proofs.LookLemmas.{not_missing}
use Rattle.design.proofs.PointLemmas.{count_set, count_without, rising_set, timely_set}

each_net : (d : Keyed) (points : ℕ) (read driven : List (List ℕ)) → IsKept d points read driven → Each (λ e. IsNet e.1) d.nets
unfolding netlist
each_net d points read driven h = each_from IsNet (λ e. e.1) d.nets h.lawful.nets

net_at_key : (d : Keyed) (points : ℕ) (read driven : List (List ℕ)) (key : ℕ) (x : NetEntry) → IsKept d points read driven → record_at d.nets key ≡ Some x → IsNet x
net_at_key d points read driven key x h there = found (λ k (n : NetEntry). IsNet n) d.nets key x (each_net d points read driven h) there

net_count : (d : Keyed) (points : ℕ) (read driven : List (List ℕ)) → IsKept d points read driven → length (records_of d.nets) ≤ MAX_NETS
unfolding netlist
net_count d points read driven h = h.lawful.net_count

pub points_within : (d : Keyed) (points : ℕ) (read driven : List (List ℕ)) → IsKept d points read driven → points ≤ MAX_POINTS
unfolding netlist
points_within d points read driven h = omega (arith, h.points_counted, h.lawful.point_count)

-- A net put in place of one of the same name.

-- each net looks as before
alike_put : (d : Keyed) (points : ℕ) (read driven : List (List ℕ)) (key : ℕ) (x y : NetEntry) → IsKept d points read driven → record_at d.nets key ≡ Some x → y.name ≡ x.name → y.is_input ≡ x.is_input → Each (λ e. IsAlike d.nets (with_record d.nets key y) e.1) d.gates
alike_put d points read driven key x y h there named input =
    each_weaker (λ e. IsConnected d.nets e.1) (λ e. IsAlike d.nets (with_record d.nets key y) e.1) (λ e w. alike_there d.nets (with_record d.nets key y) e.1 (λ k some. same k) w) d.gates (each_connected d points read driven h)
  where
    same : (k : ℕ) → seen (with_record d.nets key y) k ≡ seen d.nets k
    same k = ap (λ (o : Option NetEntry). option_map look o) (record_with d.nets key y k) ∙ step (record_at d.nets k) refl
      where
        step : (o : Option NetEntry) → record_at d.nets k ≡ o → option_map look (option_map (λ n. cond (k == key) y n) o) ≡ option_map look o
        step None at = refl
        step (Some n) at = two (k == key) refl
          where
            two : (b : Bool) → (k == key) ≡ b → Some (look (cond b y n)) ≡ Some (look n)
            two true on =
                let one : Some x ≡ Some n = sym there ∙ ap (λ (j : ℕ). record_at d.nets j) (sym (eqb-true k key on)) ∙ at in
                let is : x ≡ n = cc in
                let p : y.name ≡ n.name = named ∙ ap (λ (m : NetEntry). m.name) is in
                let q : y.is_input ≡ n.is_input = input ∙ ap (λ (m : NetEntry). m.is_input) is in
                ap (λ (z : List ℕ × Bool). Some z) (λ i. (p i, q i))
            two false on = refl

kept_net_put : (d : Keyed) (points after : ℕ) (read driven : List (List ℕ)) (key : ℕ) (x y : NetEntry) → IsKept d points read driven → record_at d.nets key ≡ Some x → y.name ≡ x.name → y.is_input ≡ x.is_input → IsNet y → after + length x.points ≡ points + length y.points → after ≤ MAX_POINTS →
    IsKept (with_net_at d key y) after read driven
kept_net_put d points after read driven key x y h there named input net counted room =
    let keys = net_keys_apart d points read driven h in
    let names = nets_apart d points read driven h in
    let new = with_record d.nets key y in
    let Distinct : List ℕ → Type 0 = λ l. AllPairs (λ a b. a ≢ b) l in
    let count = net_count d points read driven h in
    kept_nets d points after read driven new h (alike_put d points read driven key x y h there named input) (subst Distinct (sym (keys_with d.nets key y)) h.keys.distinct_nets)
    (each_to IsNet (λ e. e.1) new (each_with IsNet d.nets key y (each_net d points read driven h) net)) (apart_with (λ (n : NetEntry). n.name) d.nets key x y (here d.nets key x keys there) named names)
    (omega (arith, count, length-map new (λ e. e.1), length-map {B = ℕ × NetEntry} d.nets (λ e. (e.0, cond (e.0 == key) y e.1)), length-map d.nets (λ e. e.1)))
    (omega (arith, sum_with (λ (n : NetEntry). length n.points) d.nets key x y keys there, counted, h.points_counted)) room

-- A net changed.

pub change_keeps_name : (change : NetChange) (n : NetEntry) → (net_changed change n).name ≡ n.name
change_keeps_name (Kind kind) n = refl
change_keeps_name (Point t v) n = refl
change_keeps_name (NoPoint t) n = refl

pub change_keeps_input : (change : NetChange) (n : NetEntry) → (net_changed change n).is_input ≡ n.is_input
change_keeps_input (Kind kind) n = refl
change_keeps_input (Point t v) n = refl
change_keeps_input (NoPoint t) n = refl

changed_is_net : (change : NetChange) (n : NetEntry) → IsNet n → IsNetChange change n → IsNet (net_changed change n)
changed_is_net (Kind kind) n h allowed = record { named = h.named; rising = h.rising; timely = h.timely; only_inputs = h.only_inputs }
changed_is_net (Point t v) n h allowed = record {
  named = h.named;
  rising = rising_set n.points t v h.rising;
  timely = timely_set n.points t MAX_TIME v h.timely allowed.1;
  only_inputs = λ none. absurd (both_ways n.is_input none allowed.0);
}
changed_is_net (NoPoint t) n h allowed =
    let test = λ (point : ℕ × Value). not (point.0 == t) in
    record {
      named = h.named;
      rising = AllPairs-filter (λ (p : ℕ × Value) (q : ℕ × Value). p.0 < q.0) test n.points h.rising;
      timely = All-filter test (λ (p : ℕ × Value). p.0 ≤ MAX_TIME) n.points h.timely;
      only_inputs = λ no. ap (λ l. filter test l) (h.only_inputs no);
    }

-- the points of a net are among all points
pub points_counted_in : (d : Keyed) (points : ℕ) (read driven : List (List ℕ)) (key : ℕ) (x : NetEntry) → IsKept d points read driven → record_at d.nets key ≡ Some x → length x.points ≤ points
points_counted_in d points read driven key x h there =
    omega (arith, sum_without (λ (n : NetEntry). length n.points) d.nets key x (net_keys_apart d points read driven h) there, h.points_counted)

room_for : (b : Bool) (n most : ℕ) → n ≤ most → (b ≡ false → n < most) → n + cond b 0 1 ≤ most
room_for true n most h room = omega arith
room_for false n most h room = let below = room refl in omega arith

count_changed : (change : NetChange) (n : NetEntry) (total : ℕ) → IsNet n → total ≤ MAX_POINTS → length n.points ≤ total → HasRoom change n total → total - length n.points + length (net_changed change n).points ≤ MAX_POINTS
count_changed (Kind kind) n total h most within room = omega arith
count_changed (Point t v) n total h most within room = omega (arith, count_set n.points t v h.rising, room_for (has_point n.points t) total MAX_POINTS most room)
count_changed (NoPoint t) n total h most within room = omega (arith, count_without n.points t h.rising)

pub changed_count : (d : Keyed) (points : ℕ) (read driven : List (List ℕ)) (key : ℕ) (x : NetEntry) (change : NetChange) → IsKept d points read driven → record_at d.nets key ≡ Some x → HasRoom change x (point_total (netlist d).nets) → points - length x.points + length (net_changed change x).points ≤ MAX_POINTS
unfolding netlist
changed_count d points read driven key x change h there room =
    let Room : ℕ → Type 0 = λ n. HasRoom change x n in
    count_changed change x points (net_at_key d points read driven key x h there) (points_within d points read driven h) (points_counted_in d points read driven key x h there) (subst Room (sym h.points_counted) room)

pub kept_net_changed : (d : Keyed) (points : ℕ) (read driven : List (List ℕ)) (key : ℕ) (x : NetEntry) (change : NetChange) → IsKept d points read driven → record_at d.nets key ≡ Some x → IsNetChange change x → HasRoom change x (point_total (netlist d).nets) →
    IsKept (with_net_at d key (net_changed change x)) (points - length x.points + length (net_changed change x).points) read driven
unfolding netlist
kept_net_changed d points read driven key x change h there allowed room =
    let was = net_at_key d points read driven key x h there in
    let within = points_counted_in d points read driven key x h there in
    let most = changed_count d points read driven key x change h there room in
    kept_net_put d points (points - length x.points + length (net_changed change x).points) read driven key x (net_changed change x) h there (change_keeps_name change x) (change_keeps_input change x) (changed_is_net change x was allowed) (omega (arith, within)) most

-- A net added.

alike_added : (d : Keyed) (points : ℕ) (read driven : List (List ℕ)) (key : ℕ) (n : NetEntry) → IsKept d points read driven → record_at d.nets key ≡ None → Each (λ e. IsAlike d.nets (d.nets ++ (key, n) ∷ []) e.1) d.gates
alike_added d points read driven key n h free =
    each_weaker (λ e. IsConnected d.nets e.1) (λ e. IsAlike d.nets (d.nets ++ (key, n) ∷ []) e.1) (λ e w. alike_there d.nets (d.nets ++ (key, n) ∷ []) e.1 same w) d.gates (each_connected d points read driven h)
  where
    same : (k : ℕ) → IsSome (record_at d.nets k) → seen (d.nets ++ (key, n) ∷ []) k ≡ seen d.nets k
    same k some =
        let off : (k == key) ≡ false = ne_eqb k key (λ on. not_missing (record_at d.nets k) (record_at d.nets key) some free (ap (λ (j : ℕ). record_at d.nets j) on)) in
        ap (λ (o : Option NetEntry). option_map look o) (record_added d.nets key n k free ∙ ap (λ (b : Bool). cond b (Some n) (record_at d.nets k)) off)

pub kept_net_added : (d : Keyed) (points : ℕ) (read driven : List (List ℕ)) (key : ℕ) (n : NetEntry) → IsKept d points read driven → IsNet n → n.points ≡ [] → has_net (netlist d) n.name ≡ false → length (netlist d).nets < MAX_NETS → record_at d.nets key ≡ None →
    IsKept (with_keyed_net d n key) points read driven
unfolding netlist
kept_net_added d points read driven key n h net bare absent_name room free =
    let new = d.nets ++ (key, n) ∷ [] in
    let list : records_of new ≡ records_of d.nets ++ n ∷ [] = map_push (λ (e : ℕ × NetEntry). e.1) d.nets (key, n) in
    let keys : keys_of new ≡ keys_of d.nets ++ key ∷ [] = map_push (λ (e : ℕ × NetEntry). e.0) d.nets (key, n) in
    let Distinct : List ℕ → Type 0 = λ l. AllPairs (λ a b. a ≢ b) l in
    let other : All (λ k. k ≢ key) (keys_of d.nets) = each_to (λ k. k ≢ key) (λ e. e.0) d.nets (each_weaker (λ e. (e.0 == key) ≡ false) (λ e. e.0 ≢ key) (λ e off. eqb-false e.0 key off) d.nets (absent d.nets key free)) in
    kept_nets d points points read driven new h (alike_added d points read driven key n h free) (subst Distinct (sym keys) (all_pairs_push (λ a b. a ≢ b) (keys_of d.nets) key h.keys.distinct_nets (λ k e within. other k e within)))
    (each_to IsNet (λ e. e.1) new (each_push (λ e. IsNet e.1) d.nets (key, n) (each_net d points read driven h) net))
    (apart_push (λ (e : ℕ × NetEntry). e.1.name) d.nets (key, n) (nets_apart d points read driven h)
    (each_unmap (λ (m : NetEntry). m.name ≢ n.name) (λ e. e.1) d.nets (unnamed (λ (m : NetEntry). m.name) (records_of d.nets) n.name absent_name)))
    (omega (arith, room, ap (λ (l : List NetEntry). length l) list, length_push (records_of d.nets) n))
    (omega (arith, h.points_counted, ap point_total list, sum_by-append (λ (m : NetEntry). length m.points) (records_of d.nets) (n ∷ []), ap length bare)) (points_within d points read driven h)

-- A net removed.

-- no gate has a net that is not used
each_unused : (d : Keyed) (points : ℕ) (read driven : List (List ℕ)) (key : ℕ) (x : NetEntry) → IsKept d points read driven → record_at d.nets key ≡ Some x → is_used (netlist d) x.name ≡ false → Each (λ e. (reads_key e.1 key ≡ false) × (drives_key e.1 key ≡ false)) d.gates
unfolding netlist
each_unused d points read driven key x h there unused =
    each_weaker (λ e. (reads_key e.1 key || drives_key e.1 key) ≡ false) (λ e. (reads_key e.1 key ≡ false) × (drives_key e.1 key ≡ false)) (λ e none. none_parts (reads_key e.1 key) (drives_key e.1 key) none) d.gates
    (each_unmap (λ (g : KeyedGate). (reads_key g key || drives_key g key) ≡ false) (λ e. e.1) d.gates
    (any_none (λ g. reads_key g key || drives_key g key) (records_of d.gates)
    (sym (used_by_name d.nets d.gates key x (net_keys_apart d points read driven h) (nets_apart d points read driven h) there h.keys.connected) ∙ unused)))
  where
    none_parts : (a b : Bool) → (a || b) ≡ false → (a ≡ false) × (b ≡ false)
    none_parts true b e = cc
    none_parts false b e = (refl, e)

alike_removed : (d : Keyed) (points : ℕ) (read driven : List (List ℕ)) (key : ℕ) (x : NetEntry) → IsKept d points read driven → record_at d.nets key ≡ Some x → is_used (netlist d) x.name ≡ false → Each (λ e. IsAlike d.nets (without_key d.nets key) e.1) d.gates
alike_removed d points read driven key x h there unused =
    each_weaker (λ e. (reads_key e.1 key ≡ false) × (drives_key e.1 key ≡ false)) (λ e. IsAlike d.nets (without_key d.nets key) e.1) (λ e off. alike_unused d.nets (without_key d.nets key) key e.1 same off.0 off.1) d.gates
    (each_unused d points read driven key x h there unused)
  where
    same : (k : ℕ) → (key == k) ≡ false → seen (without_key d.nets key) k ≡ seen d.nets k
    same k off =
        let apart : (k == key) ≡ false = ne_eqb k key (λ on. eqb-false key k off (sym on)) in
        ap (λ (o : Option NetEntry). option_map look o) (record_without d.nets key k ∙ ap (λ (b : Bool). cond b None (record_at d.nets k)) apart)

pub kept_net_removed : (d : Keyed) (points after : ℕ) (read driven : List (List ℕ)) (key : ℕ) (x : NetEntry) → IsKept d points read driven → record_at d.nets key ≡ Some x → is_used (netlist d) x.name ≡ false → after + length x.points ≡ points →
    IsKept (without_keyed_net d key) after read driven
kept_net_removed d points after read driven key x h there unused counted =
    let keys = net_keys_apart d points read driven h in
    let new = without_key d.nets key in
    let kept : ℕ × NetEntry → Bool = λ e. not (e.0 == key) in
    let Distinct : List ℕ → Type 0 = λ l. AllPairs (λ a b. a ≢ b) l in
    let count = net_count d points read driven h in
    let within = points_within d points read driven h in
    kept_nets d points after read driven new h (alike_removed d points read driven key x h there unused)
    (subst Distinct (sym (keys_without d.nets key)) (AllPairs-filter (λ a b. a ≢ b) (λ k. not (k == key)) (keys_of d.nets) h.keys.distinct_nets))
    (each_to IsNet (λ e. e.1) new (each_filter (λ e. IsNet e.1) kept d.nets (each_net d points read driven h)))
    (apart_filter (λ (e : ℕ × NetEntry). e.1.name) kept d.nets (nets_apart d points read driven h))
    (omega (arith, count, length-map new (λ e. e.1), length-filter kept d.nets, count_by-le-length kept d.nets, length-map d.nets (λ e. e.1)))
    (omega (arith, sum_without (λ (n : NetEntry). length n.points) d.nets key x keys there, h.points_counted, counted)) (omega (arith, counted, within))

-- By name.

-- the design by names with other nets, which look to the gates as before
netlist_nets : (d : Keyed) (nets : List (ℕ × NetEntry)) → Each (λ e. IsAlike d.nets nets e.1) d.gates → netlist (record d { nets = nets }) ≡ record (netlist d) { nets = records_of nets }
unfolding netlist
netlist_nets d nets alike = ap (λ (l : List (ℕ × GateEntry)). record (netlist d) { nets = records_of nets; gates = records_of l }) (gates_alike d.nets nets d.gates alike)

pub netlist_net_put : (d : Keyed) (points : ℕ) (read driven : List (List ℕ)) (key : ℕ) (x : NetEntry) (change : NetEntry → NetEntry) → IsKept d points read driven → record_at d.nets key ≡ Some x → (change x).name ≡ x.name → (change x).is_input ≡ x.is_input → netlist (with_net_at d key (change x)) ≡ with_net_changed (netlist d) x.name change
unfolding netlist
netlist_net_put d points read driven key x change h there named input =
    netlist_nets d (with_record d.nets key (change x)) (alike_put d points read driven key x (change x) h there named input)
    ∙ ap (λ (l : List NetEntry). record (netlist d) { nets = l }) (records_with (λ (n : NetEntry). n.name) change d.nets key x (net_keys_apart d points read driven h) (nets_apart d points read driven h) there)

pub netlist_net_added : (d : Keyed) (points : ℕ) (read driven : List (List ℕ)) (key : ℕ) (n : NetEntry) → IsKept d points read driven → record_at d.nets key ≡ None → netlist (with_keyed_net d n key) ≡ with_net (netlist d) n
unfolding netlist
netlist_net_added d points read driven key n h free =
    netlist_nets d (d.nets ++ (key, n) ∷ []) (alike_added d points read driven key n h free) ∙ ap (λ (l : List NetEntry). record (netlist d) { nets = l }) (map_push (λ (e : ℕ × NetEntry). e.1) d.nets (key, n))

pub netlist_net_removed : (d : Keyed) (points : ℕ) (read driven : List (List ℕ)) (key : ℕ) (x : NetEntry) → IsKept d points read driven → record_at d.nets key ≡ Some x → is_used (netlist d) x.name ≡ false → netlist (without_keyed_net d key) ≡ without_net (netlist d) x.name
unfolding netlist
netlist_net_removed d points read driven key x h there unused =
    netlist_nets d (without_key d.nets key) (alike_removed d points read driven key x h there unused)
    ∙ ap (λ (l : List NetEntry). record (netlist d) { nets = l }) (records_without (λ (n : NetEntry). n.name) d.nets key x (net_keys_apart d points read driven h) (nets_apart d points read driven h) there)
