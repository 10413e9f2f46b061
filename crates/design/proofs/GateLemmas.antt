-- Edits of the gates keep a design whole.
use Rattle.std.proofs.Common.{◌≡◌, ◌≢◌, ℕ, ◌<◌, IsTrue, Bool, true, false, not, cond, ◌==◌, ◌&&◌, List, [], ◌∷◌, ◌++◌, length, All, AllPairs, Some, None, option_map, sym, refl, ap, subst, ◌∙◌, arith}
use Rattle.std.proofs.lemmas.Bool.{eqb-false}
use Rattle.std.proofs.lemmas.List.{length-map, length_push, map_push}
use Rattle.std.proofs.lemmas.List.Kept.{AllPairs-filter}
use Rattle.std.proofs.lemmas.List.Quantifiers.{all_pairs_push}
use Rattle.std.proofs.lemmas.List.Sums.{count_by-le-length, length-filter}
use Rattle.catalog.specs.Catalog.{record_at, records_of}
use Rattle.catalog.specs.kept.Catalog.{keys_of, with_record, without_key}
use Rattle.fourstate.specs.Gates.{takes_inputs}
use Rattle.design.specs.declared.limits.TheConstants.{MAX_GATES}
use Rattle.design.specs.declared.terminal.Terminal.{Terminal}
use Rattle.design.specs.Keys.{Keyed, KeyedGate, entry_in, named_gates, netlist}
use Rattle.design.specs.kept.Keys.{IsConnected, IsDrivable, IsKeyedGate, IsThere, drives_key, is_among, keys_where, reads_key, with_gate_at, with_keyed_gate, without_keyed_gate}
use Rattle.design.specs.kept.Kept.{IsKept}
use Rattle.design.specs.kept.Lists as Lists
use Rattle.design.specs.kept.Lists.{AreChanged, IsInOrder, list_of, with_key_in}
use Rattle.design.specs.Netlist.{GateEntry, has_gate, with_gate, with_gate_changed, without_gate}
use Rattle.design.specs.kept.Records.{IsInPlaceOf, gate_with_wiring}
use Rattle.design.proofs.ChangeLemmas.{each_with, keys_with, keys_without, record_kept, record_pushed, records_with, records_without}
use Rattle.design.proofs.DesignLemmas.{apart_with, each_connected, each_gate, gate_count_is, gate_keys_apart, gates_apart, kept_gates}
use Rattle.design.proofs.EntryLemmas.{Apart, Each, absent, apart_filter, apart_map, apart_push, each_filter, each_push, each_to, each_unmap, each_weaker, filter_map, found, here, keys_apart, record_map, unnamed}
use Rattle.design.proofs.OrderLemmas.{where_in_order}
use Rattle.design.proofs.WiringLemmas.{others_added, others_replaced, others_same, others_with, others_without, where_replaced, where_without}

-- Which gates stand in a list. `p g k` says that the gate stands in the list of the key k.

-- the lists of the other gates
abbrev others : (KeyedGate → ℕ → Bool) → List (ℕ × KeyedGate) → ℕ → ℕ → List ℕ
others p gates key k = keys_where (λ e. not (e.0 == key) && p e.1 k) gates

the_one : (gates : List (ℕ × KeyedGate)) (key : ℕ) (g : KeyedGate) (q : KeyedGate → Bool) (b : Bool) → Each (λ e. (e.0 == key) ≡ true → e.1 ≡ g) gates → q g ≡ b → Each (λ e. (e.0 == key) ≡ true → q e.1 ≡ b) gates
the_one gates key g q b one at = each_weaker (λ e. (e.0 == key) ≡ true → e.1 ≡ g) (λ e. (e.0 == key) ≡ true → q e.1 ≡ b) (λ e h on. ap q (h on) ∙ at) gates one

-- a gate's key taken out of the lists that have it
left_out : (gates : List (ℕ × KeyedGate)) (p : KeyedGate → ℕ → Bool) (key : ℕ) (g : KeyedGate) (lists new : List (List ℕ)) → Apart (λ e. e.0) gates → record_at gates key ≡ Some g →
    ((k : ℕ) → list_of lists k ≡ keys_where (λ e. p e.1 k) gates) → AreChanged (p g) (λ list. Lists.without_key list key) lists new → (k : ℕ) → list_of new k ≡ others p gates key k
left_out gates p key g lists new keys there was changed k = changed k ∙ ap (λ (l : List ℕ). cond (p g k) (Lists.without_key l key) l) (was k) ∙ two (p g k) refl
  where
    two : (b : Bool) → p g k ≡ b → cond b (Lists.without_key (keys_where (λ e. p e.1 k) gates) key) (keys_where (λ e. p e.1 k) gates) ≡ others p gates key k
    two true at = where_without (λ e. p e.1 k) gates key
    two false at = others_same (λ e. p e.1 k) gates key (the_one gates key g (λ h. p h k) false (here gates key g keys there) at)

-- and put into the lists that are to have it
put_in : (gates : List (ℕ × KeyedGate)) (p : KeyedGate → ℕ → Bool) (key : ℕ) (g : KeyedGate) (keys : List ℕ) (lists new : List (List ℕ)) → keys ≡ keys_of gates → Apart (λ e. e.0) gates → record_at gates key ≡ Some g →
    ((k : ℕ) → list_of lists k ≡ others p gates key k) → AreChanged (p g) (with_key_in keys key) lists new → (k : ℕ) → list_of new k ≡ keys_where (λ e. p e.1 k) gates
put_in gates p key g keys lists new same apart there was changed k =
    changed k ∙ ap (λ (l : List ℕ). cond (p g k) (with_key_in keys key l) l) (was k)
    ∙ ap (λ (ks : List ℕ). cond (p g k) (with_key_in ks key (others p gates key k)) (others p gates key k)) same ∙ two (p g k) refl
  where
    two : (b : Bool) → p g k ≡ b → cond b (with_key_in (keys_of gates) key (others p gates key k)) (others p gates key k) ≡ keys_where (λ e. p e.1 k) gates
    two true at = others_with (λ e. p e.1 k) gates key apart (the_one gates key g (λ h. p h k) true (here gates key g apart there) at)
    two false at = sym (others_same (λ e. p e.1 k) gates key (the_one gates key g (λ h. p h k) false (here gates key g apart there) at))

-- the lists of a design are in order
pub kept_in_order : (d : Keyed) (points : ℕ) (read driven : List (List ℕ)) → IsKept d points read driven → (k : ℕ) → IsInOrder (keys_of d.gates) (list_of read k) × IsInOrder (keys_of d.gates) (list_of driven k)
kept_in_order d points read driven h k =
    let keys = gate_keys_apart d points read driven h in
    (subst (IsInOrder (keys_of d.gates)) (sym (h.readers_listed k)) (where_in_order (λ e. reads_key e.1 k) d.gates keys), subst (IsInOrder (keys_of d.gates)) (sym (h.drivers_listed k)) (where_in_order (λ e. drives_key e.1 k) d.gates keys))

-- A gate in place of one of the same name.

distinct_put : (d : Keyed) (key : ℕ) (y : KeyedGate) → AllPairs (λ a b. a ≢ b) (keys_of d.gates) → AllPairs (λ a b. a ≢ b) (keys_of (with_record d.gates key y))
distinct_put d key y h = let Q : List ℕ → Type 0 = λ l. AllPairs (λ a b. a ≢ b) l in subst Q (sym (keys_with d.gates key y)) h

gate_put : (d : Keyed) (points : ℕ) (read driven new_read new_driven : List (List ℕ)) (key : ℕ) (x y : KeyedGate) → IsKept d points read driven → record_at d.gates key ≡ Some x → y.name ≡ x.name → IsKeyedGate y → IsConnected d.nets y →
    ((k : ℕ) → list_of new_read k ≡ keys_where (λ e. reads_key e.1 k) (with_record d.gates key y)) → ((k : ℕ) → list_of new_driven k ≡ keys_where (λ e. drives_key e.1 k) (with_record d.gates key y)) →
    IsKept (with_gate_at d key y) points new_read new_driven
gate_put d points read driven new_read new_driven key x y h there named gate connected readers drivers =
    let keys = gate_keys_apart d points read driven h in
    let count = gate_count_is d in
    kept_gates d points read driven new_read new_driven (with_record d.gates key y) h (each_with IsKeyedGate d.gates key y (each_gate d points read driven h) gate)
    (each_with (IsConnected d.nets) d.gates key y (each_connected d points read driven h) connected) (distinct_put d key y h.keys.distinct_gates)
    (apart_with (λ (g : KeyedGate). g.name) d.gates key x y (here d.gates key x keys there) named (gates_apart d points read driven h))
    (omega (arith, count, h.lawful.gate_count, length-map {B = ℕ × KeyedGate} d.gates (λ e. (e.0, cond (e.0 == key) y e.1)))) readers drivers

-- a gate that keeps its connections
pub kept_gate_put : (d : Keyed) (points : ℕ) (read driven : List (List ℕ)) (key : ℕ) (x y : KeyedGate) → IsKept d points read driven → record_at d.gates key ≡ Some x → IsInPlaceOf x y → IsKeyedGate y → IsKept (with_gate_at d key y) points read driven
kept_gate_put d points read driven key x y h there place gate =
    let one = here d.gates key x (gate_keys_apart d points read driven h) there in
    let was : IsConnected d.nets x = found (λ k (g : KeyedGate). IsConnected d.nets g) d.gates key x (each_connected d points read driven h) there in
    let Output : ℕ → Type 0 = λ n. IsDrivable d.nets n in
    let Inputs : List Terminal → Type 0 = λ l. All (IsThere d.nets) l in
    gate_put d points read driven read driven key x y h there place.name gate (record { output = subst Output (sym place.output) was.output; inputs = subst Inputs (sym place.inputs) was.inputs })
    (λ k. h.readers_listed k ∙ sym (where_replaced (λ g. reads_key g k) d.gates key x y one (ap (λ l. is_among l k) place.inputs)))
    (λ k. h.drivers_listed k ∙ sym (where_replaced (λ g. drives_key g k) d.gates key x y one (ap (λ (n : ℕ). k == n) place.output)))

-- A gate added.

pub kept_gate_added : (d : Keyed) (points : ℕ) (read driven more_read more_driven : List (List ℕ)) (key : ℕ) (g : KeyedGate) (keys : List ℕ) → IsKept d points read driven → IsKeyedGate g → IsConnected d.nets g → has_gate (netlist d) g.name ≡ false → length (netlist d).gates < MAX_GATES → record_at d.gates key ≡ None →
    keys ≡ keys_of (d.gates ++ (key, g) ∷ []) → AreChanged (reads_key g) (with_key_in keys key) read more_read → AreChanged (drives_key g) (with_key_in keys key) driven more_driven →
    IsKept (with_keyed_gate d g key) points more_read more_driven
unfolding netlist
kept_gate_added d points read driven more_read more_driven key g keys h gate connected absent_name room free same readers drivers =
    let new = d.gates ++ (key, g) ∷ [] in
    let keyed_list : keys_of new ≡ keys_of d.gates ++ key ∷ [] = map_push (λ (e : ℕ × KeyedGate). e.0) d.gates (key, g) in
    let Distinct : List ℕ → Type 0 = λ l. AllPairs (λ a b. a ≢ b) l in
    let other : All (λ k. k ≢ key) (keys_of d.gates) = each_to (λ k. k ≢ key) (λ e. e.0) d.gates (each_weaker (λ e. (e.0 == key) ≡ false) (λ e. e.0 ≢ key) (λ e off. eqb-false e.0 key off) d.gates (absent d.gates key free)) in
    let distinct : AllPairs (λ a b. a ≢ b) (keys_of new) = subst Distinct (sym keyed_list) (all_pairs_push (λ a b. a ≢ b) (keys_of d.gates) key h.keys.distinct_gates (λ k e within. other k e within)) in
    let apart : Apart (λ e. e.0) new = keys_apart new distinct in
    let there = record_pushed d.gates key g free in
    let count = gate_count_is d in
    kept_gates d points read driven more_read more_driven new h (each_push (λ e. IsKeyedGate e.1) d.gates (key, g) (each_gate d points read driven h) gate)
    (each_push (λ e. IsConnected d.nets e.1) d.gates (key, g) (each_connected d points read driven h) connected) distinct
    (apart_push (λ (e : ℕ × KeyedGate). e.1.name) d.gates (key, g) (gates_apart d points read driven h)
    (each_unmap (λ (e : ℕ × GateEntry). e.1.name ≢ g.name) (λ e. (e.0, entry_in d.nets e.1)) d.gates (each_unmap (λ (h : GateEntry). h.name ≢ g.name) (λ e. e.1) (named_gates d.nets d.gates) (unnamed (λ (h : GateEntry). h.name) (records_of (named_gates d.nets d.gates)) g.name absent_name))))
    (omega (arith, count, room, length_push d.gates (key, g)))
    (put_in new reads_key key g keys read more_read same apart there (λ k. h.readers_listed k ∙ others_added (λ e. reads_key e.1 k) d.gates key g free) readers)
    (put_in new drives_key key g keys driven more_driven same apart there (λ k. h.drivers_listed k ∙ others_added (λ e. drives_key e.1 k) d.gates key g free) drivers)

-- A gate removed.

pub kept_gate_removed : (d : Keyed) (points : ℕ) (read driven less_read less_driven : List (List ℕ)) (key : ℕ) (x : KeyedGate) → IsKept d points read driven → record_at d.gates key ≡ Some x →
    AreChanged (reads_key x) (λ list. Lists.without_key list key) read less_read → AreChanged (drives_key x) (λ list. Lists.without_key list key) driven less_driven →
    IsKept (without_keyed_gate d key) points less_read less_driven
kept_gate_removed d points read driven less_read less_driven key x h there readers drivers =
    let keys = gate_keys_apart d points read driven h in
    let kept : ℕ × KeyedGate → Bool = λ e. not (e.0 == key) in
    let Distinct : List ℕ → Type 0 = λ l. AllPairs (λ a b. a ≢ b) l in
    let count = gate_count_is d in
    kept_gates d points read driven less_read less_driven (without_key d.gates key) h (each_filter (λ e. IsKeyedGate e.1) kept d.gates (each_gate d points read driven h))
    (each_filter (λ e. IsConnected d.nets e.1) kept d.gates (each_connected d points read driven h))
    (subst Distinct (sym (keys_without d.gates key)) (AllPairs-filter (λ a b. a ≢ b) (λ k. not (k == key)) (keys_of d.gates) h.keys.distinct_gates))
    (apart_filter (λ (e : ℕ × KeyedGate). e.1.name) kept d.gates (gates_apart d points read driven h))
    (omega (arith, count, h.lawful.gate_count, length-filter kept d.gates, count_by-le-length kept d.gates))
    (λ k. left_out d.gates reads_key key x read less_read keys there h.readers_listed readers k ∙ others_without (λ e. reads_key e.1 k) d.gates key)
    (λ k. left_out d.gates drives_key key x driven less_driven keys there h.drivers_listed drivers k ∙ others_without (λ e. drives_key e.1 k) d.gates key)

-- A gate at other nets.

pub kept_gate_rewired : (d : Keyed) (points : ℕ) (read driven new_read new_driven : List (List ℕ)) (key : ℕ) (x : KeyedGate) (output : ℕ) (inputs : List Terminal) → IsKept d points read driven → record_at d.gates key ≡ Some x → IsTrue (takes_inputs x.kind (length inputs)) →
    IsDrivable d.nets output → All (IsThere d.nets) inputs →
    ((less : List (List ℕ)) × AreChanged (reads_key x) (λ list. Lists.without_key list key) read less × AreChanged (reads_key (gate_with_wiring x output inputs)) (with_key_in (keys_of d.gates) key) less new_read) →
    ((less : List (List ℕ)) × AreChanged (drives_key x) (λ list. Lists.without_key list key) driven less × AreChanged (drives_key (gate_with_wiring x output inputs)) (with_key_in (keys_of d.gates) key) less new_driven) →
    IsKept (with_gate_at d key (gate_with_wiring x output inputs)) points new_read new_driven
kept_gate_rewired d points read driven new_read new_driven key x output inputs h there fit drivable readable readers drivers =
    let y = gate_with_wiring x output inputs in
    let new = with_record d.gates key y in
    let was : IsKeyedGate x = found (λ k (g : KeyedGate). IsKeyedGate g) d.gates key x (each_gate d points read driven h) there in
    let keys = gate_keys_apart d points read driven h in
    let apart : Apart (λ e. e.0) new = keys_apart new (distinct_put d key y h.keys.distinct_gates) in
    let same : keys_of d.gates ≡ keys_of new = sym (keys_with d.gates key y) in
    let now : record_at new key ≡ Some y = record_kept d.gates key x y there in
    gate_put d points read driven new_read new_driven key x y h there refl (record { named = was.named; inputs_fit = fit; delays_in_range = was.delays_in_range }) (record { output = drivable; inputs = readable })
    (put_in new reads_key key y (keys_of d.gates) readers.0 new_read same apart now (λ k. left_out d.gates reads_key key x read readers.0 keys there h.readers_listed readers.1 k ∙ sym (others_replaced (λ e. reads_key e.1 k) d.gates key y)) readers.2)
    (put_in new drives_key key y (keys_of d.gates) drivers.0 new_driven same apart now (λ k. left_out d.gates drives_key key x driven drivers.0 keys there h.drivers_listed drivers.1 k ∙ sym (others_replaced (λ e. drives_key e.1 k) d.gates key y)) drivers.2)

-- By name.

named_with : (d : Keyed) (key : ℕ) (y : KeyedGate) → named_gates d.nets (with_record d.gates key y) ≡ with_record (named_gates d.nets d.gates) key (entry_in d.nets y)
named_with d key y = from d.gates
  where
    from : (es : List (ℕ × KeyedGate)) → named_gates d.nets (with_record es key y) ≡ with_record (named_gates d.nets es) key (entry_in d.nets y)
    from [] = refl
    from (e ∷ es) = ap (λ l. (e.0, entry_in d.nets (cond (e.0 == key) y e.1)) ∷ l) (from es) ∙ ap (λ (g : GateEntry). (e.0, g) ∷ with_record (named_gates d.nets es) key (entry_in d.nets y)) (step (e.0 == key))
      where
        step : (b : Bool) → entry_in d.nets (cond b y e.1) ≡ cond b (entry_in d.nets y) (entry_in d.nets e.1)
        step true = refl
        step false = refl

pub netlist_gate_put : (d : Keyed) (points : ℕ) (read driven : List (List ℕ)) (key : ℕ) (x y : KeyedGate) (change : GateEntry → GateEntry) → IsKept d points read driven → record_at d.gates key ≡ Some x → entry_in d.nets y ≡ change (entry_in d.nets x) → netlist (with_gate_at d key y) ≡ with_gate_changed (netlist d) x.name change
unfolding netlist
netlist_gate_put d points read driven key x y change h there changed =
    let es : List (ℕ × GateEntry) = named_gates d.nets d.gates in
    let entry : ℕ × KeyedGate → ℕ × GateEntry = λ e. (e.0, entry_in d.nets e.1) in
    let keys : Apart (λ e. e.0) es = apart_map (λ (e : ℕ × GateEntry). e.0) entry d.gates (gate_keys_apart d points read driven h) in
    let names : Apart (λ e. e.1.name) es = apart_map (λ (e : ℕ × GateEntry). e.1.name) entry d.gates (gates_apart d points read driven h) in
    let at : record_at es key ≡ Some (entry_in d.nets x) = record_map (entry_in d.nets) d.gates key ∙ ap (λ o. option_map (entry_in d.nets) o) there in
    ap (λ (l : List (ℕ × GateEntry)). record (netlist d) { gates = records_of l }) (named_with d key y ∙ ap (λ (g : GateEntry). with_record es key g) changed)
    ∙ ap (λ (l : List GateEntry). record (netlist d) { gates = l }) (records_with (λ (g : GateEntry). g.name) change es key (entry_in d.nets x) keys names at)

pub netlist_gate_added : (d : Keyed) (g : KeyedGate) (key : ℕ) → netlist (with_keyed_gate d g key) ≡ with_gate (netlist d) (entry_in d.nets g)
unfolding netlist
netlist_gate_added d g key =
    ap (λ (l : List GateEntry). record (netlist d) { gates = l })
    (ap (λ (l : List (ℕ × GateEntry)). records_of l) (map_push (λ e. (e.0, entry_in d.nets e.1)) d.gates (key, g)) ∙ map_push (λ (e : ℕ × GateEntry). e.1) (named_gates d.nets d.gates) (key, entry_in d.nets g))

pub netlist_gate_removed : (d : Keyed) (points : ℕ) (read driven : List (List ℕ)) (key : ℕ) (x : KeyedGate) → IsKept d points read driven → record_at d.gates key ≡ Some x → netlist (without_keyed_gate d key) ≡ without_gate (netlist d) x.name
unfolding netlist
netlist_gate_removed d points read driven key x h there =
    let es : List (ℕ × GateEntry) = named_gates d.nets d.gates in
    let entry : ℕ × KeyedGate → ℕ × GateEntry = λ e. (e.0, entry_in d.nets e.1) in
    let keys : Apart (λ e. e.0) es = apart_map (λ (e : ℕ × GateEntry). e.0) entry d.gates (gate_keys_apart d points read driven h) in
    let names : Apart (λ e. e.1.name) es = apart_map (λ (e : ℕ × GateEntry). e.1.name) entry d.gates (gates_apart d points read driven h) in
    let at : record_at es key ≡ Some (entry_in d.nets x) = record_map (entry_in d.nets) d.gates key ∙ ap (λ o. option_map (entry_in d.nets) o) there in
    ap (λ (l : List (ℕ × GateEntry)). record (netlist d) { gates = records_of l }) (sym (filter_map (λ (e : ℕ × GateEntry). not (e.0 == key)) entry d.gates))
    ∙ ap (λ (l : List GateEntry). record (netlist d) { gates = l }) (records_without (λ (g : GateEntry). g.name) es key (entry_in d.nets x) keys names at)
