-- What single changes touch, and what two lists of changes touch together.
use Rattle.std.proofs.Common.{◌≡◌, ℕ, Bool, true, false, ◌==◌, ◌||◌, List, [], ◌∷◌, ◌++◌, Option, Some, None, option_map, IfSome, IsSome, sym, refl, ap, ◌∙◌}
use Rattle.std.specs.Prelude.{IsSomeAnd}
use Rattle.std.proofs.lemmas.Bool.{eq-eqb, ne_eqb, both_ways}
use Rattle.std.proofs.lemmas.List.Folds.{list_any-append}
use Rattle.catalog.specs.Catalog.{record_at, records_of}
use Rattle.design.specs.Keys.{Keyed, KeyedGate, entry_in, named_gates, netlist}
use Rattle.design.specs.kept.Keys.{AreKeys, driver_keys, drives_key, gate_by_key, net_by_key, with_gate_at, with_keyed_gate, with_keyed_net, with_net_at, without_keyed_gate, without_keyed_net}
use Rattle.design.specs.Netlist.{NetEntry, Netlist}
use Rattle.edits.specs.kept.Touched.{IsTouched, is_touched}
use Rattle.edits.proofs.KeyLemmas.{each_weaker, only, passing_push, passing_with, passing_without, readings_alike, record_push, record_with, record_without}

-- Lists of keys.

neither : (a b : Bool) → (a || b) ≡ false → (a ≡ false) × (b ≡ false)
neither true b off = cc
neither false b off = (refl, off)

-- the one key of a list
alone : (key k : ℕ) → is_touched (key ∷ []) k ≡ false → (key == k) ≡ false
alone key k off = (neither (key == k) false off).0

-- a key that is in neither of two lists
apart : (xs ys : List ℕ) (k : ℕ) → is_touched (xs ++ ys) k ≡ false → (is_touched xs k ≡ false) × (is_touched ys k ≡ false)
apart xs ys k off = neither (is_touched xs k) (is_touched ys k) (sym (list_any-append (λ j. j == k) xs ys) ∙ off)

-- the net that a gate drives, asked from both sides
undriven : (output k : ℕ) → (output == k) ≡ false → (k == output) ≡ false
undriven output k off = ne_eqb k output (λ same. both_ways (output == k) off (eq-eqb output k (sym same)))

-- what something holds of is there
pub there_of : {X : Type 0} (o : Option X) (P : X → Type 0) → IsSomeAnd o P → IsSome o
there_of (Some x) P h = refl
there_of None P h = absurd h

-- Lists of changes.

pub nothing_touched : (d : Keyed) → IsTouched d d [] []
nothing_touched d = record { nets_stay = λ k off. refl; drivers_stay = λ k off. refl; gates_stay = λ k off. refl; names_stay = λ k off. refl }

pub touched_on : (a b c : Keyed) (nets more_nets gates more_gates : List ℕ) → IsTouched a b nets gates → IsTouched b c more_nets more_gates → IsTouched a c (nets ++ more_nets) (gates ++ more_gates)
touched_on a b c nets more_nets gates more_gates before after = record {
  nets_stay = λ k off. let o = apart nets more_nets k off in after.nets_stay k o.1 ∙ before.nets_stay k o.0;
  drivers_stay = λ k off. let o = apart nets more_nets k off in after.drivers_stay k o.1 ∙ before.drivers_stay k o.0;
  gates_stay = λ k off. let o = apart gates more_gates k off in after.gates_stay k o.1 ∙ before.gates_stay k o.0;
  names_stay = λ k off. let o = apart gates more_gates k off in after.names_stay k o.1 ∙ before.names_stay k o.0;
}

-- Changes of nets: the gates stay, by key and by name.

pub net_touched : (d new : Keyed) (key : ℕ) → new.gates ≡ d.gates → ((k : ℕ) → (key == k) ≡ false → record_at new.nets k ≡ record_at d.nets k) → (netlist new).gates ≡ (netlist d).gates → IsTouched d new (key ∷ []) []
unfolding netlist
net_touched d new key gates nets named = record {
  nets_stay = λ k off. nets k (alone key k off);
  drivers_stay = λ k off. ap (λ gs. driver_keys (record d { gates = gs }) k) gates;
  gates_stay = λ k off. ap (λ gs. record_at gs k) gates;
  names_stay = λ k off.
      ap (λ gs. option_map (entry_in new.nets) (record_at gs k)) gates
      ∙ readings_alike (entry_in new.nets) (entry_in d.nets) d.gates k (ap (λ gs. records_of (named_gates new.nets gs)) (sym gates) ∙ named);
}

pub net_added : (d new : Keyed) (n : NetEntry) (key : ℕ) → new ≡ with_keyed_net d n key → (netlist new).gates ≡ (netlist d).gates → IsTouched d new (key ∷ []) []
net_added d new n key is named =
    net_touched d new key (ap (λ m. m.gates) is) (λ k off. ap (λ m. record_at m.nets k) is ∙ record_push d.nets key n k off) named

-- what a change of a net that is there says of the gates by name
gates_named_by : (d : Keyed) (m : Netlist) (change : NetEntry → Netlist) (o : Option NetEntry) → ((n : NetEntry) → (change n).gates ≡ (netlist d).gates) → IsSome o → IfSome o (λ n. m ≡ change n) → m.gates ≡ (netlist d).gates
gates_named_by d m change (Some n) gates there is = ap (λ l. l.gates) is ∙ gates n
gates_named_by d m change None gates there is = absurd (cc)

pub net_dropped : (d new : Keyed) (key : ℕ) (by_name : NetEntry → Netlist) → ((n : NetEntry) → (by_name n).gates ≡ (netlist d).gates) → IsSome (net_by_key d key) → new ≡ without_keyed_net d key → IfSome (net_by_key d key) (λ n. netlist new ≡ by_name n) → IsTouched d new (key ∷ []) []
net_dropped d new key by_name gates there is named =
    net_touched d new key (ap (λ m. m.gates) is) (λ k off. ap (λ m. record_at m.nets k) is ∙ record_without d.nets key k off) (gates_named_by d (netlist new) by_name (net_by_key d key) gates there named)

net_replaced_by : (d new : Keyed) (key : ℕ) (change : NetEntry → NetEntry) (o : Option NetEntry) → IsSome o → IfSome o (λ n. new ≡ with_net_at d key (change n)) → (netlist new).gates ≡ (netlist d).gates → IsTouched d new (key ∷ []) []
net_replaced_by d new key change (Some n) there is named =
    net_touched d new key (ap (λ m. m.gates) is) (λ k off. ap (λ m. record_at m.nets k) is ∙ record_with d.nets key (change n) k off) named
net_replaced_by d new key change None there is named = absurd (cc)

pub net_replaced : (d new : Keyed) (key : ℕ) (change : NetEntry → NetEntry) (by_name : NetEntry → Netlist) → ((n : NetEntry) → (by_name n).gates ≡ (netlist d).gates) → IsSome (net_by_key d key) → IfSome (net_by_key d key) (λ n. new ≡ with_net_at d key (change n)) → IfSome (net_by_key d key) (λ n. netlist new ≡ by_name n) → IsTouched d new (key ∷ []) []
net_replaced d new key change by_name gates there is named =
    net_replaced_by d new key change (net_by_key d key) there is (gates_named_by d (netlist new) by_name (net_by_key d key) gates there named)

-- Changes of gates: the nets stay.

gate_touched : (d new : Keyed) (nets : List ℕ) (key : ℕ) → new.nets ≡ d.nets → ((k : ℕ) → (key == k) ≡ false → record_at new.gates k ≡ record_at d.gates k) → ((k : ℕ) → is_touched nets k ≡ false → driver_keys new k ≡ driver_keys d k) → IsTouched d new nets (key ∷ [])
gate_touched d new nets key same gates drivers = record {
  nets_stay = λ k off. ap (λ ns. record_at ns k) same;
  drivers_stay = drivers;
  gates_stay = λ k off. gates k (alone key k off);
  names_stay = λ k off. ap (λ ns. option_map (entry_in ns) (record_at new.gates k)) same ∙ ap (option_map (entry_in d.nets)) (gates k (alone key k off));
}

pub gate_added : (d new : Keyed) (g : KeyedGate) (output key : ℕ) → g.output ≡ output → new ≡ with_keyed_gate d g key → IsTouched d new (output ∷ []) (key ∷ [])
gate_added d new g output key drives is =
    gate_touched d new (output ∷ []) key (ap (λ m. m.nets) is) (λ k off. ap (λ m. record_at m.gates k) is ∙ record_push d.gates key g k off)
    (λ k off.
    ap (λ m. driver_keys m k) is
    ∙ passing_push (λ h. drives_key h k) d.gates key g (ap (λ n. k == n) drives ∙ undriven output k (alone output k off)))

pub gate_dropped : (d new : Keyed) (g : KeyedGate) (output key : ℕ) → AreKeys d → gate_by_key d key ≡ Some g → output ≡ g.output → new ≡ without_keyed_gate d key → IsTouched d new (output ∷ []) (key ∷ [])
gate_dropped d new g output key keys at drives is =
    gate_touched d new (output ∷ []) key (ap (λ m. m.nets) is) (λ k off. ap (λ m. record_at m.gates k) is ∙ record_without d.gates key k off)
    (λ k off.
    let free : (k == output) ≡ false = undriven output k (alone output k off) in
    ap (λ m. driver_keys m k) is
    ∙ passing_without (λ h. drives_key h k) d.gates key
    (each_weaker (λ e. (e.0 == key) ≡ true → e.1 ≡ g) (λ e. (e.0 == key) ≡ true → drives_key e.1 k ≡ false)
    (λ e same on. ap (λ h. drives_key h k) (same on) ∙ ap (λ n. k == n) (sym drives) ∙ free) d.gates (only d.gates key g keys.distinct_gates at)))

gate_replaced : (d new : Keyed) (g h : KeyedGate) (nets : List ℕ) (key : ℕ) → AreKeys d → gate_by_key d key ≡ Some g → ((k : ℕ) → is_touched nets k ≡ false → drives_key h k ≡ drives_key g k) → new ≡ with_gate_at d key h → IsTouched d new nets (key ∷ [])
gate_replaced d new g h nets key keys at alike is =
    gate_touched d new nets key (ap (λ m. m.nets) is) (λ k off. ap (λ m. record_at m.gates k) is ∙ record_with d.gates key h k off)
    (λ k off.
    ap (λ m. driver_keys m k) is
    ∙ passing_with (λ f. drives_key f k) d.gates key h
    (each_weaker (λ e. (e.0 == key) ≡ true → e.1 ≡ g) (λ e. (e.0 == key) ≡ true → drives_key h k ≡ drives_key e.1 k)
    (λ e same on. alike k off ∙ ap (λ f. drives_key f k) (sym (same on))) d.gates (only d.gates key g keys.distinct_gates at)))

-- another gate of the same output
gate_set_by : (d new : Keyed) (key : ℕ) (change : KeyedGate → KeyedGate) (o : Option KeyedGate) → AreKeys d → gate_by_key d key ≡ o → ((g : KeyedGate) → (change g).output ≡ g.output) → IsSome o → IfSome o (λ g. new ≡ with_gate_at d key (change g)) → IsTouched d new [] (key ∷ [])
gate_set_by d new key change (Some g) keys at output there is = gate_replaced d new g (change g) [] key keys at (λ k off. ap (λ n. k == n) (output g)) is
gate_set_by d new key change None keys at output there is = absurd (cc)

pub gate_set : (d new : Keyed) (key : ℕ) (change : KeyedGate → KeyedGate) → AreKeys d → ((g : KeyedGate) → (change g).output ≡ g.output) → IsSome (gate_by_key d key) → IfSome (gate_by_key d key) (λ g. new ≡ with_gate_at d key (change g)) → IsTouched d new [] (key ∷ [])
gate_set d new key change keys output there is = gate_set_by d new key change (gate_by_key d key) keys refl output there is

gate_rewired_by : (d new : Keyed) (g : KeyedGate) (change : KeyedGate → KeyedGate) (from to key : ℕ) (o : Option KeyedGate) → AreKeys d → gate_by_key d key ≡ Some g → gate_by_key d key ≡ o → from ≡ g.output → ((h : KeyedGate) → (change h).output ≡ to) → IfSome o (λ h. new ≡ with_gate_at d key (change h)) → IsTouched d new (from ∷ to ∷ []) (key ∷ [])
gate_rewired_by d new g change from to key (Some h) keys at is left taken made =
    gate_replaced d new g (change h) (from ∷ to ∷ []) key keys at
    (λ k off.
    let both = neither (from == k) (is_touched (to ∷ []) k) off in
    ap (λ n. k == n) (taken h) ∙ undriven to k (alone to k both.1) ∙ sym (undriven from k both.0) ∙ ap (λ n. k == n) left)
    made
gate_rewired_by d new g change from to key None keys at is left taken made = absurd (cc)

-- a gate at another output
pub gate_rewired : (d new : Keyed) (g : KeyedGate) (change : KeyedGate → KeyedGate) (from to key : ℕ) → AreKeys d → gate_by_key d key ≡ Some g → from ≡ g.output → ((h : KeyedGate) → (change h).output ≡ to) → IfSome (gate_by_key d key) (λ h. new ≡ with_gate_at d key (change h)) → IsTouched d new (from ∷ to ∷ []) (key ∷ [])
gate_rewired d new g change from to key keys at left taken made = gate_rewired_by d new g change from to key (gate_by_key d key) keys at refl left taken made
