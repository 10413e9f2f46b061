-- The readers of a net by name are those of its key.
use Rattle.std.proofs.Common.{◌≡◌, ℕ, zero, suc, ◌<◌, ◌≤◌, ◌∙◌, ap, sym, List, [], ◌∷◌, Bool, true, false, cond, map, take, length, Option, Some, arith, All, take_all}
use Rattle.std.specs.Prelude.{slice_get, slice_index_or, is_some, ◌==◌, IsSome}
use Rattle.std.specs.List.{filter, list_any, position_from}
use Rattle.std.specs.Option.{option_map, option_map_or}
use Rattle.std.proofs.lemmas.Map.Keys.{any_passes_from_place}
use Rattle.std.proofs.lemmas.Option.{get_or_from_slice_get, slice_get-get_or}
use Rattle.std.proofs.lemmas.Bool.{eq-eqb, eqb-true, or_right, or_left}
use Rattle.fourstate.specs.Delays.{uniform_delays}
use Rattle.fourstate.specs.declared.gate.GateKind.TheVariants.{Buf}
use Rattle.catalog.specs.Catalog.{record_at, records_of}
use Rattle.catalog.specs.kept.Catalog.{keys_of, place_of}
use Rattle.catalog.proofs.EntryLemmas.{entry_at as entry_facts}
use Rattle.catalog.proofs.ListLemmas.{position_find}
use Rattle.design.specs.declared.terminal.Terminal.{Terminal}
use Rattle.design.specs.declared.terminal.Terminal.TheVariants.{Net, Constant}
use Rattle.design.specs.Keys.{Keyed, KeyedGate, connection_in, entry_in, name_of, netlist}
use Rattle.design.specs.kept.Keys.{AreKeys, IsConnected, IsThere, gate_by_key, is_at, net_by_key, reader_keys, reads_key}
use Rattle.design.specs.Names.{same_name}
use Rattle.design.specs.Netlist.{GateEntry, NetEntry, is_at_net, reads}
use Rattle.design.proofs.ByNameLemmas.{all_at, gate_at_is}
use Rattle.design.proofs.DesignLemmas.{gate_count_is, net_count_is}
use Rattle.design.proofs.EntryLemmas.{any_map}
use Rattle.design.proofs.LookLemmas.{place_there, some_is}
use Rattle.design.proofs.NameLemmas.{name_is}
use Rattle.edits.proofs.TouchLemmas.{there_of}
use Rattle.scratch.proofs.Among.{any_from, nat_itself}
use Rattle.rundiff.specs.kept.Places.{blank_gate, blank_net, gate_at, is_among, is_live, net_at}

-- what stands in for an entry that is not there
abbrev no_net : ℕ × NetEntry
no_net = (0, blank_net)

abbrev no_gate : ℕ × KeyedGate
no_gate = (0, record { name = []; kind = Buf; delays = uniform_delays 0; output = 0; inputs = [] })

pub placed : {X : Type 0} (es : List (ℕ × X)) (key : ℕ) → IsSome (record_at es key) → (q : ℕ) × (place_of es key ≡ Some q)
placed es key there = some_is (place_of es key) (place_there es key ∙ there)

module _ (d : Keyed) (law : (key : ℕ) → IsSome (net_by_key d key) → position_from (λ n. same_name n.name (name_of d.nets key)) 0 (netlist d).nets ≡ place_of d.nets key) where
  -- two keys of one name are one key
  same_key : (k l : ℕ) → IsSome (net_by_key d k) → IsSome (net_by_key d l) → name_of d.nets k ≡ name_of d.nets l → k ≡ l
  same_key k l there too names =
      let one = placed d.nets k there in
      let same : place_of d.nets k ≡ place_of d.nets l = sym (law k there) ∙ ap (λ (name : List ℕ). position_from (λ n. same_name n.name name) 0 (netlist d).nets) names ∙ law l too in
      let e = slice_index_or d.nets one.0 no_net in
      let mine : e.0 ≡ k = eqb-true e.0 k (position_find (λ e. e.0 == k) one.0 d.nets no_net one.1).1 in
      sym mine ∙ eqb-true e.0 l (position_find (λ e. e.0 == l) one.0 d.nets no_net (sym same ∙ one.1)).1

  at_key : (t : Terminal) (key : ℕ) → IsThere d.nets t → IsSome (net_by_key d key) → is_at_net (name_of d.nets key) (connection_in d.nets t) ≡ true → is_at t key ≡ true
  at_key (Net k) key is there on =
      let e : key ≡ k = same_key key k there is (sym (name_is (name_of d.nets k) (name_of d.nets key) on)) in
      ap (λ (l : ℕ). key == l) (sym e) ∙ nat_itself key
  at_key (Constant v) key is there on = cc

  any_at_key : (ts : List Terminal) (key : ℕ) → All (IsThere d.nets) ts → IsSome (net_by_key d key) → list_any (is_at_net (name_of d.nets key)) (map (connection_in d.nets) ts) ≡ true → list_any (λ t. is_at t key) ts ≡ true
  any_at_key ts key are there on =
      let test : Terminal → Bool = λ t. is_at_net (name_of d.nets key) (connection_in d.nets t) in
      let f = any_from test ts (sym (any_map (is_at_net (name_of d.nets key)) (connection_in d.nets) ts) ∙ on) in
      any_passes_from_place (λ t. is_at t key) ts f.0 f.1 f.2 (at_key f.1 key (all_at (IsThere d.nets) ts f.0 f.1 are f.2) there f.3)

listed_at : {X : Type 0} (test : ℕ × X → Bool) (es : List (ℕ × X)) (q : ℕ) (e : ℕ × X) → slice_get es q ≡ Some e → test e ≡ true → is_among (keys_of (filter test es)) e.0 ≡ true
listed_at test [] q e at on = absurd (cc)
listed_at {X} test (f ∷ es) zero e at on = let same : f ≡ e = cc in let passes : test f ≡ true = ap test same ∙ on in rw passes (or_left (f.0 == e.0) _ (eq-eqb f.0 e.0 (ap (λ (g : ℕ × X). g.0) same)))
listed_at {X} test (f ∷ es) (suc q) e at on =
    let rest = listed_at test es q e at on in
    elim (test f) as (λ b. is_among (keys_of (cond b (f ∷ filter test es) (filter test es))) e.0 ≡ true) [
      | true ↦ or_right (f.0 == e.0) (is_among (keys_of (filter test es)) e.0) rest
      | false ↦ rest
    ]

-- the gate at a place, with its key
abbrev pub keyed_at : Keyed → ℕ → ℕ × KeyedGate
keyed_at d place = slice_index_or d.gates place no_gate

pub record IsEntry (d : Keyed) (place : ℕ) : Type 0 where
  pub at : slice_get d.gates place ≡ Some (keyed_at d place)
  pub found : gate_by_key d (keyed_at d place).0 ≡ Some (keyed_at d place).1
  pub position : place_of d.gates (keyed_at d place).0 ≡ Some place
  pub entry : gate_at (netlist d) place ≡ entry_in d.nets (keyed_at d place).1
  pub connected : IsConnected d.nets (keyed_at d place).1
  pub there : IsSome (net_by_key d (keyed_at d place).1.output)

pub entry_at : (d : Keyed) → AreKeys d → (place : ℕ) → place < length (netlist d).gates → IsEntry d place
entry_at d keys place low =
    let at = slice_get-get_or d.gates place no_gate (let same = gate_count_is d in omega (arith, low, same)) in
    let facts = entry_facts d.gates keys.distinct_gates place (keyed_at d place) at in
    let connected : IsConnected d.nets (keyed_at d place).1 = all_at (IsConnected d.nets) (records_of d.gates) place (keyed_at d place).1 keys.connected facts.item in
    record {
      at = at;
      found = facts.there;
      position = facts.place;
      entry = get_or_from_slice_get (netlist d).gates place (entry_in d.nets (keyed_at d place).1) blank_gate (gate_at_is d place ∙ ap (option_map (entry_in d.nets)) facts.item);
      connected = connected;
      there = there_of (net_by_key d (keyed_at d place).1.output) (λ n. n.is_input ≡ false) connected.output;
    }

-- the gate at a place is a reader of a net by key where it reads it by name
pub reader_at : (d : Keyed) → AreKeys d → ((key : ℕ) → IsSome (net_by_key d key) → position_from (λ n. same_name n.name (name_of d.nets key)) 0 (netlist d).nets ≡ place_of d.nets key) →
    (key place : ℕ) (n : NetEntry) → net_by_key d key ≡ Some n → place < length (netlist d).gates → reads (gate_at (netlist d) place) n.name ≡ true → is_among (reader_keys d key) (keyed_at d place).0 ≡ true
reader_at d keys law key place n found low reading =
    let facts = entry_at d keys place low in
    let named : name_of d.nets key ≡ n.name = ap (λ (o : Option NetEntry). option_map_or (λ m. m.name) o []) found in
    let reads_it : reads (entry_in d.nets (keyed_at d place).1) (name_of d.nets key) ≡ true =
    ap (λ (g : GateEntry). reads g (name_of d.nets key)) (sym facts.entry) ∙ ap (reads (gate_at (netlist d) place)) named ∙ reading in
    listed_at (λ p. reads_key p.1 key) d.gates place (keyed_at d place) facts.at (any_at_key d law (keyed_at d place).1.inputs key facts.connected.inputs (ap (λ (o : Option NetEntry). is_some o) found) reads_it)

-- the readers of the net at a place, listed by their keys
module _ (d : Keyed) (keys : AreKeys d) (law : (key : ℕ) → IsSome (net_by_key d key) → position_from (λ n. same_name n.name (name_of d.nets key)) 0 (netlist d).nets ≡ place_of d.nets key)
    (key place : ℕ) (low : place < length (netlist d).nets) (net : net_by_key d key ≡ slice_get (netlist d).nets place) (readers : List ℕ) (i : ℕ) (past : length readers ≤ i) (are : readers ≡ reader_keys d key) where
  is_listed : (q : ℕ) → q < length (netlist d).gates → reads (gate_at (netlist d) q) (net_at (netlist d) place).name ≡ true → is_among (take i readers) (keyed_at d q).0 ≡ true
  is_listed q inside reading =
      ap (λ (l : List ℕ). is_among l (keyed_at d q).0) (take_all i readers past ∙ are)
      ∙ reader_at d keys law key q (net_at (netlist d) place) (net ∙ slice_get-get_or (netlist d).nets place blank_net low) inside reading

  -- what holds of their places holds of the gates that read it
  pub each_reader : (P : ℕ → Type 0) → ((k : ℕ) → is_among (take i readers) k ≡ true → (q : ℕ) → place_of d.gates k ≡ Some q → P q) → (q : ℕ) → q < length (netlist d).gates →
      reads (gate_at (netlist d) q) (net_at (netlist d) place).name ≡ true → P q
  each_reader P all q inside reading = all (keyed_at d q).0 (is_listed q inside reading) q (entry_at d keys q inside).position

  -- where the nets that they drive are live, the gates that read it drive live nets
  pub each_output : (live : ℕ → Bool) → ((k : ℕ) → is_among (take i readers) k ≡ true → (g : KeyedGate) → gate_by_key d k ≡ Some g → (p : ℕ) × (place_of d.nets g.output ≡ Some p) × (live p ≡ true)) →
      (q : ℕ) → q < length (netlist d).gates → reads (gate_at (netlist d) q) (net_at (netlist d) place).name ≡ true → is_live (netlist d) live (gate_at (netlist d) q).output ≡ true
  each_output live all q inside reading =
      let facts = entry_at d keys q inside in
      let out = all (keyed_at d q).0 (is_listed q inside reading) (keyed_at d q).1 facts.found in
      ap (λ (g : GateEntry). is_live (netlist d) live g.output) facts.entry
      ∙ ap (λ (o : Option ℕ). option_map_or live o false) (law (keyed_at d q).1.output facts.there ∙ out.1) ∙ out.2

-- a net, under its key
pub net_entry_at : (d : Keyed) → AreKeys d → (place : ℕ) → place < length (netlist d).nets → (k : ℕ) × (net_by_key d k ≡ Some (net_at (netlist d) place))
unfolding netlist
net_entry_at d keys place low =
    let e = slice_index_or d.nets place no_net in
    let facts = entry_facts d.nets keys.distinct_nets place e (slice_get-get_or d.nets place no_net (let same = net_count_is d in omega (arith, low, same))) in
    (e.0, facts.there ∙ ap (λ (n : NetEntry). Some n) (sym (get_or_from_slice_get (records_of d.nets) place e.1 blank_net facts.item)))
