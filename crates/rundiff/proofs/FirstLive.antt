-- Before moment 0: outside of what edits touched both designs are the same.
use Rattle.std.proofs.Common.{◌≡◌, ℕ, ◌+◌, ◌<◌, ◌∙◌, ap, sym, refl, List, [], ◌∷◌, Bool, true, false, not, map, length, Option, Some, arith, All, ◌≢◌, AllPairs, IsSome, is_some}
use Rattle.std.specs.Cmp.Lexicographic.{pointwise}
use Rattle.std.specs.List.{filter, position_from}
use Rattle.std.specs.Option.{option_map, option_map_or}
use Rattle.std.proofs.lemmas.List.Elements.{All-filter, All-from_get_or}
use Rattle.std.proofs.lemmas.List.Folds.{list_any_at}
use Rattle.std.proofs.lemmas.Bool.{eqb-true, false_from_ne_true}
use Rattle.fourstate.specs.kept.DelayLaws.{delays_itself}
use Rattle.fourstate.specs.kept.GateLaws.{kind_itself}
use Rattle.fourstate.specs.kept.ValueLaws.{same_self}
use Rattle.catalog.specs.Catalog.{record_at, records_of}
use Rattle.catalog.specs.kept.Catalog.{place_of}
use Rattle.catalog.proofs.EntryLemmas.{record_at_place}
use Rattle.design.specs.Connections.{Connection, to_net, to_constant}
use Rattle.design.specs.Keys.{Keyed, KeyedGate, entry_in, name_of, netlist}
use Rattle.design.specs.kept.Keys.{AreKeys, driver_keys, drives_key, gate_by_key, net_by_key}
use Rattle.design.specs.Names.{same_name}
use Rattle.design.specs.Netlist.{GateEntry, NetEntry, drivers_of, net_named}
use Rattle.edits.specs.kept.Touched.{IsTouched, is_touched}
use Rattle.waveform.proofs.Lists.{filter-map}
use Rattle.scratch.proofs.Stirred.{same_self_name}
use Rattle.scratch.proofs.Lists.{same_put}
use Rattle.scratch.proofs.Moments.{map_twice}
use Rattle.scratch.proofs.Runs.{map_where}
use Rattle.rundiff.specs.Dirty.{is_new, same_connection, same_gate}
use Rattle.rundiff.specs.kept.Fronts.{AreTouched}
use Rattle.rundiff.specs.kept.Places.{blank_gate, blank_net, is_among, is_live, net_at}
use Rattle.rundiff.specs.kept.Kept.{IsClosed, IsSameNet}
use Rattle.rundiff.proofs.ByKey.{gate_placed, some_mapped}
use Rattle.rundiff.proofs.ByPlace.{live_at, position_at}
use Rattle.rundiff.proofs.Lists.{filter_where}
use Rattle.rundiff.proofs.ReaderKeys.{entry_at, keyed_at, net_entry_at, placed}

connection_itself : (c : Connection) → same_connection c c ≡ true
connection_itself (to_net name) = same_self_name name
connection_itself (to_constant v) = same_self v

inputs_itself : (cs : List Connection) → pointwise same_connection cs cs ≡ true
inputs_itself [] = refl
inputs_itself (c ∷ cs) = let one = connection_itself c in rw one (inputs_itself cs)

gate_itself : (g : GateEntry) → same_gate g g ≡ true
gate_itself g = rw (same_self_name g.name, kind_itself g.kind, delays_itself g.delays, same_self_name g.output, inputs_itself g.inputs) refl

-- the design has each of its gates
known_by_key : (d : Keyed) → AreKeys d → (key : ℕ) (g : KeyedGate) → gate_by_key d key ≡ Some g → is_new (netlist d) (entry_in d.nets g) ≡ false
known_by_key d keys key g found =
    let e = entry_in d.nets g in let one = gate_placed d keys key g found in
    ap not (list_any_at (same_gate e) (netlist d).gates one.0 blank_gate one.1.low (ap (same_gate e) one.1.gate ∙ gate_itself e))

-- the drivers of the net of a key, each with its key
abbrev drivers_in : Keyed → ℕ → List (ℕ × KeyedGate)
drivers_in d key = filter (λ e. drives_key e.1 key) d.gates

abbrev named_at : Keyed → ℕ → Option GateEntry
named_at d k = option_map (entry_in d.nets) (gate_by_key d k)

-- the drivers by their keys
by_keys : (d : Keyed) → AreKeys d → (key : ℕ) → map (named_at d) (driver_keys d key) ≡ map (λ g. Some g) (map (entry_in d.nets) (filter (λ g. drives_key g key) (records_of d.gates)))
by_keys d keys key =
    let here : All (λ e. record_at d.gates e.0 ≡ Some e.1) (drivers_in d key) =
    All-filter (λ e. drives_key e.1 key) (λ e. record_at d.gates e.0 ≡ Some e.1) d.gates (record_at_place d.gates keys.distinct_gates) in
    map_twice (λ (e : ℕ × KeyedGate). e.0) (named_at d) (drivers_in d key)
    ∙ map_where (λ (e : ℕ × KeyedGate). record_at d.gates e.0 ≡ Some e.1) (λ e. named_at d e.0) (λ e. Some (entry_in d.nets e.1)) (λ e found. ap (option_map (entry_in d.nets)) found) (drivers_in d key) here
    ∙ sym (map_twice (λ (e : ℕ × KeyedGate). e.1) (λ g. Some (entry_in d.nets g)) (drivers_in d key))
    ∙ ap (map (λ (g : KeyedGate). Some (entry_in d.nets g))) (sym (filter-map (λ (e : ℕ × KeyedGate). e.1) (λ g. drives_key g key) d.gates))
    ∙ sym (map_twice (entry_in d.nets) (λ g. Some g) (filter (λ g. drives_key g key) (records_of d.gates)))

module _ (old new : Keyed) (old_keys : AreKeys old) (keys : AreKeys new) (distinct : AllPairs (λ n m. n.name ≢ m.name) (netlist new).nets)
    (places_law : (key : ℕ) → IsSome (net_by_key new key) → position_from (λ n. same_name n.name (name_of new.nets key)) 0 (netlist new).nets ≡ place_of new.nets key)
    (old_names : (key : ℕ) → net_named (netlist old) (name_of old.nets key) ≡ net_by_key old key)
    (old_drivers : (key : ℕ) → IsSome (net_by_key old key) → drivers_of (netlist old) (name_of old.nets key) ≡ map (entry_in old.nets) (filter (λ g. drives_key g key) (records_of old.gates)))
    (new_drivers : (key : ℕ) → IsSome (net_by_key new key) → drivers_of (netlist new) (name_of new.nets key) ≡ map (entry_in new.nets) (filter (λ g. drives_key g key) (records_of new.gates)))
    (nets gates places : List ℕ) (touched : IsTouched old new nets gates) (are : AreTouched new nets gates places) (live : ℕ → Bool) (covers : (p : ℕ) → is_among places p ≡ true → live p ≡ true) where
  never : {Z : Type 0} (b : Bool) → b ≡ true → b ≡ false → Z
  never b on off = let no : true ≡ false = sym on ∙ off in absurd (cc)

  -- a gate with an output that is not live was not touched
  gate_untouched : (k : ℕ) (g : KeyedGate) → gate_by_key new k ≡ Some g → IsSome (net_by_key new g.output) → is_live (netlist new) live (name_of new.nets g.output) ≡ false → is_touched gates k ≡ false
  gate_untouched k g found there off =
      let place = placed new.nets g.output there in let p : ℕ = place.0 in
      let at : place_of new.nets g.output ≡ Some p = place.1 in
      let lives : live p ≡ false = sym (ap (λ (o : Option ℕ). option_map_or live o false) (places_law g.output there ∙ at)) ∙ off in
      false_from_ne_true (is_touched gates k) (λ on. never (live p) (covers p (are.of_gates k on g found p at)) lives)

  -- a net that is not live
  module _ (k : ℕ) (low : k < length (netlist new).nets) (off : is_live (netlist new) live (net_at (netlist new) k).name ≡ false) where
    abbrev x : NetEntry
    x = net_at (netlist new) k

    dead : live k ≡ false
    dead = sym (live_at (netlist new) live k distinct low) ∙ off

    module _ (key : ℕ) (found : net_by_key new key ≡ Some x) where
      there : IsSome (net_by_key new key)
      there = ap (λ (o : Option NetEntry). is_some o) found

      named : name_of new.nets key ≡ x.name
      named = ap (λ (o : Option NetEntry). option_map_or (λ m. m.name) o []) found

      at : place_of new.nets key ≡ Some k
      at =
          let e : 0 + k ≡ k = omega arith in
          sym (places_law key there) ∙ ap (λ (name : List ℕ). position_from (λ n. same_name n.name name) 0 (netlist new).nets) named
          ∙ position_at (netlist new).nets 0 k blank_net distinct low ∙ ap (λ (i : ℕ). Some i) e

      free : is_touched nets key ≡ false
      free = false_from_ne_true (is_touched nets key) (λ on. never (live k) (covers k (are.of_nets key on k at)) dead)

      same : net_by_key old key ≡ Some x
      same = sym (touched.nets_stay key free) ∙ found

      old_there : IsSome (net_by_key old key)
      old_there = ap (λ (o : Option NetEntry). is_some o) same

      old_named : name_of old.nets key ≡ x.name
      old_named = ap (λ (o : Option NetEntry). option_map_or (λ m. m.name) o []) same

      driver_stays : (e : ℕ × KeyedGate) → (record_at new.gates e.0 ≡ Some e.1) × (drives_key e.1 key ≡ true) → named_at new e.0 ≡ named_at old e.0
      driver_stays e facts =
          let output : key ≡ e.1.output = eqb-true key e.1.output facts.1 in
          let at_output : place_of new.nets e.1.output ≡ Some k = ap (place_of new.nets) (sym output) ∙ at in
          touched.names_stay e.0 (false_from_ne_true (is_touched gates e.0) (λ on. never (live k) (covers k (are.of_gates e.0 on e.1 facts.0 k at_output)) dead))

      drivers_same : map (named_at new) (driver_keys new key) ≡ map (named_at old) (driver_keys old key)
      drivers_same =
          let P : ℕ × KeyedGate → Type 0 = λ e. (record_at new.gates e.0 ≡ Some e.1) × (drives_key e.1 key ≡ true) in
          let all : All P (drivers_in new key) = filter_where (λ e. drives_key e.1 key) P new.gates (λ q d within on. (record_at_place new.gates keys.distinct_gates q d within, on)) in
          map_twice (λ (e : ℕ × KeyedGate). e.0) (named_at new) (drivers_in new key)
          ∙ map_where P (λ e. named_at new e.0) (λ e. named_at old e.0) driver_stays (drivers_in new key) all
          ∙ sym (map_twice (λ (e : ℕ × KeyedGate). e.0) (named_at old) (drivers_in new key))
          ∙ ap (map (named_at old)) (touched.drivers_stay key free)

      same_net : IsSameNet (netlist old) (netlist new) x
      same_net =
          record {
            net = ap (net_named (netlist old)) (sym old_named) ∙ old_names key ∙ same;
            drivers =
                ap (drivers_of (netlist old)) (sym old_named) ∙ old_drivers key old_there
                ∙ same_put (map (entry_in old.nets) (filter (λ g. drives_key g key) (records_of old.gates))) (map (entry_in new.nets) (filter (λ g. drives_key g key) (records_of new.gates)))
                (sym (by_keys old old_keys key) ∙ sym drivers_same ∙ by_keys new keys key)
                ∙ sym (new_drivers key there) ∙ ap (drivers_of (netlist new)) named;
          }

  pub first_closed : IsClosed (netlist old) (netlist new) (is_live (netlist new) live)
  first_closed =
      record {
        gates = All-from_get_or (λ g. is_live (netlist new) live g.output ≡ false → is_new (netlist old) g ≡ false) (netlist new).gates blank_gate (λ k low off.
            let key = (keyed_at new k).0 in let g = (keyed_at new k).1 in
            let facts = entry_at new keys k low in
            let free = gate_untouched key g facts.found facts.there (ap (λ (h : GateEntry). is_live (netlist new) live h.output) (sym facts.entry) ∙ off) in
            let was = some_mapped (entry_in old.nets) (gate_by_key old key) (entry_in new.nets g) (sym (ap (option_map (entry_in new.nets)) facts.found) ∙ touched.names_stay key free) in
            ap (is_new (netlist old)) (facts.entry ∙ was.2) ∙ known_by_key old old_keys key was.0 was.1);
        nets = All-from_get_or (λ n. is_live (netlist new) live n.name ≡ false → IsSameNet (netlist old) (netlist new) n) (netlist new).nets blank_net (λ k low off.
            let one = net_entry_at new keys k low in same_net k low off one.0 one.1);
      }
