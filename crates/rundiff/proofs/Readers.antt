-- Readers and drivers of nets, by keys and by places.
use Rattle.std.proofs.Common.{◌≡◌, ℕ, ◌+◌, ◌<◌, ◌≤◌, ◌∙◌, ap, sym, refl, List, [], Bool, true, false, is_some, map, take, length, Option, Some, None, arith, take_all}
use Rattle.std.specs.Prelude.{slice_get, IsSome, ◌||◌, ◌==◌, ◌≢◌, AllPairs}
use Rattle.std.specs.List.{list_any, position_from}
use Rattle.std.specs.Option.{option_map_or}
use Rattle.std.proofs.lemmas.Bool.{eqb-true, or_left}
use Rattle.std.proofs.lemmas.Option.{slice_get-get_or}
use Rattle.catalog.specs.kept.Catalog.{place_of}
use Rattle.catalog.proofs.ListLemmas.{position_find}
use Rattle.design.specs.Keys.{Keyed, KeyedGate, name_of, netlist}
use Rattle.design.specs.kept.Keys.{driver_keys, net_by_key}
use Rattle.design.specs.kept.Places.{driver_places}
use Rattle.design.specs.Names.{same_name}
use Rattle.design.specs.Netlist.{Netlist, GateEntry, NetEntry}
use Rattle.design.proofs.EntryLemmas.{any_map}
use Rattle.design.proofs.NameLemmas.{name_is}
use Rattle.scratch.proofs.Stirred.{same_self_name}
use Rattle.scratch.proofs.Among.{any_more, nat_itself}
use Rattle.scratch.proofs.Passing.{has_place, in_list}
use Rattle.rundiff.specs.kept.Fronts.{AreDrivers}
use Rattle.rundiff.specs.kept.Places.{blank_gate, blank_net, gate_at, is_among, is_live, net_at}
use Rattle.rundiff.proofs.ByPlace.{live_at}
use Rattle.rundiff.proofs.Among.{among_has}

-- whether a gate is among the drivers of a net
pub driver_at : (d : Netlist) (name : List ℕ) (p : ℕ) → p < length d.gates → is_among (driver_places d.gates name) p ≡ same_name (gate_at d p).output name
driver_at d name p low =
    among_has (driver_places d.gates name) p ∙ has_place (λ g. same_name g.output name) d.gates p
    ∙ ap (λ (o : Option GateEntry). option_map_or (λ g. same_name g.output name) o false) (slice_get-get_or d.gates p blank_gate low)

pub driver_low : (d : Netlist) (name : List ℕ) (p : ℕ) → is_among (driver_places d.gates name) p ≡ true → p < length d.gates
driver_low d name p on =
    in_list (λ g. same_name g.output name) d.gates p
    (sym (has_place (λ g. same_name g.output name) d.gates p) ∙ sym (among_has (driver_places d.gates name) p) ∙ on)

-- the drivers of the net at a place, listed by their keys
pub listed_drivers : (d : Keyed) (key place p : ℕ) → place < length (netlist d).nets → net_by_key d key ≡ slice_get (netlist d).nets place →
    ((k : ℕ) → IsSome (net_by_key d k) → map (λ gate. place_of d.gates gate) (driver_keys d k) ≡ map (λ q. Some q) (driver_places (netlist d).gates (name_of d.nets k))) →
    (drivers : List ℕ) (i : ℕ) → length drivers ≤ i → drivers ≡ driver_keys d key →
    list_any (λ k. option_map_or (λ q. q == p) (place_of d.gates k) false) (take i drivers) ≡ is_among (driver_places (netlist d).gates (net_at (netlist d) place).name) p
listed_drivers d key place p low net law drivers i past are =
    let there = net ∙ slice_get-get_or (netlist d).nets place blank_net low in
    let test : Option ℕ → Bool = λ o. option_map_or (λ q. q == p) o false in
    ap (list_any (λ k. test (place_of d.gates k))) (take_all i drivers past ∙ are) ∙ sym (any_map test (λ k. place_of d.gates k) (driver_keys d key))
    ∙ ap (list_any test) (law key (ap (λ (o : Option NetEntry). is_some o) there)) ∙ any_map test (λ q. Some q) (driver_places (netlist d).gates (name_of d.nets key))
    ∙ ap (λ (o : Option NetEntry). is_among (driver_places (netlist d).gates (option_map_or (λ m. m.name) o [])) p) there

-- one driver more
pub driver_more : (gates : List (ℕ × KeyedGate)) (drivers : List ℕ) (i k gate p : ℕ) → slice_get drivers i ≡ Some k → Some gate ≡ place_of gates k →
    list_any (λ k. option_map_or (λ q. q == p) (place_of gates k) false) (take (i + 1) drivers) ≡ (list_any (λ k. option_map_or (λ q. q == p) (place_of gates k) false) (take i drivers) || (gate == p))
driver_more gates drivers i k gate p at place =
    let test : ℕ → Bool = λ k. option_map_or (λ q. q == p) (place_of gates k) false in
    any_more test drivers i k at ∙ ap (λ (o : Option ℕ). list_any test (take i drivers) || option_map_or (λ q. q == p) o false) (sym place)

-- which names are live, one net more
module _ (d : Netlist) (distinct : AllPairs (λ n m. n.name ≢ m.name) d.nets) (place : ℕ) (low : place < length d.nets) (live more : ℕ → Bool) (adds : (p : ℕ) → more p ≡ (p == place || live p)) where
  abbrev name : List ℕ
  name = (net_at d place).name

  by_position : (out : List ℕ) (o : Option ℕ) → position_from (λ n. same_name n.name out) 0 d.nets ≡ o → same_name out name ≡ false → option_map_or more o false ≡ option_map_or live o false
  by_position out None is off = refl
  by_position out (Some q) is off =
      let on : same_name (net_at d q).name out ≡ true = (position_find (λ n. same_name n.name out) q d.nets blank_net is).1 in
      adds q ∙ elim (q == place) as (λ b. (q == place) ≡ b → (b || live q) ≡ live q) [
        | true ↦ λ same.
            let named : name ≡ out = ap (λ (j : ℕ). (net_at d j).name) (sym (eqb-true q place same)) ∙ name_is (net_at d q).name out on in
            let no : true ≡ false = sym (same_self_name name) ∙ ap (λ (m : List ℕ). same_name m name) named ∙ off in absurd (cc)
        | false ↦ λ apart. refl
      ] refl

  pub live_more : (out : List ℕ) → is_live d more out ≡ (same_name out name || is_live d live out)
  live_more out =
      elim (same_name out name) as (λ b. same_name out name ≡ b → is_live d more out ≡ (b || is_live d live out)) [
        | true ↦ λ same.
            ap (λ (m : List ℕ). is_live d more m) (name_is out name same) ∙ live_at d more place distinct low ∙ adds place ∙ or_left (place == place) (live place) (nat_itself place)
        | false ↦ λ off. by_position out (position_from (λ n. same_name n.name out) 0 d.nets) refl off
      ] refl

  pub drivers_more : (held kept : ℕ → Bool) → ((p : ℕ) → kept p ≡ (is_among (driver_places d.gates name) p || held p)) → AreDrivers d live held → AreDrivers d more kept
  drivers_more held kept holds before =
      record {
        nets = λ p on. by_net p (p == place) refl (sym (adds p) ∙ on);
        gates = λ p on. by_gate p (is_among (driver_places d.gates name) p) refl (sym (holds p) ∙ on);
        drivers = λ p within.
            holds p
            ∙ ap (λ (b : Bool). b || held p) (driver_at d name p within)
            ∙ ap (λ (b : Bool). same_name (gate_at d p).output name || b) (before.drivers p within)
            ∙ sym (live_more (gate_at d p).output);
      }
    where
      by_net : (p : ℕ) (b : Bool) → (p == place) ≡ b → (p == place || live p) ≡ true → p < length d.nets
      by_net p true same on = let e = eqb-true p place same in omega arith
      by_net p false apart on = before.nets p (sym (ap (λ (b : Bool). b || live p) apart) ∙ on)

      by_gate : (p : ℕ) (b : Bool) → is_among (driver_places d.gates name) p ≡ b → (is_among (driver_places d.gates name) p || held p) ≡ true → p < length d.gates
      by_gate p true among on = driver_low d name p among
      by_gate p false off on = before.gates p (sym (ap (λ (b : Bool). b || held p) off) ∙ on)
