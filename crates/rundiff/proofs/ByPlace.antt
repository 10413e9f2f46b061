-- Nets and gates by their places.
use Rattle.std.proofs.Common.{◌≡◌, ℕ, zero, suc, ◌+◌, ◌<◌, ◌∙◌, ap, refl, List, [], ◌∷◌, Bool, false, map, length, Option, Some, arith, sym}
use Rattle.std.specs.Prelude.{slice_get, slice_index_or, ◌≢◌, AllPairs, unwrap_or}
use Rattle.std.specs.List.{filter, position_from}
use Rattle.std.specs.Option.{option_map_or}
use Rattle.std.proofs.lemmas.Option.{slice_get-get_or, unwrap_or-slice_get}
use Rattle.std.proofs.Math.ListN.{get_or-map}
use Rattle.fourstate.specs.declared.value.Value.TheVariants.{Unknown}
use Rattle.gatestep.specs.Step.{State, Evaluation}
use Rattle.catalog.proofs.ListLemmas.{AllPairs-tail}
use Rattle.design.specs.Connections.{to_net}
use Rattle.design.specs.Names.{same_name}
use Rattle.design.specs.Netlist.{GateEntry, NetEntry, Netlist, net_named}
use Rattle.design.specs.kept.Places.{driver_places}
use Rattle.design.proofs.NameLemmas.{name_differs}
use Rattle.scratch.specs.Run.{value}
use Rattle.scratch.proofs.Stirred.{same_self_name}
use Rattle.scratch.proofs.Lists.{map_alike}
use Rattle.scratch.proofs.Places.{by_places}
use Rattle.rundiff.specs.kept.Places.{blank_net, blank_gate, gate_at, is_live, net_at}
use Rattle.rundiff.specs.kept.Kept.{read_at}
use Rattle.rundiff.proofs.Lists.{pairs_head}

-- what reads the net at a place reads its value
pub reads_place : (answer : Evaluation → ℕ → State) (d : Netlist) (name : List ℕ) (p m : ℕ) → p < length d.nets → net_named d name ≡ slice_get d.nets p →
    read_at answer d (to_net name) m ≡ value answer d (net_at d p) m
reads_place answer d name p m low found =
    ap (λ (o : Option NetEntry). option_map_or (λ x. value answer d x m) o Unknown) (found ∙ slice_get-get_or d.nets p blank_net low)

-- what is made of the element at a place, or of what stands for none
looked_up : {X Y : Type 0} (f : X → Y) (xs : List X) (d : X) (p : ℕ) → f (slice_index_or xs p d) ≡ unwrap_or (slice_get (map f xs) p) (f d)
looked_up f xs d p = sym (unwrap_or-slice_get (map f xs) p (f d) ∙ get_or-map f xs p d)

-- the drivers of a net, by their places
pub drivers_at : {Y : Type 0} (d : Netlist) (f : GateEntry → Y) (name : List ℕ) →
    map (λ p. f (gate_at d p)) (driver_places d.gates name) ≡ map f (filter (λ g. same_name g.output name) d.gates)
drivers_at d f name =
    map_alike (λ p. f (gate_at d p)) (λ p. unwrap_or (slice_get (map f d.gates) p) (f blank_gate)) (looked_up f d.gates blank_gate) (driver_places d.gates name)
    ∙ by_places (λ g. same_name g.output name) f (f blank_gate) 0 d.gates (map f d.gates) refl

-- the place of a net's name is its own
pub position_at : (ns : List NetEntry) (start k : ℕ) (d : NetEntry) → AllPairs (λ n m. n.name ≢ m.name) ns → k < length ns →
    position_from (λ n. same_name n.name (slice_index_or ns k d).name) start ns ≡ Some (start + k)
position_at [] start k d apart low = absurd (omega arith)
position_at (n ∷ ns) start zero d apart low = let is = same_self_name n.name in let e : start ≡ start + 0 = omega arith in rw is (ap (λ (i : ℕ). Some i) e)
position_at (n ∷ ns) start (suc k) d apart low =
    let other = name_differs n.name (slice_index_or ns k d).name (pairs_head (λ n m. n.name ≢ m.name) n ns apart k d (omega arith)) in
    let e : start + 1 + k ≡ start + suc k = omega arith in
    rw other (position_at ns (start + 1) k d (AllPairs-tail (λ n m. n.name ≢ m.name) n ns apart) (omega arith) ∙ ap (λ (i : ℕ). Some i) e)

-- whether a net is live, by its place
pub live_at : (d : Netlist) (live : ℕ → Bool) (p : ℕ) → AllPairs (λ n m. n.name ≢ m.name) d.nets → p < length d.nets → is_live d live (net_at d p).name ≡ live p
live_at d live p apart low =
    let e : 0 + p ≡ p = omega arith in
    ap (λ (o : Option ℕ). option_map_or live o false) (position_at d.nets 0 p blank_net apart low) ∙ ap live e
