-- The value of a net from the states of its drivers, which are found by their keys.
use Rattle.std.proofs.Common.{◌≡◌, ℕ, ◌+◌, ◌-◌, ◌<◌, ◌≤◌, ◌∙◌, ap, sym, List, [], ◌∷◌, Bool, false, cond, map, drop, length, get_or, Option, Some, arith, is_some, slice_get, IsSome}
use Rattle.std.proofs.lemmas.List.{drop_more}
use Rattle.std.specs.Option.{option_map, option_map_or}
use Rattle.std.proofs.lemmas.Option.{slice_get-get_or, get_or_from_slice_get}
use Rattle.fourstate.specs.declared.value.Value.{Value}
use Rattle.fourstate.specs.Nets.{net_of}
use Rattle.gatestep.specs.Step.{State, Evaluation, due}
use Rattle.catalog.specs.kept.Catalog.{place_of}
use Rattle.design.specs.Keys.{Keyed, name_of, netlist}
use Rattle.design.specs.kept.Keys.{driver_keys, net_by_key}
use Rattle.design.specs.Netlist.{GateEntry, NetEntry, drivers_of, stimulus}
use Rattle.design.specs.kept.Places.{driver_places}
use Rattle.scratch.specs.Run.{state_before, value}
use Rattle.scratch.proofs.Lists.{same_put}
use Rattle.scratch.proofs.Moments.{map_twice}
use Rattle.rundiff.specs.kept.Places.{blank_net, gate_at, net_at}
use Rattle.rundiff.proofs.ByPlace.{drivers_at}

-- an element that was read
pub read_get : {X : Type 0} (xs : List X) (i : ℕ) (x : X) → i < length xs → x ≡ get_or xs i x → slice_get xs i ≡ Some x
read_get {X} xs i x low at = slice_get-get_or xs i x low ∙ ap (λ (y : X). Some y) (sym at)

-- one element more, before the others
pub map_before : {X Y : Type 0} (f : X → Y) (xs : List X) (i : ℕ) (x : X) (y : Y) (ys : List Y) → 0 < i → i ≤ length xs → x ≡ get_or xs (i - 1) x → y ≡ f x → ys ≡ map f (drop i xs) → y ∷ ys ≡ map f (drop (i - 1) xs)
map_before {X} {Y} f xs i x y ys some within at same so_far =
    let back : i ≡ i - 1 + 1 = omega arith in
    let rest : drop (i - 1) xs ≡ get_or xs (i - 1) x ∷ drop (i - 1 + 1) xs = drop_more xs (i - 1) x (omega arith) in
    let first : y ≡ f (get_or xs (i - 1) x) = same ∙ ap f at in
    let others : ys ≡ map f (drop (i - 1 + 1) xs) = so_far ∙ ap (λ (k : ℕ). map f (drop k xs)) back in
    (λ j. first j ∷ others j) ∙ ap (map f) (sym rest)

pub driven_is : (answer : Evaluation → ℕ → State) (keyed : Keyed) (key place t : ℕ) (n : NetEntry) (values : List Value) (v : Value) →
    slice_get (netlist keyed).nets place ≡ Some n → net_by_key keyed key ≡ Some n → n.is_input ≡ false →
    (IsSome (net_by_key keyed key) → map (λ gate. place_of keyed.gates gate) (driver_keys keyed key) ≡ map (λ place. Some place) (driver_places (netlist keyed).gates (name_of keyed.nets key))) →
    map (λ v. Some v) values ≡ map (λ gate. option_map (λ place. (due (state_before answer (netlist keyed) t (gate_at (netlist keyed) place)) t).current) (place_of keyed.gates gate)) (driver_keys keyed key) →
    v ≡ net_of n.kind values → v ≡ value answer (netlist keyed) (net_at (netlist keyed) place) t
driven_is answer keyed key place t n values v at found driven law so_far is =
    let d = netlist keyed in
    let f : GateEntry → Value = λ g. (due (state_before answer d t g) t).current in
    let look : ℕ → Value = λ p. f (gate_at d p) in
    let named : name_of keyed.nets key ≡ n.name = ap (λ (o : Option NetEntry). option_map_or (λ m. m.name) o []) found in
    let places : List ℕ = driver_places d.gates n.name in
    let those : map (λ v. Some v) values ≡ map (λ v. Some v) (map look places) =
    so_far
    ∙ sym (map_twice (λ gate. place_of keyed.gates gate) (λ o. option_map look o) (driver_keys keyed key))
    ∙ ap (map (λ (o : Option ℕ). option_map look o)) (law (ap (λ (o : Option NetEntry). is_some o) found))
    ∙ map_twice (λ place. Some place) (λ o. option_map look o) (driver_places d.gates (name_of keyed.nets key))
    ∙ sym (map_twice look (λ v. Some v) (driver_places d.gates (name_of keyed.nets key)))
    ∙ ap (λ (name : List ℕ). map (λ v. Some v) (map look (driver_places d.gates name))) named in
    let all : values ≡ map f (drivers_of d n.name) = same_put values (map look places) those ∙ drivers_at d f n.name in
    is ∙ ap (net_of n.kind) all
    ∙ sym (ap (λ (b : Bool). cond b (stimulus n.points t) (net_of n.kind (map f (drivers_of d n.name)))) driven)
    ∙ sym (ap (λ (x : NetEntry). value answer d x t) (get_or_from_slice_get d.nets place n blank_net at))
