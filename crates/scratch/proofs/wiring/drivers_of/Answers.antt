use Rattle.std.proofs.Common.{◌≡◌, ℕ, List, [], Option, Some, None, IfSome, map, take, ap, ◌∙◌, arith}
use Rattle.std.specs.Option.{option_map_or}
use Rattle.std.proofs.lemmas.List.{take_all}
use Rattle.design.specs.Keys.{name_of, netlist}
use Rattle.design.specs.kept.Keys.{net_by_key}
use Rattle.design.specs.Netlist.{NetEntry}
use Rattle.design.specs.kept.Places.{driver_places, place_of}
use Rattle.scratch.proofs.Lists.{same_put}
use Rattle.scratch.proofs.wiring.drivers_of.Goals as goal

-- what is said of the name that a key gives is said of the net's
if_named : (o : Option NetEntry) (P : List ℕ → Type 0) → P (option_map_or (λ n. n.name) o []) → IfSome o (λ n. P n.name)
if_named None P h = tt
if_named (Some n) P h = h

pub returns : goal.returns
returns c =
    let k = c.args.design.now in
    let keys = c.drivers-drivers.result.now in
    let whole : take c.loop-driver.driver-index keys ≡ keys = take_all c.loop-driver.driver-index keys (omega arith) in
    let places : c.loop-driver.places.items ≡ driver_places (netlist k).gates (name_of k.nets c.args.net) =
    same_put c.loop-driver.places.items (driver_places (netlist k).gates (name_of k.nets c.args.net))
    (c.loop-driver.invariant ∙ ap (map (λ gate. place_of k.gates gate)) (whole ∙ c.drivers-drivers.ensures.drivers) ∙ c.places_are_keys.ensures.drivers c.args.net c.requires) in
    let P : List ℕ → Type 0 = λ name. c.loop-driver.places.items ≡ driver_places (netlist k).gates name in
    if_named (net_by_key k c.args.net) P places
