use Rattle.design.specs.kept.Shown.{design_of}
use Rattle.design.proofs.PlaceByNameLemmas.{driver_places_by_key, net_place_by_key}
use Rattle.design.proofs.design.Design.places_are_keys.Goals as goal

pub returns-clause-nets : goal.returns-clause-nets
returns-clause-nets c =
    let a = c.self.inside in
    rw (← c.self.view_is) (λ key there. net_place_by_key (design_of a) a.points a.wires.fanout a.wires.drivers key c.self.invariant there)

pub returns-clause-drivers : goal.returns-clause-drivers
returns-clause-drivers c =
    let a = c.self.inside in
    rw (← c.self.view_is) (λ key there. driver_places_by_key (design_of a) a.points a.wires.fanout a.wires.drivers key c.self.invariant there)
