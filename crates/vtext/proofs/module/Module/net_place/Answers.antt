use Rattle.vtext.proofs.NetPlaces.{at_places}
use Rattle.vtext.proofs.module.Module.net_place.Goals as goal

pub returns-clause-net : goal.returns-clause-net
returns-clause-net c =
    rw (← c.self.view_is) (at_places c.args.name c.self.inside.nets.entries c.get_index_of.result c.get_index_of.ensures.index c.get_index_of.ensures.value)
