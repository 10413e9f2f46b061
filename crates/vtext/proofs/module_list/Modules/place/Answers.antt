use Rattle.vtext.proofs.NetPlaces.{at_places}
use Rattle.vtext.proofs.module_list.Modules.place.Goals as goal

pub returns-clause-module : goal.returns-clause-module
returns-clause-module c =
    rw (← c.self.view_is) (at_places c.args.name c.self.inside.modules.entries c.get_index_of.result c.get_index_of.ensures.index c.get_index_of.ensures.value)
