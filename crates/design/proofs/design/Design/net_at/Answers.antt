use Rattle.design.specs.Keys.{netlist}
use Rattle.design.specs.kept.Shown.{design_of}
use Rattle.design.proofs.DesignLemmas.{net_count_is}
use Rattle.design.proofs.design.Design.net_at.Goals as goal

pub record_at_place-requires : goal.record_at_place-requires
record_at_place-requires c = rw (net_count_is (design_of c.self.inside)) at (rw (← c.self.view_is) at c.requires)

pub returns : goal.returns
unfolding netlist
returns c = rw (← c.self.view_is) c.record_at_place.ensures
