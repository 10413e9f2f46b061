use Rattle.design.specs.Keys.{netlist}
use Rattle.design.specs.kept.Shown.{design_of}
use Rattle.design.proofs.DesignLemmas.{net_count_is}
use Rattle.design.proofs.design.Design.net_key_at.Goals as goal

pub returns-clause-net : goal.returns-clause-net
unfolding netlist
returns-clause-net c = rw (← c.self.view_is) c.key_at-number.ensures.there

pub key_at-number-requires : goal.key_at-number-requires
key_at-number-requires c = rw (net_count_is (design_of c.self.inside)) at (rw (← c.self.view_is) at c.requires)
