use Rattle.design.specs.kept.Shown.{design_of}
use Rattle.design.proofs.ByNameLemmas.{drivers_by_key, gate_by_name, named_by_key}
use Rattle.design.proofs.design.Design.names_are_keys.Goals as goal

pub returns-clause-nets : goal.returns-clause-nets
returns-clause-nets c =
    let a = c.self.inside in
    rw (← c.self.view_is) (λ key. named_by_key (design_of a) a.points a.wires.fanout a.wires.drivers key c.self.invariant)

pub returns-clause-drivers : goal.returns-clause-drivers
returns-clause-drivers c =
    let a = c.self.inside in
    rw (← c.self.view_is) (λ key there. drivers_by_key (design_of a) a.points a.wires.fanout a.wires.drivers key c.self.invariant there)

pub returns-clause-gates : goal.returns-clause-gates
returns-clause-gates c =
    let a = c.self.inside in
    rw (← c.self.view_is) (λ key gate there. gate_by_name (design_of a) a.points a.wires.fanout a.wires.drivers key gate c.self.invariant there)
