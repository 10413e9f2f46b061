use Rattle.std.proofs.Common.{is_some, ap, ◌∙◌}
use Rattle.design.specs.Keys.{netlist}
use Rattle.design.proofs.LookLemmas.{place_there}
use Rattle.design.specs.kept.Shown.{design_of}
use Rattle.design.proofs.DesignLemmas.{gate_count_is}
use Rattle.design.proofs.design.Design.gate_place_of.Goals as goal

pub returns-clause-there : goal.returns-clause-there
returns-clause-there c = rw (← c.self.view_is, ← c.gate.view_is) (ap (λ o. is_some o) c.place.ensures.place ∙ place_there c.self.inside.gates c.gate.inside.number)

pub returns-clause-gate : goal.returns-clause-gate
unfolding netlist
returns-clause-gate c = rw (← c.self.view_is, ← c.gate.view_is) c.place.ensures.there

pub returns-clause-within : goal.returns-clause-within
returns-clause-within c = rw (← c.self.view_is, gate_count_is (design_of c.self.inside)) c.place.ensures.within
