use Rattle.std.proofs.Common.{option_map, ap, ◌∙◌}
use Rattle.design.specs.Keys.{entry_in}
use Rattle.design.specs.kept.Keys.{IsConnected}
use Rattle.design.specs.kept.Shown.{design_of}
use Rattle.catalog.specs.Catalog.{records_of}
use Rattle.design.proofs.ByNameLemmas.{all_at, gate_at_is}
use Rattle.design.proofs.DesignLemmas.{gate_count_is}
use Rattle.design.proofs.design.Design.gate_at.Goals as goal

pub returns-clause-named : goal.returns-clause-named
returns-clause-named c =
    let a = c.self.inside in
    rw (← c.self.view_is) (gate_at_is (design_of a) c.args.place ∙ ap (λ o. option_map (entry_in a.nets) o) c.record_at_place.ensures)

pub returns-clause-connected : goal.returns-clause-connected
returns-clause-connected c =
    let a = c.self.inside in
    rw (← c.self.view_is) (all_at (IsConnected a.nets) (records_of a.gates) c.args.place c.record_at_place.result.now c.self.invariant.keys.connected c.record_at_place.ensures)

pub record_at_place-requires : goal.record_at_place-requires
record_at_place-requires c = rw (gate_count_is (design_of c.self.inside)) at (rw (← c.self.view_is) at c.requires)
