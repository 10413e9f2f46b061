use Rattle.std.proofs.Common.{◌≡◌, Some, sym, ◌∙◌}
use Rattle.catalog.specs.Catalog.{record_at}
use Rattle.design.specs.kept.Shown.{design_of}
use Rattle.design.proofs.LookLemmas.{some_is}
use Rattle.design.proofs.UseLemmas.{used_by_driver, used_by_reader}
use Rattle.design.proofs.design.Design.is_used.Goals as goal

pub returns-then-not-is_empty : goal.returns-then-not-is_empty
returns-then-not-is_empty c =
    let a = c.self.inside in
    let found = some_is (record_at a.nets c.args.net) (rw (← c.self.view_is) at c.requires) in
    let there : record_at a.nets c.args.net ≡ Some found.0 = found.1 in
    rw (← c.self.view_is, there) (used_by_reader (design_of a) a.points a.wires.fanout a.wires.drivers c.args.net found.0 c.list_at.result.now c.self.invariant there (c.list_at.ensures ∙ c.self.invariant.readers_listed c.args.net) (sym c.if-not-is_empty.ensures))

pub returns : goal.returns
returns c =
    let a = c.self.inside in
    let found = some_is (record_at a.nets c.args.net) (rw (← c.self.view_is) at c.requires) in
    let there : record_at a.nets c.args.net ≡ Some found.0 = found.1 in
    rw (← c.self.view_is, there, c.is_empty-2.ensures)
    (used_by_driver (design_of a) a.points a.wires.fanout a.wires.drivers c.args.net found.0 c.list_at.result.now c.list_at-2.result.now c.self.invariant there (c.list_at.ensures ∙ c.self.invariant.readers_listed c.args.net) (sym c.if-not-is_empty.ensures) (c.list_at-2.ensures ∙ c.self.invariant.drivers_listed c.args.net))
