use Rattle.std.proofs.Common.{◌∙◌, sym, ap}
use Rattle.catalog.specs.kept.Columns.{cell_at}
use Rattle.catalog.specs.kept.Gaps.{gaps_from}
use Rattle.catalog.proofs.GapLemmas.{gaps_set, some_cell}
use Rattle.catalog.proofs.order.Order.set.Goals as goal

pub invariant_of-self-2 : goal.invariant_of-self-2
invariant_of-self-2 g c =
    let cells = c.self.inside.cells in
    let at = some_cell (cell_at cells c.args.index) (rw c.self.view_is c.requires) in
    c.self.invariant ∙ sym (ap (λ l. gaps_from 0 l) c.in_ok-set.ensures.ok ∙ gaps_set 0 cells c.args.index at.0 c.args.entry at.1)
