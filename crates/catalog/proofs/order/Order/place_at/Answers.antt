use Rattle.std.proofs.Common.{subst, arith}
use Rattle.catalog.specs.kept.Columns.{cell_at}
use Rattle.catalog.specs.kept.Gaps.{Splits}
use Rattle.catalog.proofs.GapLemmas.{place_counted, some_cell}
use Rattle.catalog.proofs.order.Order.place_at.Goals as goal

pub overflow_sub-result : goal.overflow_sub-result
overflow_sub-result g c =
    let cells = c.self.inside.cells in
    let index = c.args.index in
    let count = c.count_to.result in
    let at = some_cell (cell_at cells index) (rw c.self.view_is c.requires) in
    let counted = place_counted 0 cells index index count at.0 (omega arith) at.1 (subst (λ l. Splits l index count) c.self.invariant c.count_to.ensures) in
    omega (arith, counted)

pub returns : goal.returns
returns g c =
    let cells = c.self.inside.cells in
    let index = c.args.index in
    let count = c.count_to.result in
    let at = some_cell (cell_at cells index) (rw c.self.view_is c.requires) in
    let counted = place_counted 0 cells index index count at.0 (omega arith) at.1 (subst (λ l. Splits l index count) c.self.invariant c.count_to.ensures) in
    rw (← c.self.view_is) (omega (arith, counted))
