use Rattle.std.proofs.Common.{◌∙◌, ◌+◌, ◌<◌, length, subst, arith}
use Rattle.catalog.specs.kept.Columns.{entries_in}
use Rattle.catalog.specs.kept.Gaps.{AreCounts}
use Rattle.catalog.proofs.CellLemmas.{cell_within}
use Rattle.catalog.proofs.GapLemmas.{index_by_counts}
use Rattle.catalog.proofs.ListLemmas.{slice_get_some}
use Rattle.catalog.proofs.order.Order.index_of.Goals as goal

pub overflow_add-result : goal.overflow_add-result
overflow_add-result g c =
    let cells = c.self.inside.cells in
    let place = c.args.place in
    let count = c.count_before.result in
    let there : place < length (entries_in cells) = rw c.self.view_is c.requires in
    let counts = c.self.inside.gaps.counts.numbers.items in
    let cell = index_by_counts cells counts place count there (subst (λ l. AreCounts l counts) c.self.invariant c.self.inside.gaps.counted) c.count_before.ensures in
    let some = slice_get_some (entries_in cells) place there in
    let within = cell_within cells (place + count) some.0 (cell ∙ some.1) in
    omega (arith, within, c.len-len.ensures)

pub returns : goal.returns
returns g c =
    let cells = c.self.inside.cells in
    let there : c.args.place < length (entries_in cells) = rw c.self.view_is c.requires in
    let counts = c.self.inside.gaps.counts.numbers.items in
    rw (← c.self.view_is)
    (index_by_counts cells counts c.args.place c.count_before.result there (subst (λ l. AreCounts l counts) c.self.invariant c.self.inside.gaps.counted) c.count_before.ensures)
