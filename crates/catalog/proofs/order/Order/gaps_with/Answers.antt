use Rattle.std.proofs.Common.{◌≡◌, ◌∙◌, ◌<◌, None, IfOk, length, ap, subst, arith}
use Rattle.std.specs.List.{insert, slice_set}
use Rattle.catalog.specs.kept.Columns.{cell_at}
use Rattle.catalog.specs.kept.Gaps.{Splits, gaps_from}
use Rattle.catalog.proofs.GapLemmas.{gap_low, gaps_clear, some_cell}
use Rattle.catalog.proofs.order.Order.gaps_with.Goals as goal

pub at-requires : goal.at-requires
at-requires g c =
    let cells = c.self.inside.cells in
    let index = c.args.index in
    let count = c.count_to.result in
    let at = some_cell (cell_at cells index) (rw c.self.view_is c.requires) in
    let splits = subst (λ l. Splits l index count) c.self.invariant c.count_to.ensures in
    let old = c.in_ok-indices.ensures.items_if_clones_equal (λ x y same. same) ∙ c.indices.ensures ∙ c.self.invariant in
    let new : c.insert.new.self.items ≡ gaps_from 0 (slice_set cells index None) =
    c.in_ok-insert.ensures.items ∙ ap (λ l. insert l count index) old ∙ gaps_clear 0 cells index index count at.0 (omega arith) at.1 splits in
    λ i within. let low = gap_low 0 (slice_set cells index None) i (subst (λ l. i < length l) new within) in rw new (omega (arith, low))

pub returns : goal.returns
returns g c =
    let cells = c.self.inside.cells in
    let index = c.args.index in
    let count = c.count_to.result in
    let at = some_cell (cell_at cells index) (rw c.self.view_is c.requires) in
    let splits = subst (λ l. Splits l index count) c.self.invariant c.count_to.ensures in
    let old = c.in_ok-indices.ensures.items_if_clones_equal (λ x y same. same) ∙ c.indices.ensures ∙ c.self.invariant in
    let new : c.insert.new.self.items ≡ gaps_from 0 (slice_set cells index None) =
    c.in_ok-insert.ensures.items ∙ ap (λ l. insert l count index) old ∙ gaps_clear 0 cells index index count at.0 (omega arith) at.1 splits in
    rw (← c.self.view_is) (subst (λ l. IfOk c.at.result (λ gaps. gaps.indices.numbers.items ≡ l)) new c.at.ensures)
