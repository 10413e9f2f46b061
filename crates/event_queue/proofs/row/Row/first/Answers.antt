use Rattle.std.proofs.Common.{◌∙◌, ap, sym, inl, inr, arith}
use Rattle.event_queue.specs.kept.Noted.{noted}
use Rattle.event_queue.proofs.Rows.{beside, either, lists_of, whole_lists}
use Rattle.event_queue.proofs.row.Row.first.Goals as goal

pub loop-t-init : goal.loop-t-init
loop-t-init c = λ u low.
    let from = c.self.inside.from in let lists = c.self.inside.lists.items in
    ap (λ q. noted q u) (sym c.self.view_is) ∙ beside from (lists_of lists) (whole_lists lists c.self.invariant.full) u (inl low)

pub returns-clause-none : goal.returns-clause-none
returns-clause-none c = λ u.
    let from = c.self.inside.from in let lists = c.self.inside.lists.items in
    elim (either u c.loop-t.t) [
      | inl low ↦ c.loop-t.invariant u low
      | inr past ↦ ap (λ q. noted q u) (sym c.self.view_is) ∙ beside from (lists_of lists) (whole_lists lists c.self.invariant.full) u (inr (omega arith))
    ]
