use Rattle.std.proofs.Common.{◌∙◌, ap, subst, arith}
use Rattle.event_queue.specs.kept.Noted.{AreSame, noted}
use Rattle.event_queue.specs.kept.Lists.{in_ring}
use Rattle.event_queue.proofs.Rows.{lists_of, row_moved, whole_lists}
use Rattle.event_queue.proofs.row.Row.move_on.Goals as goal

pub returns : goal.returns
returns c =
    let from = c.self.inside.from in let lists = c.self.inside.lists.items in let to = c.max-self-inside.result in
    subst (λ q. AreSame q (in_ring 64 to (lists_of lists))) c.self.view_is
    (row_moved from to (lists_of lists) (whole_lists lists c.self.invariant.full) (omega arith) (λ u above low. ap (λ q. noted q u) c.self.view_is ∙ c.requires u (omega arith)))
