use Rattle.std.proofs.Common.{◌∙◌, ap, subst}
use Rattle.event_queue.specs.kept.Noted.{AreSame, noted}
use Rattle.event_queue.specs.kept.Lists.{in_ring}
use Rattle.event_queue.proofs.Rows.{lists_of, row_started, whole_lists}
use Rattle.event_queue.proofs.row.Row.start_at.Goals as goal

pub returns : goal.returns
returns c =
    let lists = c.self.inside.lists.items in let to = c.min-self-inside.result in
    subst (λ q. AreSame q (in_ring 64 to (lists_of lists))) c.self.view_is
    (row_started c.self.inside.from to (lists_of lists) (whole_lists lists c.self.invariant.full) (λ u. ap (λ q. noted q u) c.self.view_is ∙ c.requires u))
