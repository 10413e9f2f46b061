use Rattle.std.proofs.Common.{◌≡◌, ◌∙◌, ap, sym, length, arith}
use Rattle.event_queue.specs.kept.Noted.{noted}
use Rattle.event_queue.proofs.Rows.{emptied, each_empty, lists_of, none_noted, past, whole_lists}
use Rattle.event_queue.proofs.row.Row.make_lists.Goals as goal

pub returns-in_ok-self-inside : goal.returns-in_ok-self-inside
returns-in_ok-self-inside c = λ u.
    let from = c.self.inside.from in let old = c.self.inside.lists.items in let new = c.in_ok-self-inside.field-0.items in
    none_noted from (lists_of new) (whole_lists new (λ some. c.in_ok-self-inside.ensures.many)) (λ k. each_empty new c.in_ok-self-inside.ensures.empty k (search arith)) u
    ∙ sym (none_noted from (lists_of old) (whole_lists old c.self.invariant.full) (λ k. past old k (let none : length old ≡ 0 = ap (λ l. length l) (emptied old c.self.inside.lists.len c.is_empty.result (omega arith) c.is_empty.ensures c.if-is_empty.true) in omega arith)) u)
    ∙ ap (λ q. noted q u) c.self.view_is
