use Rattle.std.proofs.Common.{◌∙◌, ◌%◌, [], ap, sym, get_or}
use Rattle.event_queue.specs.kept.Noted.{noted}
use Rattle.event_queue.proofs.Rows.{beside, is_beside, lists_of, near, nth, past, whole_lists}
use Rattle.event_queue.proofs.row.Row.numbers.Goals as goal

pub returns-then-not-is_near : goal.returns-then-not-is_near
returns-then-not-is_near c =
    let from = c.self.inside.from in let lists = c.self.inside.lists.items in
    sym (ap (λ q. noted q c.args.t) (sym c.self.view_is) ∙ beside from (lists_of lists) (whole_lists lists c.self.invariant.full) c.args.t (is_beside from c.args.t c.is_near.result c.is_near.ensures c.if-not-is_near.true))

pub returns-in-Some : goal.returns-in-Some
returns-in-Some c =
    let from = c.self.inside.from in let lists = c.self.inside.lists.items in let t = c.args.t in let seen = c.deref.result.now in
    let is_near = c.is_near.ensures.0 c.if-not-is_near.false in
    c.as_slice.ensures.value ∙ sym (nth seen (t % 64) c.in-Some.numbers.now c.in-Some.ensures.lookup.3.0 c.in-Some.ensures.lookup.1)
    ∙ ap (λ l. get_or (lists_of l) (t % 64) []) c.deref.ensures.value ∙ sym (near from (lists_of lists) (whole_lists lists c.self.invariant.full) t is_near.0 is_near.1) ∙ ap (λ q. noted q t) c.self.view_is

pub returns-in-None : goal.returns-in-None
returns-in-None c =
    let from = c.self.inside.from in let lists = c.self.inside.lists.items in let t = c.args.t in let seen = c.deref.result.now in
    let is_near = c.is_near.ensures.0 c.if-not-is_near.false in
    sym (past seen (t % 64) c.in-None.ensures.lookup.3)
    ∙ ap (λ l. get_or (lists_of l) (t % 64) []) c.deref.ensures.value ∙ sym (near from (lists_of lists) (whole_lists lists c.self.invariant.full) t is_near.0 is_near.1) ∙ ap (λ q. noted q t) c.self.view_is
