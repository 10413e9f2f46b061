use Rattle.std.proofs.Common.{◌∙◌, ◌%◌, ap, sym, subst}
use Rattle.event_queue.specs.kept.Noted.{IsTaken, noted}
use Rattle.event_queue.specs.kept.Lists.{in_ring}
use Rattle.event_queue.proofs.Changes.{nothing_taken}
use Rattle.event_queue.proofs.Rows.{beside, is_beside, lists_of, near, one_taken, past, whole_lists}
use Rattle.event_queue.proofs.row.Row.empty.Goals as goal
use Rattle.event_queue.proofs.row.Row.empty.Goals.{in-Some, in_default}

pub returns-then-not-is_near : goal.returns-then-not-is_near
returns-then-not-is_near c =
    let from = c.self.inside.from in let lists = c.self.inside.lists.items in
    nothing_taken c.args.t c.args.self.now
    (ap (λ q. noted q c.args.t) (sym c.self.view_is) ∙ beside from (lists_of lists) (whole_lists lists c.self.invariant.full) c.args.t (is_beside from c.args.t c.is_near.result c.is_near.ensures c.if-not-is_near.true))

pub returns : goal.returns
returns c =
    let from = c.self.inside.from in let lists = c.self.inside.lists.items in let t = c.args.t in
    let is_near = c.is_near.ensures.0 c.if-not-is_near.false in
    elim c.match-get_mut.branch [
      | in-Some w ↦
          subst (λ inside. IsTaken t c.args.self.now (in_ring 64 inside.from (lists_of inside.lists.items))) (sym w.self-inside-is)
          (one_taken c.args.self.now from t lists w.in-Some.numbers.now w.clear.new.self c.self.view_is w.in-Some.ensures.item.1 c.self.invariant.full is_near.0 is_near.1 w.in-Some.ensures.item.3.0 w.clear.ensures.items)
      | in_default w ↦
          subst (λ inside. IsTaken t c.args.self.now (in_ring 64 inside.from (lists_of inside.lists.items))) (sym w.self-inside-is)
          (subst (λ q. IsTaken t q (in_ring 64 from (lists_of lists))) c.self.view_is
          (nothing_taken t (in_ring 64 from (lists_of lists)) (near from (lists_of lists) (whole_lists lists c.self.invariant.full) t is_near.0 is_near.1 ∙ past lists (t % 64) w.in_default.ensures.item.3)))
    ]
