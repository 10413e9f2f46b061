use Rattle.std.proofs.Common.{◌≡◌, ◌∙◌, ap, sym, subst, true, IfOk}
use Rattle.event_queue.specs.kept.Noted.{IsAdded, noted}
use Rattle.event_queue.specs.kept.Lists.{in_ring}
use Rattle.event_queue.proofs.Changes.{held_err}
use Rattle.event_queue.proofs.Rows.{beside, is_beside, lists_of, one_added, one_same, whole_lists}
use Rattle.event_queue.proofs.row.Row.add.Goals as goal
use Rattle.event_queue.proofs.row.Row.add.Goals.{in-Some+in_ok-push-in-Some, in-None}

pub returns-then-not-is_near-clause-far : goal.returns-then-not-is_near-clause-far
returns-then-not-is_near-clause-far c = λ off.
    let from = c.self.inside.from in let lists = c.self.inside.lists.items in
    ap (λ q. noted q c.args.t) (sym c.self.view_is) ∙ beside from (lists_of lists) (whole_lists lists c.self.invariant.full) c.args.t (is_beside from c.args.t c.is_near.result c.is_near.ensures c.if-not-is_near.true)

pub returns-in_err-push-in-Some-clause-err : goal.returns-in_err-push-in-Some-clause-err
returns-in_err-push-in-Some-clause-err c =
    held_err c.from_residual.result
    (one_same c.args.self.now c.self.inside.from c.args.t c.self.inside.lists.items c.in-Some.numbers.now c.push.new.self c.self.view_is c.in-Some.ensures.item.1 c.in_err-push-in-Some.ensures.items)

pub returns-clause-near : goal.returns-clause-near
returns-clause-near c =
    let from = c.self.inside.from in let lists = c.self.inside.lists.items in let now = c.args.self.now in let t = c.args.t in
    let is_near = c.is_near.ensures.0 c.if-not-is_near.false in
    elim c.match-get_mut.branch [
      | in-Some+in_ok-push-in-Some w ↦
          subst (λ r. IfOk r (λ is_near. is_near ≡ true → IsAdded t c.args.number now (in_ring 64 c.match-get_mut.self-inside.from (lists_of c.match-get_mut.self-inside.lists.items)))) (sym w.result-is)
          (λ on. subst (λ inside. IsAdded t c.args.number now (in_ring 64 inside.from (lists_of inside.lists.items))) (sym w.self-inside-is)
          (one_added now from t lists w.in-Some.numbers.now w.push.new.self c.self.view_is w.in-Some.ensures.item.1 c.self.invariant.full is_near.0 is_near.1 w.in-Some.ensures.item.3.0 c.args.number w.in_ok-push-in-Some.ensures.items))
      | in-None w ↦
          subst (λ r. IfOk r (λ is_near. is_near ≡ true → IsAdded t c.args.number now (in_ring 64 c.match-get_mut.self-inside.from (lists_of c.match-get_mut.self-inside.lists.items)))) (sym w.result-is)
          (λ on. absurd (cc))
    ]
