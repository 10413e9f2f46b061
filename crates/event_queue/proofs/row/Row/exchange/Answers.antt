use Rattle.std.proofs.Common.{◌≡◌, ◌∙◌, ◌%◌, ap, sym, subst}
use Rattle.event_queue.specs.kept.Noted.{IsTaken, noted}
use Rattle.event_queue.specs.kept.Lists.{in_ring}
use Rattle.event_queue.proofs.Changes.{nothing_taken}
use Rattle.event_queue.proofs.Rows.{beside, is_beside, lists_of, near, one_taken, one_there, past, whole_lists}
use Rattle.event_queue.proofs.row.Row.exchange.Goals as goal
use Rattle.event_queue.proofs.row.Row.exchange.Goals.{in-Some, in_default}

pub returns-then-not-is_near-clause-numbers : goal.returns-then-not-is_near-clause-numbers
returns-then-not-is_near-clause-numbers c =
    let from = c.self.inside.from in let lists = c.self.inside.lists.items in
    c.requires ∙ sym (ap (λ q. noted q c.args.t) (sym c.self.view_is) ∙ beside from (lists_of lists) (whole_lists lists c.self.invariant.full) c.args.t (is_beside from c.args.t c.is_near.result c.is_near.ensures c.if-not-is_near.true))

pub returns-then-not-is_near-clause-rest : goal.returns-then-not-is_near-clause-rest
returns-then-not-is_near-clause-rest c =
    let from = c.self.inside.from in let lists = c.self.inside.lists.items in
    nothing_taken c.args.t c.args.self.now
    (ap (λ q. noted q c.args.t) (sym c.self.view_is) ∙ beside from (lists_of lists) (whole_lists lists c.self.invariant.full) c.args.t (is_beside from c.args.t c.is_near.result c.is_near.ensures c.if-not-is_near.true))

pub returns-clause-numbers : goal.returns-clause-numbers
returns-clause-numbers c =
    let from = c.self.inside.from in let lists = c.self.inside.lists.items in let now = c.args.self.now in let t = c.args.t in
    let is_near = c.is_near.ensures.0 c.if-not-is_near.false in
    elim c.match-get_mut.branch [
      | in-Some w ↦
          subst (λ out. out.items ≡ noted now t) (sym w.out-is)
          (ap (λ list. list.items) w.swap.ensures.y_after
          ∙ sym (one_there now from t lists w.in-Some.numbers.now w.swap.new.x c.self.view_is w.in-Some.ensures.item.1 c.self.invariant.full is_near.0 is_near.1 w.in-Some.ensures.item.3.0))
      | in_default w ↦
          subst (λ out. out.items ≡ noted now t) (sym w.out-is)
          (c.requires ∙ sym (ap (λ q. noted q t) (sym c.self.view_is) ∙ near from (lists_of lists) (whole_lists lists c.self.invariant.full) t is_near.0 is_near.1 ∙ past lists (t % 64) w.in_default.ensures.item.3))
    ]

pub returns-clause-rest : goal.returns-clause-rest
returns-clause-rest c =
    let from = c.self.inside.from in let lists = c.self.inside.lists.items in let t = c.args.t in
    let is_near = c.is_near.ensures.0 c.if-not-is_near.false in
    elim c.match-get_mut.branch [
      | in-Some w ↦
          subst (λ inside. IsTaken t c.args.self.now (in_ring 64 inside.from (lists_of inside.lists.items))) (sym w.self-inside-is)
          (one_taken c.args.self.now from t lists w.in-Some.numbers.now w.swap.new.x c.self.view_is w.in-Some.ensures.item.1 c.self.invariant.full is_near.0 is_near.1 w.in-Some.ensures.item.3.0
          (ap (λ list. list.items) w.swap.ensures.x_after ∙ c.requires))
      | in_default w ↦
          subst (λ inside. IsTaken t c.args.self.now (in_ring 64 inside.from (lists_of inside.lists.items))) (sym w.self-inside-is)
          (subst (λ q. IsTaken t q (in_ring 64 from (lists_of lists))) c.self.view_is
          (nothing_taken t (in_ring 64 from (lists_of lists)) (near from (lists_of lists) (whole_lists lists c.self.invariant.full) t is_near.0 is_near.1 ∙ past lists (t % 64) w.in_default.ensures.item.3)))
    ]
