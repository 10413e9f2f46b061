use Rattle.std.proofs.Common.{◌≡◌, ◌<◌, ◌∙◌, sym, refl, true, false, length, get_or, arith}
use Rattle.std.proofs.Math.ListN.{length-set}
use Rattle.ordering.specs.kept.Order.{is_marked, may_come_by}
use Rattle.ordering.proofs.Marks.{follow_step, mark_next}
use Rattle.ordering.proofs.checking.mark_each.Goals as goal

pub loop-place-preserved : goal.loop-place-preserved
loop-place-preserved c =
    let order = c.args.order.now in let i = c.loop-place.place-index in let marks = c.loop-place.marks in
    let there = c.if-not-may_come.ensures.within refl in
    let many : length marks ≡ length c.args.wiring.now.cells.items = c.loop-place.invariant.many ∙ c.requires.many in
    let within : get_or order i 0 < length marks = omega arith in
    record {
      so_far =
          c.loop-place.invariant.so_far
          ∙ follow_step (may_come_by c.args.wiring.now) order i (is_marked marks) true c.loop-place-test.true c.loop-place.invariant.marked (sym c.if-not-may_come.ensures.may);
      marked = mark_next marks order i c.loop-place-test.true within c.loop-place.invariant.marked;
      many = length-set marks (get_or order i 0) true ∙ c.loop-place.invariant.many;
    }

pub returns-then-not-may_come-clause-follow : goal.returns-then-not-may_come-clause-follow
returns-then-not-may_come-clause-follow c =
    sym
    (c.loop-place.invariant.so_far
    ∙ follow_step (may_come_by c.args.wiring.now) c.args.order.now c.loop-place.place-index (is_marked c.loop-place.marks) false c.loop-place-test.true c.loop-place.invariant.marked (sym c.if-not-may_come.ensures.may))
