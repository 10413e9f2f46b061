use Rattle.std.proofs.Common.{◌≤◌, ◌<◌, ◌+◌, sym, ◌∙◌, [], suc, length, append-nil, arith, refl, ⊎_elim}
use Rattle.design.specs.Keys.{netlist}
use Rattle.ordering.specs.kept.Earlier.{begin_after}
use Rattle.ordering.proofs.Coming.{among, gates_ready, follow_far, some_asked, some_in_part}
use Rattle.gatestep.proofs.Jobs.{on_err}
use Rattle.ordering.proofs.in_order.follow_each.Goals as goal

pub loop-first-init : goal.loop-first-init
loop-first-init g c =
    record {
      within = omega arith;
      follow = c.requires.follow;
      fit = c.requires.fit;
      found = c.requires.found;
      traced = λ p on. absurd (cc);
      asked = sym (append-nil (g.S.Stepper.asked c.args.stepper.now));
      lost = refl;
    }

pub follow_here-requires-clause-ready : goal.follow_here-requires-clause-ready
follow_here-requires-clause-ready g c =
    let inv = c.loop-first.invariant in let first = c.loop-first.first in let low : first < length c.args.order.now = c.loop-first-test.true in
    gates_ready g.S.Stepper.answer (netlist c.args.design.now) c.args.wiring.now c.requires.wired c.loop-first.lines.traces.items c.args.order.now first (first + 1)
    (omega arith) (omega arith) [] (λ p on. absurd (cc)) inv.traced inv.follow (λ i more less. absurd (omega arith))

pub returns-in_err-follow_here-clause-part : goal.returns-in_err-follow_here-clause-part
returns-in_err-follow_here-clause-part g c =
    let d = netlist c.args.design.now in let asked = g.S.Stepper.asked in let first = c.loop-first.first in let end = first + 1 in
    let low : first ≤ end = omega arith in
    on_err c.from_residual.result
    (some_in_part g.S.Stepper.answer d c.args.begin.old (begin_after c.args.begin.earlier) (suc d.horizon) c.args.order.now first end low
    (asked c.args.stepper.now) (asked c.loop-first.stepper) (asked c.follow_here.new.stepper) c.loop-first.invariant.asked c.in_err-follow_here.ensures.part)

pub loop-first-preserved : goal.loop-first-preserved
loop-first-preserved g c =
    let answer = g.S.Stepper.answer in let d = netlist c.args.design.now in let asked = g.S.Stepper.asked in let order = c.args.order.now in
    let inv = c.loop-first.invariant in let first = c.loop-first.first in let end = c.loop-first.first + 1 in
    let some : first < end = omega arith in let room : first < length order = c.loop-first-test.true in let within : end ≤ length order = omega arith in
    let low : first ≤ end = omega arith in
    record {
      within = within;
      follow = follow_far d order first end low within inv.follow;
      fit = c.in_ok-follow_here.ensures.fit;
      found = c.in_ok-follow_here.ensures.found;
      traced = λ p on.
          ⊎_elim (λ before. c.in_ok-follow_here.ensures.kept p (inv.traced p before)) (λ now. c.in_ok-follow_here.ensures.traced p now)
          (among answer d c.args.wiring.now c.requires.wired c.loop-first.lines.traces.items order first end some within p on);
      asked = some_asked answer d c.args.begin.old (begin_after c.args.begin.earlier) (suc d.horizon) order first end low (asked c.args.stepper.now) (asked c.loop-first.stepper) (asked c.follow_here.new.stepper) inv.asked c.in_ok-follow_here.ensures.asked;
      lost = c.follow_here.ensures.lost ∙ inv.lost;
    }
