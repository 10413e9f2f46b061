use Rattle.std.proofs.Common.{◌<◌, ◌∙◌, sym, ap, suc, take, length, get_or}
use Rattle.design.specs.Keys.{netlist}
use Rattle.gatestep.proofs.Jobs.{on_err}
use Rattle.scratch.specs.kept.Places.{has}
use Rattle.ordering.specs.kept.Come.{StayTraced}
use Rattle.ordering.specs.kept.Earlier.{begin_after}
use Rattle.ordering.proofs.Coming.{all_stay_ready}
use Rattle.ordering.proofs.Marks.{one_taken}
use Rattle.ordering.proofs.Steps.{one_asked, part_asked}
use Rattle.ordering.proofs.Supplied.{one_traced, stay_traced}
use Rattle.ordering.proofs.following.follow_here.Goals as goal

pub follow_one-requires-clause-there : goal.follow_one-requires-clause-there
follow_one-requires-clause-there g c = (c.loop-place.invariant.ready c.loop-place.place-index 0 c.loop-place-test.true).there

pub follow_one-requires-clause-supplied : goal.follow_one-requires-clause-supplied
follow_one-requires-clause-supplied g c = (c.loop-place.invariant.ready c.loop-place.place-index 0 c.loop-place-test.true).supplied

pub returns-in_err-follow_one-clause-part : goal.returns-in_err-follow_one-clause-part
returns-in_err-follow_one-clause-part g c =
    let d = netlist c.args.design.now in let places = c.args.places.now in let i = c.loop-place.place-index in
    let asked = g.S.Stepper.asked in let a = begin_after c.args.begin.earlier in
    on_err c.from_residual.result
    (part_asked g.S.Stepper.answer d c.args.begin.old a (suc d.horizon) places i c.loop-place-test.true (asked c.args.stepper.now) (asked c.loop-place.stepper) (asked c.follow_one.new.stepper) c.loop-place.invariant.asked
    (c.loop-place.invariant.ready i 0 c.loop-place-test.true).there c.in_err-follow_one.ensures.part)

pub loop-place-preserved : goal.loop-place-preserved
loop-place-preserved g c =
    let answer = g.S.Stepper.answer in let d = netlist c.args.design.now in let places = c.args.places.now in let i = c.loop-place.place-index in
    let k = get_or places i 0 in let was = c.loop-place.lines.traces.items in let now = c.follow_one.new.lines.traces.items in let asked = g.S.Stepper.asked in
    let within : k < length d.gates = (c.loop-place.invariant.ready i 0 c.loop-place-test.true).there in
    let stay : StayTraced answer d was now = stay_traced answer d was now k c.loop-place.invariant.fit.traces within c.in_ok-follow_one.ensures.trace in
    record {
      ready = all_stay_ready answer d was now stay c.args.wiring.now places c.loop-place.invariant.ready;
      fit = c.in_ok-follow_one.ensures.fit;
      found = c.in_ok-follow_one.ensures.found;
      traced = λ p more.
          one_traced answer d was now k c.loop-place.invariant.fit.traces within c.in_ok-follow_one.ensures.trace (take i places) c.loop-place.invariant.traced p
          (sym (ap (has p) (one_taken places i c.loop-place-test.true)) ∙ more);
      kept = λ p before. stay p (c.loop-place.invariant.kept p before);
      asked =
          one_asked answer d c.args.begin.old (begin_after c.args.begin.earlier) (suc d.horizon) places i c.loop-place-test.true (asked c.args.stepper.now) (asked c.loop-place.stepper) (asked c.follow_one.new.stepper) c.loop-place.invariant.asked within
          c.in_ok-follow_one.ensures.asked;
      lost = c.follow_one.ensures.lost ∙ c.loop-place.invariant.lost;
    }
