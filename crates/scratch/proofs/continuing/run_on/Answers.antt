use Rattle.std.proofs.Common.{◌≡◌, ◌≤◌, ◌∙◌, sym, refl, [], append-nil, subst, suc, add-one, arith}
use Rattle.std.proofs.lemmas.Grind.{common_steps}
use Rattle.design.specs.Keys.{netlist}
use Rattle.event_queue.proofs.Changes.{held_err}
use Rattle.scratch.specs.Asked.{IsAskedInPart, IsAskedInSomeOrder}
use Rattle.scratch.specs.kept.Grown.{all_is_part, grown_all, no_moment}
use Rattle.scratch.specs.kept.Open.{all_from, open_work_at}
use Rattle.scratch.specs.kept.Stands.{Stands}
use Rattle.scratch.proofs.Asked.{one_more, part, unmoved}
use Rattle.scratch.proofs.Tasks.{none_asked}
use Rattle.scratch.proofs.continuing.run_on.Goals as goal

pub loop-t-init : goal.loop-t-init
loop-t-init g c =
    let answer = g.S.Stepper.answer in let d = netlist c.args.design.now in let base = g.S.Stepper.asked c.args.stepper.now in let start = c.args.start in
    let is_open = g.B.Beside.is_open answer d c.args.beside.now in let work = open_work_at is_open answer d in
    record {
      stands = c.advance-t.ensures.stands;
      begun = c.advance-t.ensures.from;
      within = let is = c.horizon-horizon.ensures.horizon in let within = c.advance-t.ensures.within in omega arith;
      asked =
          subst (IsAskedInSomeOrder base base)
          (sym (unmoved work start start c.advance-t.result (omega arith) c.advance-t.ensures.from (λ t from low. none_asked answer d t is_open (c.advance-t.ensures.quiet t from low)) ∙ no_moment work start))
          (grown_all base base [] (sym (append-nil base)));
      losses = refl;
      fits = c.requires.fits;
      same = refl;
    }

pub returns-in_err-pass-clause-part : goal.returns-in_err-pass-clause-part
returns-in_err-pass-clause-part g c =
    let answer = g.S.Stepper.answer in let d = netlist c.args.design.now in let t = c.loop-t.t in
    let is_open = g.B.Beside.is_open answer d c.args.beside.now in
    let le : t ≤ d.horizon = grind (arith, common_steps) in
    held_err c.from_residual.result
    (part (open_work_at is_open answer d) (g.S.Stepper.asked c.args.stepper.now) (g.S.Stepper.asked c.loop-t.stepper) (g.S.Stepper.asked c.pass.new.stepper) c.args.start t c.loop-t.invariant.begun c.loop-t.invariant.asked
    (suc d.horizon) (omega arith)
    (subst (λ o. IsAskedInPart (g.S.Stepper.asked c.loop-t.stepper) (g.S.Stepper.asked c.pass.new.stepper) (open_work_at o answer d t)) c.loop-t.invariant.same c.in_err-pass.ensures.part))

pub loop-t-preserved : goal.loop-t-preserved
loop-t-preserved g c =
    let answer = g.S.Stepper.answer in let d = netlist c.args.design.now in let t = c.loop-t.t in let base = g.S.Stepper.asked c.args.stepper.now in let start = c.args.start in
    let is_open = g.B.Beside.is_open answer d c.args.beside.now in let work = open_work_at is_open answer d in
    let next = c.advance-t-in-loop-t.result in
    let begun : start ≤ suc t = let began = c.loop-t.invariant.begun in omega arith in
    record {
      stands = c.advance-t-in-loop-t.ensures.stands;
      begun = let began = c.loop-t.invariant.begun in let from = c.advance-t-in-loop-t.ensures.from in omega arith;
      within = let is = c.horizon-horizon.ensures.horizon in let within = c.advance-t-in-loop-t.ensures.within in omega arith;
      asked =
          subst (IsAskedInSomeOrder base (g.S.Stepper.asked c.pass.new.stepper))
          (sym (unmoved work start (suc t) next begun (rw add-one at c.advance-t-in-loop-t.ensures.from)
          (λ u from low. none_asked answer d u is_open ((rw add-one at c.advance-t-in-loop-t.ensures.quiet) u from low))))
          (one_more work base (g.S.Stepper.asked c.loop-t.stepper) (g.S.Stepper.asked c.pass.new.stepper) start t c.loop-t.invariant.begun c.loop-t.invariant.asked
          (subst (λ o. IsAskedInSomeOrder (g.S.Stepper.asked c.loop-t.stepper) (g.S.Stepper.asked c.pass.new.stepper) (open_work_at o answer d t)) c.loop-t.invariant.same c.in_ok-pass.ensures.asked));
      losses = grind (arith, common_steps);
      fits = c.in_ok-pass.ensures.fits;
      same = c.in_ok-pass.ensures.same ∙ c.loop-t.invariant.same;
    }

pub finish-requires-clause-stands : goal.finish-requires-clause-stands
finish-requires-clause-stands g c =
    let answer = g.S.Stepper.answer in let d = netlist c.args.design.now in
    let last : c.loop-t.t ≡ suc d.horizon = let past = c.loop-t-test.false in let within = c.loop-t.invariant.within in let is = c.horizon-horizon.ensures.horizon in omega arith in
    subst (Stands answer d c.loop-t.engine) last c.loop-t.invariant.stands

pub returns-clause-asked : goal.returns-clause-asked
returns-clause-asked g c =
    let answer = g.S.Stepper.answer in let d = netlist c.args.design.now in let work = open_work_at (g.B.Beside.is_open answer d c.args.beside.now) answer d in
    let last : c.loop-t.t ≡ suc d.horizon = let past = c.loop-t-test.false in let within = c.loop-t.invariant.within in let is = c.horizon-horizon.ensures.horizon in omega arith in
    subst (λ n. IsAskedInSomeOrder (g.S.Stepper.asked c.args.stepper.now) (g.S.Stepper.asked c.loop-t.stepper) (all_from work c.args.start n)) last c.loop-t.invariant.asked

pub returns-in_err-finish-clause-part : goal.returns-in_err-finish-clause-part
returns-in_err-finish-clause-part g c =
    let answer = g.S.Stepper.answer in let d = netlist c.args.design.now in let base = g.S.Stepper.asked c.args.stepper.now in let now = g.S.Stepper.asked c.loop-t.stepper in
    let work = open_work_at (g.B.Beside.is_open answer d c.args.beside.now) answer d in
    let last : c.loop-t.t ≡ suc d.horizon = let past = c.loop-t-test.false in let within = c.loop-t.invariant.within in let is = c.horizon-horizon.ensures.horizon in omega arith in
    held_err c.from_residual-in_err-finish.result
    (all_is_part base now (all_from work c.args.start (suc d.horizon)) (subst (λ n. IsAskedInSomeOrder base now (all_from work c.args.start n)) last c.loop-t.invariant.asked))
