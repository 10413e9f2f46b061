use Rattle.std.proofs.Common.{◌≤◌, ◌++◌, ◌∙◌, ap, refl, sym, ℕ, append-nil, arith}
use Rattle.std.proofs.lemmas.Grind.{common_steps}
use Rattle.gatestep.proofs.Jobs.{on_err}
use Rattle.design.specs.Keys.{netlist}
use Rattle.resim.proofs.Asked.{lost_on, no_answer, one_more, part}
use Rattle.resim.proofs.level.follow_until.Goals as goal

pub loop-next-init : goal.loop-next-init
loop-next-init g c =
    let answer = g.S.Stepper.answer in let old = netlist c.args.former.now.old.now in let new = netlist c.args.former.now.new.now in
    let now = c.next_moment-first in let asked = g.S.Stepper.asked c.args.stepper.now in
    record {
      front = now.ensures.front;
      within = now.ensures.until;
      asked = sym (append-nil asked) ∙ ap (λ l. asked ++ l) (sym (now.ensures.idle ∙ c.requires.idle));
      losses = refl;
    }

pub loop-next-preserved : goal.loop-next-preserved
loop-next-preserved g c =
    let answer = g.S.Stepper.answer in let old = netlist c.args.former.now.old.now in let new = netlist c.args.former.now.new.now in
    let now = c.next_moment-next in
    let t = c.loop-next.next in
    record {
      front = now.ensures.front;
      within = now.ensures.until;
      asked =
          one_more answer old new (g.S.Stepper.asked c.args.stepper.now) (g.S.Stepper.asked c.loop-next.stepper) (g.S.Stepper.asked c.pass.new.stepper)
          t c.loop-next.invariant.asked c.in_ok-pass.ensures.asked
          ∙ ap (λ l. g.S.Stepper.asked c.args.stepper.now ++ l) (sym (now.ensures.idle ∙ c.in_ok-pass.ensures.idle));
      losses = grind (arith, common_steps);
    }

pub returns-in_err-pass : goal.returns-in_err-pass
returns-in_err-pass g c =
    let answer = g.S.Stepper.answer in let old = netlist c.args.former.now.old.now in let new = netlist c.args.former.now.new.now in
    let asked = g.S.Stepper.asked in let losses = g.S.Stepper.losses in
    let e = c.in_err-pass.field-0.0 in let r = c.from_residual.result in let is = c.from_residual.ensures.1 in
    let horizon = c.horizon-end.ensures.horizon in
    let below = c.loop-next-test.true in
    let within : c.loop-next.next ≤ new.horizon = grind (arith, common_steps) in
    record {
      front = no_answer e r _ is;
      begun = no_answer e r _ is;
      within = no_answer e r _ is;
      asked = no_answer e r _ is;
      part =
          on_err r (part answer old new (asked c.args.stepper.now) (asked c.loop-next.stepper) (asked c.pass.new.stepper)
          c.loop-next.next c.loop-next.invariant.asked within c.in_err-pass.ensures.part);
      lost =
          lost_on (Unit {0}) ℕ e r (losses c.args.stepper.now) (losses c.loop-next.stepper) (losses c.pass.new.stepper) is
          c.loop-next.invariant.losses c.in_err-pass.ensures.lost;
    }

pub returns-then-add-clause-asked : goal.returns-then-add-clause-asked
returns-then-add-clause-asked g c =
    let answer = g.S.Stepper.answer in let old = netlist c.args.former.now.old.now in let new = netlist c.args.former.now.new.now in
    let now = c.next_moment-next in
    let t = c.loop-next.next in
    one_more answer old new (g.S.Stepper.asked c.args.stepper.now) (g.S.Stepper.asked c.loop-next.stepper) (g.S.Stepper.asked c.pass.new.stepper)
    t c.loop-next.invariant.asked c.in_ok-pass.ensures.asked
    ∙ ap (λ l. g.S.Stepper.asked c.args.stepper.now ++ l) (sym (now.ensures.idle ∙ c.in_ok-pass.ensures.idle))
