use Rattle.std.proofs.Common.{◌≡◌, ◌≤◌, ◌-◌, ◌++◌, ◌∙◌, ap, refl, subst, sym, ℕ, suc, arith}
use Rattle.std.proofs.lemmas.Grind.{common_steps}
use Rattle.design.specs.Keys.{netlist}
use Rattle.scratch.specs.kept.Grown.{grown_all}
use Rattle.scratch.proofs.Lists.{on_ok}
use Rattle.rundiff.specs.Dirty.{rework_below}
use Rattle.resim.specs.kept.Reruns.{Reruns}
use Rattle.resim.proofs.Asked.{refused, stopped, unasked}
use Rattle.resim.proofs.Changes.{all_changed, no_value}
use Rattle.resim.proofs.level.follow_beside.Goals as goal

pub returns-in_err-next : goal.returns-in_err-next
returns-in_err-next g c =
    let answer = g.S.Stepper.answer in let old = c.args.former.now.old.now in let new = c.args.former.now.new.now in
    let asked = g.S.Stepper.asked in let losses = g.S.Stepper.losses in
    record {
      reruns =
          stopped answer old new (asked c.args.stepper.now) (asked c.follow_until.new.stepper) (losses c.args.stepper.now) (losses c.args.stepper.now) (losses c.follow_until.new.stepper)
          ℕ c.in_err-next.field-0.0 c.from_residual-in_err-next.result c.from_residual-in_err-next.ensures.1 c.in_err-next.ensures.part refl c.in_err-next.ensures.lost;
      changed = no_value _ c.from_residual-in_err-next.result (λ f. f ≡ c.in_err-next.field-0.0) c.from_residual-in_err-next.ensures.1;
    }

pub returns-then-next-horizon : goal.returns-then-next-horizon
returns-then-next-horizon g c =
    let answer = g.S.Stepper.answer in let old = netlist c.args.former.now.old.now in let new = netlist c.args.former.now.new.now in
    let asked = g.S.Stepper.asked in let losses = g.S.Stepper.losses in
    let last : c.in_ok-next.next ≡ suc new.horizon = let is = c.horizon.ensures.horizon in let past = c.if-next-horizon.true in let within = c.in_ok-next.ensures.within in omega arith in
    record {
      reruns = record {
        run = c.in_ok-finish.ensures.run;
        asked =
            grown_all (asked c.args.stepper.now) (asked c.follow_until.new.stepper) (rework_below answer old new (suc new.horizon))
            (c.in_ok-next.ensures.asked ∙ ap (λ n. asked c.args.stepper.now ++ rework_below answer old new n) last);
        part = tt;
        lost = grind (arith, common_steps);
      };
      changed = c.in_ok-finish.ensures.changed;
    }

pub returns : goal.returns
returns g c =
    let answer = g.S.Stepper.answer in let old = c.args.former.now.old.now in let new = c.args.former.now.new.now in
    let asked = g.S.Stepper.asked in let losses = g.S.Stepper.losses in
    let same : losses c.follow_until.new.stepper ≡ losses c.args.stepper.now = grind (arith, common_steps) in
    let begun = c.in_ok-next.ensures.begun in
    let at : c.in_ok-next.next ≡ suc (c.in_ok-next.next - 1) = omega (arith, begun) in
    record {
      reruns =
          subst (λ l. Reruns answer old new (asked c.args.stepper.now) (asked c.widen.new.stepper) l (losses c.widen.new.stepper) c.widen.result) same
          (c.widen.ensures.reruns (asked c.args.stepper.now)
          (c.in_ok-next.ensures.asked ∙ ap (λ n. asked c.args.stepper.now ++ rework_below answer (netlist old) (netlist new) n) at));
      changed = on_ok c.widen.result (all_changed answer old new);
    }

pub returns-in_err-front-clause-reruns : goal.returns-in_err-front-clause-reruns
returns-in_err-front-clause-reruns g c =
    unasked g.S.Stepper.answer c.args.former.now.old.now c.args.former.now.new.now (g.S.Stepper.asked c.args.stepper.now) (g.S.Stepper.losses c.args.stepper.now) c.from_residual.result c.from_residual.ensures.1

pub returns-in_err-finish-clause-reruns : goal.returns-in_err-finish-clause-reruns
returns-in_err-finish-clause-reruns g c =
    let answer = g.S.Stepper.answer in let old = c.args.former.now.old.now in let new = c.args.former.now.new.now in
    let asked = g.S.Stepper.asked in let losses = g.S.Stepper.losses in
    let same : losses c.follow_until.new.stepper ≡ losses c.args.stepper.now = grind (arith, common_steps) in
    let low : c.in_ok-next.next ≤ suc (netlist new).horizon = let is = c.horizon.ensures.horizon in let within = c.in_ok-next.ensures.within in omega arith in
    subst (λ l. Reruns answer old new (asked c.args.stepper.now) (asked c.follow_until.new.stepper) (losses c.args.stepper.now) l c.from_residual-in_err-finish.result) (sym same)
    (refused answer old new (asked c.args.stepper.now) (asked c.follow_until.new.stepper) (losses c.args.stepper.now) c.in_ok-next.next c.from_residual-in_err-finish.result c.from_residual-in_err-finish.ensures.1
    low c.in_ok-next.ensures.asked)
