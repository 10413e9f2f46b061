use Rattle.std.proofs.Common.{◌≤◌, ◌∙◌, ap, sym, subst, suc, arith}
use Rattle.design.specs.Keys.{netlist}
use Rattle.scratch.specs.kept.Run.{IsRun}
use Rattle.resim.proofs.Asked.{front_at}
use Rattle.resim.proofs.Behind.{front_old, horizon_of, is_within}
use Rattle.resim.proofs.widening.run_until.Goals as goal

pub shorten-requires : goal.shorten-requires
shorten-requires g c = is_within c.args.former.now.old.now c.args.last c.requires.within

pub finish-requires-clause-run : goal.finish-requires-clause-run
finish-requires-clause-run g c =
    let answer = g.S.Stepper.answer in
    subst (λ d. IsRun answer d c.in_ok-run.run') (sym c.in_ok-old.ensures) (c.in_ok-run.ensures answer c.requires.run)

pub finish-requires-clause-horizon : goal.finish-requires-clause-horizon
finish-requires-clause-horizon g c =
    c.requires.horizon ∙ sym (horizon_of c.args.former.now.old.now c.in_ok-old.old c.args.last c.in_ok-old.ensures)

pub finish-requires-clause-front : goal.finish-requires-clause-front
finish-requires-clause-front g c =
    let answer = g.S.Stepper.answer in let old = c.args.former.now.old.now in let former = c.in_ok-old.old in let level = netlist c.args.level.now in
    let low : c.args.last ≤ (netlist old).horizon = let within = c.requires.within in omega (arith, within) in
    front_at answer (netlist former) level c.args.front (suc c.args.last) (suc level.horizon) (ap suc c.requires.horizon)
    (front_old old former c.args.last c.in_ok-old.ensures answer c.args.front (suc c.args.last) level low c.requires.front)
