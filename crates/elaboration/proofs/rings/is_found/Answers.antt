use Rattle.std.proofs.Common.{◌≡◌, ◌+◌, ℕ, suc, sym, ap, ◌∙◌, arith}
use Rattle.elaboration.specs.Tops.{reaches}
use Rattle.elaboration.proofs.RingLemmas.{reaches_in_all}
use Rattle.elaboration.proofs.rings.is_found.Goals as goal

pub returns-then-contains : goal.returns-then-contains
returns-then-contains c = λ found.
    reaches_in_all c.args.modules.now.modules c.args.name c.loop-place.place c.args.name (omega (arith, c.loop-place-test.true, c.count-place-end.ensures))
    (c.loop-place.invariant c.args.name (sym c.contains.ensures ∙ c.if-contains.true))

pub loop-place-preserved : goal.loop-place-preserved
loop-place-preserved c = λ to there.
    let place = c.loop-place.place in
    let next : suc place ≡ place + 1 = omega arith in
    sym (ap (λ (n : ℕ). reaches c.args.modules.now.modules c.args.name n to) next)
    ∙ c.in_ok-add_inner_at.ensures c.args.name place c.loop-place.invariant to there
