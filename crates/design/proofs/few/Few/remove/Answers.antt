use Rattle.std.proofs.Common.{◌==◌, ap, arith, length, not, refl, take}
use Rattle.std.proofs.lemmas.List.{length-take-le}
use Rattle.std.proofs.lemmas.List.Filters.{length-filter_both}
use Rattle.design.proofs.few.Few.remove.Goals as goal

pub push-requires : goal.push-requires
push-requires c =
    let items = c.as_slice-kept-items.result.now in
    let before = take c.loop-kept.kept-index items in
    let kept = length-filter_both (λ k. k == c.args.key) (λ k. not (k == c.args.key)) (λ k. refl) before in
    omega (arith, kept, ap (λ l. length l) c.loop-kept.invariant, length-take-le c.loop-kept.kept-index items c.loop-kept.auto.kept-index-end, c.loop-kept-test.true, c.as_slice-kept-items.ensures.within)
