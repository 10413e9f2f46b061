use Rattle.std.proofs.Common.{◌*◌, ◌+◌, sym, subst}
use Rattle.catalog.specs.kept.Gaps.{Splits}
use Rattle.catalog.specs.declared.ascending.TheConstants.{STRIDE}
use Rattle.catalog.proofs.GapLemmas.{AreMarked, marked_more}
use Rattle.catalog.proofs.ascending.marks.Goals as goal

pub loop-place-preserved : goal.loop-place-preserved
loop-place-preserved c =
    let numbers = c.args.numbers.now.items in
    let place = c.loop-place.place in
    let next = c.search-mark.result in
    let splits : Splits numbers (place * STRIDE) next = subst (λ l. Splits l (place * STRIDE) next) c.as_slice.ensures.value c.search-mark.ensures.splits in
    subst (λ l. AreMarked numbers l (place + 1) next) (sym c.in_ok-push.ensures.items)
    (marked_more numbers c.loop-place.marks.items place c.loop-place.mark next c.loop-place.invariant splits c.search-mark.ensures.rising)
