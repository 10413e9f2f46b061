use Rattle.std.proofs.Common.{◌++◌, ◌∙◌, ap, sym, append-nil, List, ℕ}
use Rattle.rundiff.proofs.Sets.{set_places}
use Rattle.rundiff.proofs.places.list_of.Goals as goal

pub returns : goal.returns
returns c =
    let left = rw c.in-None.is at c.next.ensures.steps in
    let whole = sym (append-nil c.loop-place.places.items) ∙ ap (λ (l : List ℕ). c.loop-place.places.items ++ l) (sym left.0) ∙ c.loop-place.invariant in
    set_places c.args.set.now c.loop-place.places.items whole c.len.ensures.ordered
