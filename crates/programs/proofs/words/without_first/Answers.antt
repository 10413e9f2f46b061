use Rattle.std.proofs.Common.{◌≡◌, length, refl}
use Rattle.std.proofs.lemmas.Iterator.{YieldsList, items_from_collect}
use Rattle.std.proofs.lemmas.Iterator.Adapters.{YieldsList-from_skip, YieldsList-from_vec}
use Rattle.std.specs.Iterator.Adapters.{skip_source}
use Rattle.std.specs.Vec.Iter.{into_iter_items, into_iter_len, into_iter_steps}
use Rattle.programs.proofs.words.without_first.Goals as goal

pub returns : goal.returns
returns c =
    let counted : into_iter_len c.args.words ≡ length (into_iter_items c.args.words) = c.args.words.rest.ok.0 in
    let yields : YieldsList into_iter_steps (λ y. y) (skip_source c.skip.result) (into_iter_items c.args.words) =
    rw c.skip.ensures.source (YieldsList-from_vec (into_iter_items c.args.words) refl counted) in
    items_from_collect c.collect.result c.collect.ensures.ran (YieldsList-from_skip 1 yields c.skip.ensures.count)
