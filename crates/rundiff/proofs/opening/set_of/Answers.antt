use Rattle.std.proofs.Common.{take, nat_cmp, slice_index_or, ◌==◌}
use Rattle.std.specs.BTreeSet.{contains}
use Rattle.std.proofs.lemmas.Option.{slice_get-get_or}
use Rattle.std.proofs.Math.Bool.{or_comm}
use Rattle.scratch.proofs.Among.{any_more}
use Rattle.scratch.proofs.Keyed.{same_test}
use Rattle.rundiff.specs.kept.Places.{is_among}
use Rattle.rundiff.proofs.Sets.{cond_or, test_is}
use Rattle.rundiff.proofs.opening.set_of.Goals as goal

pub loop-place-preserved : goal.loop-place-preserved
loop-place-preserved c = λ p.
    let xs = c.args.places.now in let i = c.loop-place.place-index in let x = slice_index_or xs i 0 in
    let old = contains nat_cmp c.loop-place.set p in let so_far = is_among (take i xs) p in
    let more = any_more (λ q. q == p) xs i x (slice_get-get_or xs i 0 c.loop-place-test.true) in
    cc (c.in_ok-insert.ensures.updates.0 p, test_is x p, cond_or (p == x) old, c.loop-place.invariant p, same_test p x, or_comm (x == p) so_far, more)
