use Rattle.std.proofs.Common.{take, nat_cmp, ◌==◌, slice_index_or}
use Rattle.std.specs.BTreeSet.{contains}
use Rattle.std.proofs.lemmas.Option.{slice_get-get_or}
use Rattle.scratch.proofs.Among.{any_more}
use Rattle.scratch.proofs.Keyed.{same_test}
use Rattle.rundiff.specs.kept.Places.{is_among}
use Rattle.rundiff.proofs.Sets.{live_step}
use Rattle.rundiff.proofs.holding.hold.Goals as goal

pub loop-place-preserved : goal.loop-place-preserved
loop-place-preserved c =
    let xs = c.args.found.now in let i = c.loop-place.place-index in let x = slice_index_or xs i 0 in
    record {
      drivers = c.in_ok-hold_one.ensures.drivers;
      live = λ p.
          let held = contains nat_cmp c.args.live.now p in let so_far = is_among (take i xs) p in
          cc (c.in_ok-hold_one.ensures.live p, c.loop-place.invariant.live p, same_test p x, live_step so_far (x == p) held, any_more (λ q. q == p) xs i x (slice_get-get_or xs i 0 c.loop-place-test.true));
    }
