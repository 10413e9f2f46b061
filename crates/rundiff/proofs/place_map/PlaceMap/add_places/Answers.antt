use Rattle.std.proofs.Common.{All, subst, arith, take_all}
use Rattle.rundiff.specs.kept.PlaceMaps.{number_at}
use Rattle.rundiff.proofs.Items.{IsFound, none_kept, one_more}
use Rattle.rundiff.proofs.place_map.PlaceMap.add_places.Goals as goal

pub loop-i-preserved : goal.loop-i-preserved
loop-i-preserved g c =
    let done = c.in_ok-add_place.ensures in
    record {
      below = λ all. done.below (c.loop-i.invariant.below all);
      more = λ p on. done.more p (c.loop-i.invariant.more p on);
      added = one_more c.args.self.now.items.items c.args.count c.loop-i.places.items c.add_place.new.places.items c.loop-i.i (omega (arith, c.loop-i-test.true)) done.more c.loop-i.invariant.added done.added;
    }

pub returns-clause-kept : goal.returns-clause-kept
returns-clause-kept g c = λ p low off.
    let items = c.args.self.now.items.items in
    let all = subst (All (IsFound c.args.count c.loop-i.places.items)) (take_all c.loop-i.i items (omega (arith, c.loop-i-test.false))) c.loop-i.invariant.added in
    none_kept items c.loop-i.places.items c.args.count all p low off (number_at c.args.self.now.pages.items p)
