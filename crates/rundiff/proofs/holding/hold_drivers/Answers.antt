use Rattle.std.proofs.Common.{◌∙◌, ap, take, false, Bool, nat_cmp, ◌||◌, ◌==◌}
use Rattle.std.specs.BTreeSet.{contains}
use Rattle.std.specs.List.{list_any}
use Rattle.std.specs.Option.{option_map_or}
use Rattle.catalog.specs.kept.Catalog.{place_of}
use Rattle.scratch.proofs.Keyed.{same_test}
use Rattle.rundiff.proofs.Driven.{read_get}
use Rattle.rundiff.proofs.Readers.{driver_more, listed_drivers}
use Rattle.rundiff.proofs.Sets.{held_more, test_is}
use Rattle.rundiff.proofs.holding.hold_drivers.Goals as goal

pub loop-driver-preserved : goal.loop-driver-preserved
loop-driver-preserved c = λ p.
    let keys = c.drivers-drivers.result.now in let i = c.loop-driver.driver-index in
    let x = c.driver-item.result in let gate = c.in-Some.gate in
    let held = contains nat_cmp c.args.held.now p in
    let so_far = list_any (λ key. option_map_or (λ q. q == p) (place_of c.args.new.now.gates key) false) (take i keys) in
    let more = driver_more c.args.new.now.gates keys i x gate p (read_get keys i x c.loop-driver-test.true c.driver-item.is) c.in-Some.ensures.place in
    cc (c.in_ok-insert.ensures.updates.0 p, test_is gate p, same_test p gate, c.loop-driver.invariant p, held_more so_far (gate == p) held, more)

pub returns : goal.returns
returns c = λ p.
    c.loop-driver.invariant p
    ∙ ap (λ (b : Bool). b || contains nat_cmp c.args.held.now p) (listed_drivers c.args.new.now c.net_key_at.result c.args.place p c.requires.there c.net_key_at.ensures.net c.places_are_keys.ensures.drivers
    c.drivers-drivers.result.now c.loop-driver.driver-index c.loop-driver-test.false c.drivers-drivers.ensures.drivers)
