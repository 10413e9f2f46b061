use Rattle.std.proofs.Common.{◌∙◌, ap, take, false, Bool, ◌||◌, ◌==◌, nat_eq}
use Rattle.std.specs.List.{list_any}
use Rattle.std.specs.Option.{option_map_or}
use Rattle.catalog.specs.kept.Catalog.{place_of}
use Rattle.scratch.proofs.Driven.{or_moved}
use Rattle.rundiff.specs.kept.Places.{is_among}
use Rattle.rundiff.proofs.Driven.{read_get}
use Rattle.rundiff.proofs.Readers.{driver_more, listed_drivers}
use Rattle.rundiff.proofs.Steps.{among_push}
use Rattle.rundiff.proofs.spreading.add_drivers_of.Goals as goal

pub loop-driver-preserved : goal.loop-driver-preserved
loop-driver-preserved c = λ q.
    let keys = c.drivers-drivers.result.now in let i = c.loop-driver.driver-index in
    let x = c.driver-item.result in let gate = c.in-Some.gate in
    let was = is_among c.args.gates.now.items q in
    let so_far = list_any (λ key. option_map_or (λ p. p == q) (place_of c.args.new.now.gates key) false) (take i keys) in
    let more = driver_more c.args.new.now.gates keys i x gate q (read_get keys i x c.loop-driver-test.true c.driver-item.is) c.in-Some.ensures.place in
    cc (c.in_ok-push.ensures.items, among_push c.loop-driver.gates.items gate q, c.loop-driver.invariant q, or_moved so_far was (nat_eq gate q), more)

pub returns : goal.returns
returns c = λ q.
    c.loop-driver.invariant q
    ∙ ap (λ (b : Bool). b || is_among c.args.gates.now.items q) (listed_drivers c.args.new.now c.net_key_at.result c.args.place q c.requires.there c.net_key_at.ensures.net c.places_are_keys.ensures.drivers
    c.drivers-drivers.result.now c.loop-driver.driver-index c.loop-driver-test.false c.drivers-drivers.ensures.drivers)
