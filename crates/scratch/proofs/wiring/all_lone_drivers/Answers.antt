use Rattle.std.proofs.Common.{◌≡◌, ◌<◌, ◌∙◌, ap, refl, length, arith}
use Rattle.std.proofs.lemmas.List.{length-map, map-append}
use Rattle.std.proofs.lemmas.Option.{slice_get_read}
use Rattle.design.specs.Keys.{netlist}
use Rattle.scratch.specs.kept.Kept.{lone_driver, lone_place}
use Rattle.scratch.proofs.Lists.{take_next}
use Rattle.scratch.proofs.NetSteps.{drivers_at}
use Rattle.scratch.proofs.wiring.all_lone_drivers.Goals as goal

pub loop-place-preserved : goal.loop-place-preserved
loop-place-preserved c =
    let d = netlist c.args.design.now in let n = c.net_at.result.now in let place = c.loop-place.place in
    let drivers = c.args.drivers.now in
    let within : place < length drivers = (let as_many = simp length-map at (ap length c.requires) in let low = c.loop-place-test.true in omega arith) in
    let beside = slice_get_read drivers (length drivers) place c.index-drivers-place.result refl within c.index-drivers-place.is in
    let places = drivers_at d drivers place n c.index-drivers-place.result c.requires c.net_at.ensures beside in
    let is : c.lone_driver.result ≡ lone_driver d n = c.lone_driver.ensures ∙ ap (lone_place n) places in
    rw (c.in_ok-push.ensures.items, c.loop-place.invariant, take_next d.nets place n c.net_at.ensures, map-append, is) refl
