use Rattle.std.proofs.Common.{◌<◌, length, is_some, refl, ap, ◌∙◌, arith}
use Rattle.std.proofs.lemmas.List.{map-append}
use Rattle.catalog.proofs.ListLemmas.{slice_get_some}
use Rattle.design.specs.Keys.{netlist}
use Rattle.scratch.proofs.Lists.{take_next}
use Rattle.scratch.proofs.wiring.all_drivers.Goals as goal

pub drivers_of-requires : goal.drivers_of-requires
drivers_of-requires c =
    let nets = (netlist c.args.design.now).nets in
    let below : c.loop-place.place < length nets = omega arith in
    ap (λ o. is_some o) (c.net_key_at.ensures.net ∙ (slice_get_some nets c.loop-place.place below).1)

pub loop-place-preserved : goal.loop-place-preserved
loop-place-preserved c =
    let nets = (netlist c.args.design.now).nets in
    let below : c.loop-place.place < length nets = omega arith in
    let it = slice_get_some nets c.loop-place.place below in
    rw (c.in_ok-push.ensures.items, map-append, c.loop-place.invariant, take_next nets c.loop-place.place it.0 it.1, map-append, rw (c.net_key_at.ensures.net, it.1) at c.in_ok-places.ensures) refl
