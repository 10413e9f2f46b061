use Rattle.std.proofs.Common.{refl}
use Rattle.std.proofs.lemmas.List.{map-append}
use Rattle.design.specs.Keys.{netlist}
use Rattle.scratch.proofs.Lists.{take_next}
use Rattle.scratch.proofs.wiring.all_kinds.Goals as goal

pub loop-place-preserved : goal.loop-place-preserved
loop-place-preserved c =
    let nets = (netlist c.args.design.now).nets in
    rw (c.in_ok-push.ensures.items, c.loop-place.invariant, take_next nets c.loop-place.place c.net_at.result.now c.net_at.ensures, map-append, c.kind_if_driven.ensures) refl
