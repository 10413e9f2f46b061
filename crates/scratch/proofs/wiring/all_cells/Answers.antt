use Rattle.std.proofs.Common.{refl}
use Rattle.std.proofs.lemmas.List.{map-append}
use Rattle.design.specs.Keys.{netlist}
use Rattle.scratch.proofs.Lists.{take_next}
use Rattle.scratch.proofs.wiring.all_cells.Goals as goal

pub loop-place-preserved : goal.loop-place-preserved
loop-place-preserved c =
    rw (c.in_ok-push.ensures.items, c.loop-place.invariant, take_next (netlist c.args.design.now).gates c.loop-place.place _ c.gate_at.ensures.named, map-append, c.in_ok-cell.ensures) refl
