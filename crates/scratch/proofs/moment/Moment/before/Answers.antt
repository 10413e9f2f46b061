use Rattle.std.proofs.Common.{refl, arith}
use Rattle.gatestep.specs.Step.{initial}
use Rattle.design.specs.Keys.{netlist}
use Rattle.scratch.proofs.Lists.{same_for_each}
use Rattle.scratch.proofs.moment.Moment.before.Goals as goal

pub loop-preserved : goal.loop-preserved
loop-preserved c =
    rw (c.in_ok-push.ensures.items, c.loop.invariant, c.start.ensures, same_for_each initial (netlist c.args.design.now).gates c.loop.counter (omega arith)) refl
