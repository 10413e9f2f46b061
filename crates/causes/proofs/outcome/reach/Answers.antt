use Rattle.std.proofs.Common.{IfSome, subst}
use Rattle.std.specs.Prelude.{slice_get}
use Rattle.devices.specs.Outgoing.{Adds}
use Rattle.design.specs.Keys.{netlist}
use Rattle.design.specs.Netlist.{Netlist}
use Rattle.causes.specs.CauseLines.{reach_lines}
use Rattle.causes.proofs.outcome.reach.Goals as goal

pub returns : goal.returns
returns g c =
    let d = netlist c.design_and_run.result.0.now in
    let told = subst (λ o. IfSome o (λ n. Adds c.args.writer.now c.reach_net.new.writer (reach_lines d n c.args.t))) c.net_key_at.ensures.net c.reach_net.ensures in
    subst (λ (e : Netlist). IfSome (slice_get e.nets c.args.place) (λ n. Adds c.args.writer.now c.reach_net.new.writer (reach_lines e n c.args.t))) c.design_and_run.ensures.design told
