use Rattle.std.proofs.Common.{IfSome, subst}
use Rattle.std.specs.Prelude.{slice_get}
use Rattle.devices.specs.Outgoing.{Adds}
use Rattle.design.specs.Keys.{netlist}
use Rattle.design.specs.Netlist.{Netlist}
use Rattle.causes.specs.CauseLines.{why_lines}
use Rattle.causes.proofs.origin.why.Goals as goal

pub returns : goal.returns
returns g c =
    let d = netlist c.design_and_run.result.0.now in
    let told = subst (λ o. IfSome o (λ n. Adds c.args.writer.now c.why_net.new.writer (why_lines d n c.args.t))) c.net_key_at.ensures.net c.why_net.ensures in
    subst (λ (e : Netlist). IfSome (slice_get e.nets c.args.place) (λ n. Adds c.args.writer.now c.why_net.new.writer (why_lines e n c.args.t))) c.design_and_run.ensures.design told
