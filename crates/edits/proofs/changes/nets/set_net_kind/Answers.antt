use Rattle.std.proofs.Common.{refl}
use Rattle.design.specs.Keys.{netlist}
use Rattle.design.specs.Netlist.{with_net_kind}
use Rattle.design.specs.kept.Records.{net_with_kind}
use Rattle.edits.proofs.TouchLemmas.{net_replaced}
use Rattle.edits.proofs.changes.nets.set_net_kind.Goals as goal

pub returns-clause-touched : goal.returns-clause-touched
returns-clause-touched c =
    let d = c.args.design in
    net_replaced d c.in_ok-new.new c.args.net (λ n. net_with_kind n c.args.kind) (λ n. with_net_kind (netlist d) n.name c.args.kind) (λ n. refl) c.requires c.in_ok-new.ensures.by_key c.in_ok-new.ensures.by_name
