use Rattle.std.proofs.Common.{◌≡◌, false, refl}
use Rattle.design.specs.Keys.{netlist}
use Rattle.design.specs.kept.Keys.{net_by_key}
use Rattle.design.specs.Netlist.{is_used, without_net}
use Rattle.edits.proofs.TouchLemmas.{net_dropped, there_of}
use Rattle.edits.proofs.changes.nets.drop_net.Goals as goal

pub returns-clause-touched : goal.returns-clause-touched
returns-clause-touched c =
    let d = c.args.design in
    net_dropped d c.in_ok-new.new c.args.net (λ n. without_net (netlist d) n.name) (λ n. refl) (there_of (net_by_key d c.args.net) (λ n. is_used (netlist d) n.name ≡ false) c.requires) c.in_ok-new.ensures.by_key c.in_ok-new.ensures.by_name
