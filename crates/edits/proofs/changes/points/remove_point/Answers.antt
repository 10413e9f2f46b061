use Rattle.std.proofs.Common.{◌≡◌, true, refl}
use Rattle.design.specs.Keys.{netlist}
use Rattle.design.specs.kept.Keys.{net_by_key}
use Rattle.design.specs.Netlist.{has_point, without_point}
use Rattle.design.specs.kept.Records.{net_without_point}
use Rattle.edits.proofs.TouchLemmas.{net_replaced, there_of}
use Rattle.edits.proofs.changes.points.remove_point.Goals as goal

pub returns-clause-touched : goal.returns-clause-touched
returns-clause-touched c =
    let d = c.args.design in
    net_replaced d c.in_ok-new.new c.args.net (λ n. net_without_point n c.args.time) (λ n. without_point (netlist d) n.name c.args.time) (λ n. refl) (there_of (net_by_key d c.args.net) (λ n. has_point n.points c.args.time ≡ true) c.requires) c.in_ok-new.ensures.by_key c.in_ok-new.ensures.by_name
