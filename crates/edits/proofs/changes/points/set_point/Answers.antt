use Rattle.std.proofs.Common.{◌≡◌, true, refl}
use Rattle.design.specs.Keys.{netlist}
use Rattle.design.specs.kept.Keys.{net_by_key}
use Rattle.design.specs.Netlist.{net_with_point, with_point}
use Rattle.edits.proofs.TouchLemmas.{net_replaced, there_of}
use Rattle.edits.proofs.changes.points.set_point.Goals as goal

pub returns-clause-touched : goal.returns-clause-touched
returns-clause-touched c =
    let d = c.args.design in
    net_replaced d c.in_ok-new.new c.args.net (λ n. net_with_point n c.args.time c.args.value) (λ n. with_point (netlist d) n.name c.args.time c.args.value) (λ n. refl) (there_of (net_by_key d c.args.net) (λ n. n.is_input ≡ true) c.requires.input) c.in_ok-new.ensures.by_key c.in_ok-new.ensures.by_name
