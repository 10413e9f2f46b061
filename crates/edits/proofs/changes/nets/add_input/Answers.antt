use Rattle.std.proofs.Common.{true, ap}
use Rattle.fourstate.specs.declared.net.NetKind.TheVariants.{Wire}
use Rattle.design.specs.Netlist.{new_net}
use Rattle.edits.proofs.TouchLemmas.{net_added}
use Rattle.edits.proofs.changes.nets.add_input.Goals as goal

pub returns-clause-touched : goal.returns-clause-touched
returns-clause-touched c =
    net_added c.args.design c.in_ok-new.new (new_net c.in_ok-name.name Wire true) c.in_ok-new.key c.in_ok-new.ensures.by_key (ap (λ m. m.gates) c.in_ok-new.ensures.by_name)
