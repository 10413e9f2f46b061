use Rattle.std.proofs.Common.{Option, [], IsTrue, subst}
use Rattle.std.proofs.lemmas.List.Elements.{All-head}
use Rattle.design.specs.Names.{is_name}
use Rattle.design.specs.Netlist.{NetEntry}
use Rattle.vtext.specs.declared.range.Range.{Range}
use Rattle.vtext.specs.Names.{name_at}
use Rattle.vread.specs.kept.Parts.{AreNamed, run_net, run_nets}
use Rattle.vread.proofs.new_nets.add_run.Goals as goal

pub add_own_net-requires : goal.add_own_net-requires
add_own_net-requires c =
    let names = c.args.names.now in
    let path = c.args.scope.now.path in
    All-head (λ (n : NetEntry). IsTrue (is_name n.name)) (run_net names path c.args.run (name_at names c.args.name)) []
    (subst (λ (range : Option Range). AreNamed (run_nets names path c.args.run c.args.name range)) c.in-None.is c.requires)
