use Rattle.design.specs.Keys.{entry_in, netlist}
use Rattle.design.specs.kept.Keys.{gate_by_key}
use Rattle.rundiff.proofs.Known.{keys_there}
use Rattle.rundiff.proofs.old.old_gate.Goals as goal

pub returns-clause-there : goal.returns-clause-there
returns-clause-there c =
    let old = c.args.old.now in
    keys_there (entry_in old.nets) (gate_by_key old) (netlist old) c.args.name.now c.gate.result c.gate.ensures.gate c.gate.ensures.there
