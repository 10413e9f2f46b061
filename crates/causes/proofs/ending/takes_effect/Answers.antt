use Rattle.design.specs.Keys.{netlist}
use Rattle.design.specs.kept.Keys.{gate_by_key}
use Rattle.causes.proofs.EventLemmas.{effect_of}
use Rattle.causes.proofs.ending.takes_effect.Goals as goal

pub returns : goal.returns
returns c =
    let d = c.args.design.now in
    effect_of (netlist d) d.nets (gate_by_key d c.args.gate) c.args.event.0 c.driven-now.result c.driven-before.result c.args.event.1 c.has_turned.result c.driven-before.ensures c.driven-now.ensures c.has_turned.ensures
