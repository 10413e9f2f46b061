use Rattle.edits.proofs.TouchLemmas.{gate_dropped}
use Rattle.edits.proofs.changes.gates.drop_gate.Goals as goal

pub returns-clause-touched : goal.returns-clause-touched
returns-clause-touched c =
    gate_dropped c.args.design c.in_ok-new.new c.gate_of.result.now c.output-output.result c.args.gate c.lawful.ensures.keys c.gate_of.ensures.gate c.output-output.ensures c.in_ok-new.ensures.by_key
