use Rattle.std.proofs.Common.{ap}
use Rattle.edits.proofs.TouchLemmas.{gate_added}
use Rattle.edits.proofs.changes.gates.add_gate.Goals as goal

pub returns-clause-touched : goal.returns-clause-touched
returns-clause-touched c =
    gate_added c.args.design c.in_ok-new.new c.new-gate.result c.args.output c.in_ok-new.key (ap (λ g. g.output) c.new-gate.ensures) c.in_ok-new.ensures.by_key
