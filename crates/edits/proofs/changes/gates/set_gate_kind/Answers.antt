use Rattle.std.proofs.Common.{IsTrue, length, refl}
use Rattle.fourstate.specs.Gates.{takes_inputs}
use Rattle.design.specs.kept.Keys.{gate_by_key}
use Rattle.design.specs.kept.Records.{gate_with_kind}
use Rattle.edits.proofs.TouchLemmas.{gate_set, there_of}
use Rattle.edits.proofs.changes.gates.set_gate_kind.Goals as goal

pub returns-clause-touched : goal.returns-clause-touched
returns-clause-touched c =
    gate_set c.args.design c.in_ok-new.new c.args.gate (λ g. gate_with_kind g c.args.kind) c.lawful.ensures.keys (λ g. refl)
    (there_of (gate_by_key c.args.design c.args.gate) (λ g. IsTrue (takes_inputs c.args.kind (length g.inputs))) c.requires)
    c.in_ok-new.ensures.by_key
