use Rattle.std.proofs.Common.{refl}
use Rattle.design.specs.kept.Records.{gate_with_wiring}
use Rattle.edits.proofs.TouchLemmas.{gate_rewired}
use Rattle.edits.proofs.changes.gates.rewire.Goals as goal

pub returns-clause-touched : goal.returns-clause-touched
returns-clause-touched c =
    gate_rewired c.args.design c.in_ok-new.new c.gate_of.result.now (λ g. gate_with_wiring g c.args.output c.in_ok-inputs.inputs.items) c.output-from.result c.args.output c.args.gate c.lawful.ensures.keys c.gate_of.ensures.gate c.output-from.ensures (λ g. refl) c.in_ok-new.ensures.by_key
