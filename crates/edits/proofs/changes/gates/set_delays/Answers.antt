use Rattle.std.proofs.Common.{refl}
use Rattle.design.specs.kept.Records.{gate_with_delays}
use Rattle.edits.proofs.TouchLemmas.{gate_set}
use Rattle.edits.proofs.changes.gates.set_delays.Goals as goal

pub returns-clause-touched : goal.returns-clause-touched
returns-clause-touched c =
    gate_set c.args.design c.in_ok-new.new c.args.gate (λ g. gate_with_delays g c.args.delays) c.lawful.ensures.keys (λ g. refl) c.requires c.in_ok-new.ensures.by_key
