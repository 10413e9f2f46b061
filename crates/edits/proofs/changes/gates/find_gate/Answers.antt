use Rattle.std.proofs.Common.{refl}
use Rattle.edits.proofs.FoundLemmas.{finds_gate}
use Rattle.edits.proofs.changes.gates.find_gate.Goals as goal

pub returns-in-Some : goal.returns-in-Some
returns-in-Some c =
    let f = finds_gate c.args.design.now c.args.name.now c.in-Some.gate c.in-Some.ensures.gate c.in-Some.ensures.there in
    (rw f.known refl, f)
