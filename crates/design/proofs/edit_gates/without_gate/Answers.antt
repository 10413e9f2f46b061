use Rattle.std.proofs.Common.{◌≡◌, Some, ap, ◌∙◌}
use Rattle.catalog.specs.Catalog.{record_at}
use Rattle.design.proofs.edit_gates.without_gate.Goals as goal

pub returns-clause-readers : goal.returns-clause-readers
returns-clause-readers c =
    let there : Some c.in-Some.old.now ≡ record_at c.args.gates c.args.key = c.in-Some.ensures ∙ ap (λ k. record_at c.args.gates k) c.key.view_is in
    rw (← there) c.in_ok-remove.ensures.readers

pub returns-clause-drivers : goal.returns-clause-drivers
returns-clause-drivers c =
    let there : Some c.in-Some.old.now ≡ record_at c.args.gates c.args.key = c.in-Some.ensures ∙ ap (λ k. record_at c.args.gates k) c.key.view_is in
    rw (← there) c.in_ok-remove.ensures.drivers
