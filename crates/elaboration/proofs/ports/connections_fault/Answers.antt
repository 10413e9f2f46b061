use Rattle.std.proofs.Common.{◌+◌, sym, ap, ◌∙◌, drop}
use Rattle.std.proofs.lemmas.List.{at_drop_more}
use Rattle.std.specs.Option.{option_or}
use Rattle.elaboration.specs.Ports.{connections_fault}
use Rattle.elaboration.proofs.PortLemmas.{fault_first}
use Rattle.elaboration.proofs.ports.connections_fault.Goals as goal

pub loop-place-preserved : goal.loop-place-preserved
loop-place-preserved c =
    let listed = c.args.outer.now.nets in
    let m = c.args.inner.now in
    let connections = c.args.connections.now in
    let at = c.loop-place.place in
    sym (
    at_drop_more (connections_fault listed m at) connections at _ c.loop-place-test.true
    ∙ fault_first listed m at _ (drop (at + 1) connections)
    ∙ ap (λ found. option_or found (connections_fault listed m (at + 1) (drop (at + 1) connections))) (sym c.fault_of_connection.ensures ∙ c.in_default.is)
    )
    ∙ c.loop-place.invariant
