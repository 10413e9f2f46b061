use Rattle.std.proofs.Common.{◌≡◌, ap, ◌∙◌}
use Rattle.catalog.specs.Catalog.{record_at}
use Rattle.design.specs.kept.Lists.{list_of}
use Rattle.design.proofs.ChangeLemmas.{record_pushed}
use Rattle.design.proofs.LookLemmas.{none_or_some, some_inner}
use Rattle.design.proofs.OrderLemmas.{more_in_order}
use Rattle.design.proofs.edit_gates.put_last.Goals as goal

pub unreachable-requires : goal.unreachable-requires
unreachable-requires c =
    let key = c.in_ok-number.number in
    none_or_some (record_at c.push.new.self key) c.args.gate c.in_default.ensures (ap (λ l. record_at l key) c.in_ok-number.ensures.entries ∙ record_pushed c.args.gates.now key c.args.gate c.in_ok-number.ensures.fresh)

pub add-requires-clause-readers : goal.add-requires-clause-readers
add-requires-clause-readers c =
    rw c.in_ok-number.ensures.entries (λ k. more_in_order c.args.gates.now c.in_ok-number.number c.args.gate (list_of c.args.wires.now.fanout k) c.in_ok-number.ensures.fresh (c.requires.readers k))

pub add-requires-clause-drivers : goal.add-requires-clause-drivers
add-requires-clause-drivers c =
    rw c.in_ok-number.ensures.entries (λ k. more_in_order c.args.gates.now c.in_ok-number.number c.args.gate (list_of c.args.wires.now.drivers k) c.in_ok-number.ensures.fresh (c.requires.drivers k))

pub returns-clause-readers : goal.returns-clause-readers
returns-clause-readers c =
    let key = c.in_ok-number.number in
    let same : c.in-Some.gate.now ≡ c.args.gate = some_inner c.in-Some.gate.now c.args.gate (c.in-Some.ensures ∙ ap (λ l. record_at l key) c.in_ok-number.ensures.entries ∙ record_pushed c.args.gates.now key c.args.gate c.in_ok-number.ensures.fresh) in
    rw same at c.in_ok-add.ensures.readers

pub returns-clause-drivers : goal.returns-clause-drivers
returns-clause-drivers c =
    let key = c.in_ok-number.number in
    let same : c.in-Some.gate.now ≡ c.args.gate = some_inner c.in-Some.gate.now c.args.gate (c.in-Some.ensures ∙ ap (λ l. record_at l key) c.in_ok-number.ensures.entries ∙ record_pushed c.args.gates.now key c.args.gate c.in_ok-number.ensures.fresh) in
    rw same at c.in_ok-add.ensures.drivers
