use Rattle.std.proofs.Common.{◌≡◌, ◌+◌, Some, length, rules, sym, arith}
use Rattle.std.proofs.lemmas.List.Sorted.{IsPartitionPoint-from_clause}
use Rattle.catalog.specs.kept.Catalog.{place_of}
use Rattle.design.specs.kept.Kept.{stands_before}
use Rattle.design.proofs.EntryLemmas.{keys_apart}
use Rattle.design.proofs.PlaceLemmas.{ends_before, in_order_partitioned, placed}
use Rattle.design.proofs.wiring.place_among.Goals as goal

pub unreachable-requires : goal.unreachable-requires
unreachable-requires c = placed c.args.gates.now c.args.key c.requires.there (rw (← c.key.view_is) (sym c.in_default.ensures.place))

pub returns-clause-split : goal.returns-clause-split
returns-clause-split c =
    let gates = c.args.gates.now in
    let at : place_of gates c.args.key ≡ Some c.in-Some.place = rw (← c.key.view_is) (sym c.in-Some.ensures.place) in
    rw at
    (IsPartitionPoint-from_clause (stands_before gates c.in-Some.place) c.args.list.now _ c.partition_point.ensures.partitioned
    (in_order_partitioned gates c.args.list.now c.in-Some.place (keys_apart gates c.lawful.ensures.keys) c.requires.ordered) (λ a r f h. search rules))

pub returns-then-not-ends_with-clause-split : goal.returns-then-not-ends_with-clause-split
returns-then-not-ends_with-clause-split c =
    let gates = c.args.gates.now in
    let at : place_of gates c.args.key ≡ Some c.in-Some.place = rw (← c.key.view_is) (sym c.in-Some.ensures.place) in
    let last : c.in-Some.place + 1 ≡ length gates = omega (arith, c.if-len-place-eq1.true, c.len.ensures) in
    rw at (ends_before gates c.args.list.now c.args.key c.in-Some.place (keys_apart gates c.lawful.ensures.keys) c.requires.ordered at last (c.ends_with.ensures c.if-not-ends_with.true))
