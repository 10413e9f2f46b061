use Rattle.catalog.specs.kept.Slots.{slot_at}
use Rattle.catalog.specs.kept.Found.{found}
use Rattle.catalog.proofs.ChangeLemmas.{table_same}
use Rattle.catalog.proofs.catalog.Catalog.try_clone.Goals as goal

pub invariant_of-result : goal.invariant_of-result
invariant_of-result g c =
    let old = c.self.inside in
    table_same g.R.Named.name (found g.R.Named.name old.names) (found g.R.Named.name c.in_ok-names.names) (slot_at old.slots) (slot_at c.in_ok-slots.slots) old.order c.in_ok-order.order old.len
    c.in_ok-names.ensures c.in_ok-slots.ensures c.in_ok-order.ensures c.self.invariant
