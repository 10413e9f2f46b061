use Rattle.catalog.specs.kept.Slots.{slot_at}
use Rattle.catalog.specs.kept.Found.{found}
use Rattle.catalog.proofs.ChangeLemmas.{table_close}
use Rattle.catalog.proofs.catalog.Catalog.close_up.Goals as goal

pub invariant_of-result : goal.invariant_of-result
invariant_of-result g c =
    let old = c.self.inside in
    table_close g.R.Named.name (found g.R.Named.name old.names) (slot_at old.slots) (slot_at c.in_ok-slots.slots) old.order c.in_ok-slots.order old.len
    c.in_ok-slots.ensures.entries c.in_ok-slots.ensures.placed c.self.invariant
