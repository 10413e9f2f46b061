use Rattle.std.proofs.Common.{◌≡◌}
use Rattle.catalog.specs.kept.Catalog.{place_of}
use Rattle.catalog.proofs.EntryLemmas.{place_facts}
use Rattle.catalog.proofs.plain.PlainCatalog.place.Goals as goal

pub returns : goal.returns
returns g c =
    let items = c.self.inside.entries.items in
    let place : c.place_under.result ≡ place_of items c.args.key = rw c.as_slice.ensures.value at c.place_under.ensures in
    let facts = place_facts items c.place_under.result c.args.key place in
    rw (← c.self.view_is) (record { place = place; within = facts.0; there = facts.1 })
