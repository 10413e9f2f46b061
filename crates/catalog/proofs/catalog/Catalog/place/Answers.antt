use Rattle.std.proofs.Common.{◌≡◌, ◌∙◌, Some, is_some, sym, ap}
use Rattle.catalog.specs.kept.Catalog.{place_of}
use Rattle.catalog.specs.kept.Columns.{entries_in}
use Rattle.catalog.specs.kept.Slots.{slot_at}
use Rattle.catalog.proofs.EntryLemmas.{place_facts}
use Rattle.catalog.proofs.TableLemmas.{by_slot, no_slot}
use Rattle.catalog.proofs.catalog.Catalog.place.Goals as goal

pub place_at-requires : goal.place_at-requires
place_at-requires g c =
    let cells = c.self.inside.order in
    let at = by_slot (slot_at c.self.inside.slots) cells c.args.key c.in-Some.index c.self.invariant.placed (sym c.get.ensures ∙ c.in-Some.is) in
    ap is_some at.2.1

pub returns-in-Some : goal.returns-in-Some
returns-in-Some g c =
    let cells = c.self.inside.order in
    let at = by_slot (slot_at c.self.inside.slots) cells c.args.key c.in-Some.index c.self.invariant.placed (sym c.get.ensures ∙ c.in-Some.is) in
    let place : Some c.place_at.result ≡ place_of (entries_in cells) c.args.key = ap Some c.place_at.ensures ∙ sym at.1 in
    let facts = place_facts (entries_in cells) (Some c.place_at.result) c.args.key place in
    rw (← c.self.view_is) (record { place = place; within = facts.0; there = facts.1 })

pub returns-in-None-clause-place : goal.returns-in-None-clause-place
returns-in-None-clause-place g c =
    let none = no_slot (slot_at c.self.inside.slots) c.self.inside.order c.args.key c.self.invariant.placed (sym c.get.ensures ∙ c.in-None.is) in
    rw (← c.self.view_is) (sym none.1)
