use Rattle.std.proofs.Common.{◌∙◌, sym}
use Rattle.catalog.specs.kept.Slots.{slot_at}
use Rattle.catalog.proofs.TableLemmas.{by_slot, no_slot}
use Rattle.catalog.proofs.catalog.Catalog.get.Goals as goal

pub returns-in-Some : goal.returns-in-Some
returns-in-Some g c =
    let at = by_slot (slot_at c.self.inside.slots) c.self.inside.order c.args.key c.in-Some.index c.self.invariant.placed (sym c.get.ensures ∙ c.in-Some.is) in
    rw (← c.self.view_is) (c.item_at.ensures ∙ sym at.0)

pub returns-in-None : goal.returns-in-None
returns-in-None g c =
    let none = no_slot (slot_at c.self.inside.slots) c.self.inside.order c.args.key c.self.invariant.placed (sym c.get.ensures ∙ c.in-None.is) in
    rw (← c.self.view_is) (sym none.0)
