use Rattle.std.proofs.Common.{◌∙◌, sym, ap, subst}
use Rattle.catalog.specs.kept.Columns.{AreApart, AreKnown, ArePlaced, cell_at, entries_in}
use Rattle.catalog.specs.kept.Slots.{slot_at}
use Rattle.catalog.proofs.CellLemmas.{apart_from_placed, entries_filtered, filtered_apart}
use Rattle.catalog.proofs.NumberLemmas.{filtered_known, numbered_placed}
use Rattle.catalog.proofs.places.close_up.Goals as goal

pub number-requires-clause-apart : goal.number-requires-clause-apart
number-requires-clause-apart g c = subst AreApart (sym c.in_ok-closed.ensures) (filtered_apart c.args.order (apart_from_placed (slot_at c.args.slots) c.args.order c.requires))

pub number-requires-clause-known : goal.number-requires-clause-known
number-requires-clause-known g c =
    subst (AreKnown (slot_at c.args.slots)) (sym c.in_ok-closed.ensures) (filtered_known (slot_at c.args.slots) (slot_at c.args.slots) c.args.order c.requires (λ key i. slot_at c.args.slots key))

pub returns-clause-entries : goal.returns-clause-entries
returns-clause-entries g c = ap entries_in c.in_ok-closed.ensures ∙ entries_filtered c.args.order

pub returns-clause-placed : goal.returns-clause-placed
returns-clause-placed g c =
    let new = slot_at c.number.new.self in
    subst (ArePlaced new) (sym c.in_ok-closed.ensures)
    (numbered_placed (slot_at c.args.slots) new c.args.order c.requires (λ i e at. c.in_ok-number.ensures.there i e (ap (λ l. cell_at l i) c.in_ok-closed.ensures ∙ at)) c.in_ok-number.ensures.same)
