use Rattle.std.proofs.Common.{◌-◌, ◌∙◌, ℕ, is_some, sym, ap, subst}
use Rattle.std.proofs.lemmas.Bool.{both_ways}
use Rattle.catalog.specs.Catalog.{record_at}
use Rattle.catalog.specs.kept.Catalog.{without_key}
use Rattle.catalog.specs.kept.Columns.{entries_in}
use Rattle.catalog.specs.kept.Slots.{slot_at}
use Rattle.catalog.specs.kept.Found.{found}
use Rattle.catalog.specs.kept.Table.{IsTable}
use Rattle.catalog.proofs.CellLemmas.{apart_from_placed, entries_clear}
use Rattle.catalog.proofs.ChangeLemmas.{table_clear}
use Rattle.catalog.proofs.TableLemmas.{by_slot, no_slot}
use Rattle.catalog.proofs.catalog.Catalog.without.Goals as goal

pub clear-requires : goal.clear-requires
clear-requires g c =
    let cells = c.self.inside.order in
    let at = by_slot (slot_at c.self.inside.slots) cells c.args.key c.in-Some.index c.self.invariant.placed (sym c.get.ensures ∙ c.in-Some.is) in
    ap is_some at.2.1

pub unreachable-requires : goal.unreachable-requires
unreachable-requires g c =
    let cells = c.self.inside.order in
    let none = no_slot (slot_at c.self.inside.slots) cells c.args.key c.self.invariant.placed (sym c.get.ensures ∙ c.in_default.is) in
    both_ways (is_some (record_at (entries_in cells) c.args.key)) (ap is_some none.0) (rw c.self.view_is c.requires)

pub invariant_of-result : goal.invariant_of-result
invariant_of-result g c =
    let old = c.self.inside in
    let cells = old.order in
    let index = c.in-Some.index in
    let left = slot_at c.remove.new.self in
    let at = by_slot (slot_at old.slots) cells c.args.key index c.self.invariant.placed (sym c.get.ensures ∙ c.in-Some.is) in
    let e = at.2.0 in
    subst (λ l. IsTable g.R.Named.name (found g.R.Named.name old.names) left l (old.len - 1)) (sym c.in_ok-clear.ensures.ok)
    (table_clear g.R.Named.name (found g.R.Named.name old.names) (slot_at old.slots) left cells old.len index e at.2.1 (ap left at.2.2 ∙ c.in_ok-remove.ensures.gone)
    (λ other apart. c.in_ok-remove.ensures.others other (λ same. apart (same ∙ sym at.2.2))) c.self.invariant)

pub returns : goal.returns
returns g c =
    let old = c.self.inside in
    let cells = old.order in
    let index = c.in-Some.index in
    let at = by_slot (slot_at old.slots) cells c.args.key index c.self.invariant.placed (sym c.get.ensures ∙ c.in-Some.is) in
    rw (← c.self.view_is)
    (ap entries_in c.in_ok-clear.ensures.ok ∙ entries_clear cells index at.2.0 (apart_from_placed (slot_at old.slots) cells c.self.invariant.placed) at.2.1 ∙ ap (λ (k : ℕ). without_key (entries_in cells) k) at.2.2)
