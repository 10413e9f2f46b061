use Rattle.std.proofs.Common.{◌≡◌, ◌∙◌, ℕ, Some, IfSome, is_some, sym, ap, subst}
use Rattle.std.proofs.lemmas.Bool.{both_ways}
use Rattle.std.specs.List.{slice_set}
use Rattle.catalog.specs.Catalog.{record_at}
use Rattle.catalog.specs.kept.Catalog.{with_record}
use Rattle.catalog.specs.kept.Columns.{entries_in}
use Rattle.catalog.specs.kept.Slots.{slot_at}
use Rattle.catalog.specs.kept.Found.{found}
use Rattle.catalog.specs.kept.Table.{IsTable}
use Rattle.catalog.proofs.CellLemmas.{apart_from_placed, entries_set}
use Rattle.catalog.proofs.ChangeLemmas.{table_set}
use Rattle.catalog.proofs.TableLemmas.{by_slot, no_slot, table_distinct}
use Rattle.catalog.proofs.catalog.Catalog.replace.Goals as goal

pub set-requires : goal.set-requires
set-requires g c =
    let cells = c.self.inside.order in
    let at = by_slot (slot_at c.self.inside.slots) cells c.args.key c.in-Some.index c.self.invariant.placed (sym c.get.ensures ∙ c.in-Some.is) in
    ap is_some at.2.1

pub unreachable-requires : goal.unreachable-requires
unreachable-requires g c =
    let cells = c.self.inside.order in
    let none = no_slot (slot_at c.self.inside.slots) cells c.args.key c.self.invariant.placed (sym c.get.ensures ∙ c.in_default.is) in
    both_ways (is_some (record_at (entries_in cells) c.args.key)) (ap is_some none.0) (rw c.self.view_is c.requires.there)

pub invariant_of-result : goal.invariant_of-result
invariant_of-result g c =
    let name_of = g.R.Named.name in
    let old = c.self.inside in
    let cells = old.order in
    let index = c.in-Some.index in
    let item = c.args.item in
    let at = by_slot (slot_at old.slots) cells c.args.key index c.self.invariant.placed (sym c.get.ensures ∙ c.in-Some.is) in
    let e = at.2.0 in
    let name : IfSome (record_at (entries_in cells) c.args.key) (λ was. name_of item ≡ name_of was) = rw c.self.view_is c.requires.name in
    let there = subst (λ (k : ℕ). IfSome (record_at (entries_in cells) k) (λ was. name_of item ≡ name_of was)) (sym at.2.2) name in
    let order = c.in_ok-set.ensures.ok ∙ ap (λ r. slice_set cells index (Some (c.args.key, r))) c.in_ok-item.ensures ∙ ap (λ (k : ℕ). slice_set cells index (Some (k, item))) (sym at.2.2) in
    subst (λ l. IsTable name_of (found name_of old.names) (slot_at old.slots) l old.len) (sym order)
    (table_set name_of (found name_of old.names) (slot_at old.slots) cells old.len index e item (table_distinct name_of _ _ _ _ c.self.invariant).keys at.2.1 there c.self.invariant)

pub returns : goal.returns
returns g c =
    let old = c.self.inside in
    let cells = old.order in
    let index = c.in-Some.index in
    let item = c.args.item in
    let at = by_slot (slot_at old.slots) cells c.args.key index c.self.invariant.placed (sym c.get.ensures ∙ c.in-Some.is) in
    let order = c.in_ok-set.ensures.ok ∙ ap (λ r. slice_set cells index (Some (c.args.key, r))) c.in_ok-item.ensures ∙ ap (λ (k : ℕ). slice_set cells index (Some (k, item))) (sym at.2.2) in
    rw (← c.self.view_is)
    (ap entries_in order ∙ entries_set cells index at.2.0 item (apart_from_placed (slot_at old.slots) cells c.self.invariant.placed) at.2.1 ∙ ap (λ (k : ℕ). with_record (entries_in cells) k item) at.2.2)
