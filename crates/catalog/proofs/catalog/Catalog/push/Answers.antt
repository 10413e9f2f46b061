use Rattle.std.proofs.Common.{◌≡◌, ℕ, ◌+◌, ◌∷◌, ◌++◌, [], Some, None, sym, ap, ◌∙◌, subst, if◌then◌else◌, rules}
use Rattle.catalog.specs.Catalog.{same_name}
use Rattle.catalog.specs.kept.Catalog.{key_named}
use Rattle.catalog.specs.kept.Columns.{entries_in}
use Rattle.catalog.specs.kept.Slots.{slot_at}
use Rattle.catalog.specs.kept.Found.{found}
use Rattle.catalog.specs.kept.Table.{IsTable}
use Rattle.catalog.proofs.CellLemmas.{entries_push}
use Rattle.catalog.proofs.ChangeLemmas.{table_push}
use Rattle.catalog.proofs.TableLemmas.{no_slot, table_distinct}
use Rattle.catalog.proofs.catalog.Catalog.push.Goals as goal

pub ready_names-requires-clause-distinct : goal.ready_names-requires-clause-distinct
ready_names-requires-clause-distinct g c = (table_distinct g.R.Named.name _ _ _ _ c.self.invariant).names

pub invariant_of-self-in-Ok : goal.invariant_of-self-in-Ok
invariant_of-self-in-Ok g c =
    let name_of = g.R.Named.name in
    let old = c.self.inside in
    let cells = old.order in
    let key = c.in-Ok.key in
    let item = c.args.item in
    let next : c.in_ok-more.more ≡ old.len + 1 = search rules in
    let new : key_named name_of (entries_in cells) (name_of item) ≡ None = rw c.self.view_is c.requires in
    let names = found name_of c.ready_names.new.names in
    let more = found name_of c.enter-entered.new.names in
    let slots = slot_at c.enter-entered.new.slots in
    subst (λ l. IsTable name_of more slots l c.in_ok-more.more) (sym (c.in-Ok.ensures.last ∙ ap (λ r. cells ++ Some (key, r) ∷ []) c.in_ok-item.ensures))
    (subst (λ n. IsTable name_of more slots (cells ++ Some (key, item) ∷ []) n) (sym next)
    (table_push name_of names more (slot_at old.slots) slots cells old.len key item c.self.invariant.placed c.ready_names.ensures c.self.invariant.counted new
    c.in-Ok.ensures.fresh c.in-Ok.ensures.there c.in-Ok.ensures.others
    (λ name. c.in-Ok.ensures.named name ∙ ap (λ bytes. if same_name bytes name then Some key else names name) (ap name_of c.in_ok-item.ensures))))

pub returns-in-Ok-clause-entries : goal.returns-in-Ok-clause-entries
returns-in-Ok-clause-entries g c =
    let cells = c.self.inside.order in
    let e : ℕ × g.row.R.Denot = (c.in-Ok.key, c.args.item) in
    rw (← c.self.view_is) (ap entries_in (c.in-Ok.ensures.last ∙ ap (λ r. cells ++ Some (c.in-Ok.key, r) ∷ []) c.in_ok-item.ensures) ∙ entries_push cells e)

pub returns-in-Ok-clause-fresh : goal.returns-in-Ok-clause-fresh
returns-in-Ok-clause-fresh g c =
    rw (← c.self.view_is) (no_slot (slot_at c.self.inside.slots) c.self.inside.order c.in-Ok.key c.self.invariant.placed c.in-Ok.ensures.fresh).0
