use Rattle.std.proofs.Common.{◌≡◌, ◌∙◌, Some, option_map, sym, ap}
use Rattle.std.proofs.lemmas.Option.{none-some, same_Some}
use Rattle.std.specs.Option.{option_copied}
use Rattle.catalog.specs.kept.Columns.{entries_in}
use Rattle.catalog.proofs.EntryLemmas.{entry_at}
use Rattle.catalog.proofs.ListLemmas.{slice_get_some}
use Rattle.catalog.proofs.TableLemmas.{table_distinct}
use Rattle.catalog.proofs.catalog.Catalog.record_at_place.Goals as goal

pub unreachable-requires : goal.unreachable-requires
unreachable-requires g c =
    let entries = entries_in c.self.inside.order in
    let some = slice_get_some entries c.args.place (rw c.self.view_is c.requires) in
    none-some some.0.1 (sym (ap option_copied c.in-None.is) ∙ c.item_at.ensures ∙ ap (λ o. option_map (λ e. e.1) o) (c.index_of-index.ensures ∙ some.1))

pub returns : goal.returns
returns g c =
    let entries = entries_in c.self.inside.order in
    let some = slice_get_some entries c.args.place (rw c.self.view_is c.requires) in
    let same : c.in-Some.item.now ≡ some.0.1 = same_Some c.in-Some.item.now some.0.1 (c.in-Some.ensures ∙ ap (λ o. option_map (λ e. e.1) o) (c.index_of-index.ensures ∙ some.1)) in
    let at = entry_at entries (table_distinct g.R.Named.name _ _ _ _ c.self.invariant).keys c.args.place some.0 some.1 in
    rw (← c.self.view_is) (at.item ∙ ap Some (sym same))
