use Rattle.std.proofs.Common.{◌≡◌, ◌∙◌, Some, option_map, sym, ap}
use Rattle.std.proofs.lemmas.Option.{none-some, same_Some}
use Rattle.catalog.specs.Catalog.{record_at}
use Rattle.catalog.specs.kept.Catalog.{place_of}
use Rattle.catalog.specs.kept.Columns.{entries_in}
use Rattle.catalog.proofs.EntryLemmas.{entry_at}
use Rattle.catalog.proofs.ListLemmas.{slice_get_some}
use Rattle.catalog.proofs.TableLemmas.{table_distinct}
use Rattle.catalog.proofs.catalog.Catalog.key_at.Goals as goal

pub unreachable-requires : goal.unreachable-requires
unreachable-requires g c =
    let entries = entries_in c.self.inside.order in
    let some = slice_get_some entries c.args.place (rw c.self.view_is c.requires) in
    none-some some.0.0 (sym c.in-None.is ∙ c.key_at.ensures ∙ ap (λ o. option_map (λ e. e.0) o) (c.index_of-index.ensures ∙ some.1))

pub returns : goal.returns
returns g c =
    let entries = entries_in c.self.inside.order in
    let some = slice_get_some entries c.args.place (rw c.self.view_is c.requires) in
    let same : c.in-Some.key ≡ some.0.0 = same_Some c.in-Some.key some.0.0 (sym c.in-Some.is ∙ c.key_at.ensures ∙ ap (λ o. option_map (λ e. e.0) o) (c.index_of-index.ensures ∙ some.1)) in
    let at = entry_at entries (table_distinct g.R.Named.name _ _ _ _ c.self.invariant).keys c.args.place some.0 some.1 in
    rw (← c.self.view_is) (record {
      key = at.key ∙ ap Some (sym same);
      place = ap (λ k. place_of entries k) same ∙ at.place;
      there = ap (λ k. record_at entries k) same ∙ at.there ∙ sym at.item;
    })
