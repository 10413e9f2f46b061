use Rattle.std.proofs.Common.{◌∙◌, sym, refl, ap, Some, length}
use Rattle.catalog.proofs.EntryLemmas.{entry_at}
use Rattle.std.proofs.lemmas.Option.{slice_get_read}
use Rattle.catalog.proofs.plain.PlainCatalog.record_at_place.Goals as goal

pub returns : goal.returns
returns g c =
    let items = c.self.inside.entries.items in
    let at = entry_at items c.self.invariant.distinct.keys c.args.place _ (slice_get_read items (length items) c.args.place c.index.result.now refl (rw (← c.self.view_is) at c.requires) c.index.ensures) in
    rw (← c.self.view_is) (at.item ∙ ap Some (sym c.value.ensures))
