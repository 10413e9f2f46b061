use Rattle.std.proofs.Common.{◌∙◌, sym, refl, length}
use Rattle.catalog.proofs.EntryLemmas.{entry_at}
use Rattle.std.proofs.lemmas.Option.{slice_get_read}
use Rattle.catalog.proofs.plain.PlainCatalog.key_at.Goals as goal

pub returns-clause-key : goal.returns-clause-key
returns-clause-key g c =
    let items = c.self.inside.entries.items in
    let at = entry_at items c.self.invariant.distinct.keys c.args.place _ (slice_get_read items (length items) c.args.place c.index.result.now refl (rw (← c.self.view_is) at c.requires) c.index.ensures) in
    rw (← c.self.view_is) at.key

pub returns-clause-place : goal.returns-clause-place
returns-clause-place g c =
    let items = c.self.inside.entries.items in
    let at = entry_at items c.self.invariant.distinct.keys c.args.place _ (slice_get_read items (length items) c.args.place c.index.result.now refl (rw (← c.self.view_is) at c.requires) c.index.ensures) in
    rw (← c.self.view_is) at.place

pub returns-clause-there : goal.returns-clause-there
returns-clause-there g c =
    let items = c.self.inside.entries.items in
    let at = entry_at items c.self.invariant.distinct.keys c.args.place _ (slice_get_read items (length items) c.args.place c.index.result.now refl (rw (← c.self.view_is) at c.requires) c.index.ensures) in
    rw (← c.self.view_is) (at.there ∙ sym at.item)
