use Rattle.std.proofs.Common.{◌≡◌, ◌==◌, Some, None, sym, ap, ◌∙◌, subst, arith}
use Rattle.std.specs.List.{position_from}
use Rattle.catalog.specs.kept.Catalog.{with_record}
use Rattle.catalog.specs.kept.Kept.{AreKept}
use Rattle.catalog.proofs.EntryLemmas.{some_there}
use Rattle.catalog.proofs.ListLemmas.{position_within, position_none}
use Rattle.catalog.proofs.KeptLemmas.{kept_with, entry_with}
use Rattle.catalog.proofs.plain.PlainCatalog.replace.Goals as goal

pub index_mut-requires : goal.index_mut-requires
index_mut-requires g c =
    omega (arith, position_within (λ e. e.0 == c.args.key) c.in-Some.place c.as_slice.result.now (sym c.place_under.ensures ∙ c.in-Some.is), c.as_slice.ensures.len)

pub unreachable-requires : goal.unreachable-requires
unreachable-requires g c =
    let items = c.self.inside.entries.items in
    let at : position_from (λ e. e.0 == c.args.key) 0 items ≡ None = rw c.as_slice.ensures.value at (sym c.place_under.ensures ∙ c.in-None.is) in
    some_there items c.args.key (position_none (λ e. e.0 == c.args.key) 0 items at) (rw c.self.view_is c.requires.there)

pub invariant_of-result : goal.invariant_of-result
invariant_of-result g c =
    let items = c.self.inside.entries.items in
    let name_of = g.R.Named.name in
    let at : position_from (λ e. e.0 == c.args.key) 0 items ≡ Some c.in-Some.place = rw c.as_slice.ensures.value at (sym c.place_under.ensures ∙ c.in-Some.is) in
    let list = entry_with items c.in-Some.place c.args.key c.index_mut.result.now c.in_ok-item.item c.self.invariant.distinct.keys at c.index_mut.ensures.value in
    subst (λ l. AreKept name_of l c.self.inside.next_key) (sym (list ∙ ap (λ r. with_record items c.args.key r) c.in_ok-item.ensures))
    (kept_with name_of items c.self.inside.next_key c.args.key c.args.item c.self.invariant (rw c.self.view_is c.requires.name))

pub returns : goal.returns
returns g c =
    let items = c.self.inside.entries.items in
    let at : position_from (λ e. e.0 == c.args.key) 0 items ≡ Some c.in-Some.place = rw c.as_slice.ensures.value at (sym c.place_under.ensures ∙ c.in-Some.is) in
    let list = entry_with items c.in-Some.place c.args.key c.index_mut.result.now c.in_ok-item.item c.self.invariant.distinct.keys at c.index_mut.ensures.value in
    rw (← c.self.view_is) (list ∙ ap (λ r. with_record items c.args.key r) c.in_ok-item.ensures)
