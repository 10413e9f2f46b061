use Rattle.std.proofs.Common.{◌≡◌, ◌==◌, Some, None, sym, ap, ◌∙◌, subst, arith}
use Rattle.std.specs.List.{position_from}
use Rattle.catalog.specs.kept.Catalog.{without_key}
use Rattle.catalog.specs.kept.Kept.{AreKept}
use Rattle.catalog.proofs.EntryLemmas.{some_there}
use Rattle.catalog.proofs.ListLemmas.{position_within, position_none}
use Rattle.catalog.proofs.KeptLemmas.{kept_without, entry_without}
use Rattle.catalog.proofs.plain.PlainCatalog.remove.Goals as goal

pub remove-requires : goal.remove-requires
remove-requires g c =
    omega (arith, position_within (λ e. e.0 == c.args.key) c.in-Some.place c.as_slice.result.now (sym c.place_under.ensures ∙ c.in-Some.is), c.as_slice.ensures.len)

pub unreachable-requires : goal.unreachable-requires
unreachable-requires g c =
    let items = c.self.inside.entries.items in
    let at : position_from (λ e. e.0 == c.args.key) 0 items ≡ None = rw c.as_slice.ensures.value at (sym c.place_under.ensures ∙ c.in-None.is) in
    some_there items c.args.key (position_none (λ e. e.0 == c.args.key) 0 items at) (rw c.self.view_is c.requires)

pub invariant_of-result : goal.invariant_of-result
invariant_of-result g c =
    let items = c.self.inside.entries.items in
    let at : position_from (λ e. e.0 == c.args.key) 0 items ≡ Some c.in-Some.place = rw c.as_slice.ensures.value at (sym c.place_under.ensures ∙ c.in-Some.is) in
    let list = entry_without items c.in-Some.place c.args.key c.remove.result c.self.invariant.distinct.keys at in
    subst (λ l. AreKept g.R.Named.name l c.self.inside.next_key) (sym (c.remove.ensures.items ∙ list))
    (kept_without g.R.Named.name items c.self.inside.next_key c.args.key c.self.invariant)

pub returns : goal.returns
returns g c =
    let items = c.self.inside.entries.items in
    let at : position_from (λ e. e.0 == c.args.key) 0 items ≡ Some c.in-Some.place = rw c.as_slice.ensures.value at (sym c.place_under.ensures ∙ c.in-Some.is) in
    let list = entry_without items c.in-Some.place c.args.key c.remove.result c.self.invariant.distinct.keys at in
    c.remove.ensures.items ∙ list ∙ ap (λ l. without_key l c.args.key) c.self.view_is
