use Rattle.std.proofs.Common.{◌≡◌, ℕ, ◌∙◌, Some, None, sym, ap, arith, option_map}
use Rattle.std.specs.List.{position_from}
use Rattle.catalog.specs.Catalog.{same_name}
use Rattle.catalog.proofs.EntryLemmas.{record_at_found}
use Rattle.catalog.proofs.ListLemmas.{position_within, find_read, position_none}
use Rattle.catalog.proofs.plain.PlainCatalog.key.Goals as goal

pub index-requires : goal.index-requires
index-requires g c =
    omega (arith, position_within (λ e. same_name (g.R.Named.name e.1) c.args.name.now) c.in-Some.place c.as_slice.result.now (sym c.place_named.ensures ∙ c.in-Some.is), c.as_slice.ensures.len)

pub returns-in-Some-clause-key : goal.returns-in-Some-clause-key
returns-in-Some-clause-key g c =
    let items = c.self.inside.entries.items in
    let at : position_from (λ e. same_name (g.R.Named.name e.1) c.args.name.now) 0 items ≡ Some c.in-Some.place = rw c.as_slice.ensures.value at (sym c.place_named.ensures ∙ c.in-Some.is) in
    let found = find_read (λ e. same_name (g.R.Named.name e.1) c.args.name.now) items c.in-Some.place c.index.result.now at c.index.ensures in
    rw (← c.self.view_is) (sym (ap (λ o. option_map (λ e. e.0) o) found))

pub returns-in-Some-clause-there : goal.returns-in-Some-clause-there
returns-in-Some-clause-there g c =
    let items = c.self.inside.entries.items in
    let test = λ (e : ℕ × g.row.R.Denot). same_name (g.R.Named.name e.1) c.args.name.now in
    let at : position_from (λ e. same_name (g.R.Named.name e.1) c.args.name.now) 0 items ≡ Some c.in-Some.place = rw c.as_slice.ensures.value at (sym c.place_named.ensures ∙ c.in-Some.is) in
    let found = find_read test items c.in-Some.place c.index.result.now at c.index.ensures in
    rw (← c.self.view_is) (record_at_found items c.self.invariant.distinct.keys test _ found ∙ sym (ap (λ o. option_map (λ e. e.1) o) found))

pub returns-in-None-clause-key : goal.returns-in-None-clause-key
returns-in-None-clause-key g c =
    let items = c.self.inside.entries.items in
    let at : position_from (λ e. same_name (g.R.Named.name e.1) c.args.name.now) 0 items ≡ None = rw c.as_slice.ensures.value at (sym c.place_named.ensures ∙ c.in-None.is) in
    let none = position_none (λ e. same_name (g.R.Named.name e.1) c.args.name.now) 0 items at in
    rw (← c.self.view_is) (sym (ap (λ o. option_map (λ e. e.0) o) none))
