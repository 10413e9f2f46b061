use Rattle.std.proofs.Common.{◌≡◌, ◌==◌, ◌∙◌, Some, None, sym, ap, arith, option_map}
use Rattle.std.specs.List.{position_from}
use Rattle.catalog.proofs.ListLemmas.{position_within, find_read, position_none}
use Rattle.catalog.proofs.plain.PlainCatalog.get.Goals as goal

pub index-requires : goal.index-requires
index-requires g c =
    omega (arith, position_within (λ e. e.0 == c.args.key) c.in-Some.place c.as_slice.result.now (sym c.place_under.ensures ∙ c.in-Some.is), c.as_slice.ensures.len)

pub returns-in-Some : goal.returns-in-Some
returns-in-Some g c =
    let items = c.self.inside.entries.items in
    let at : position_from (λ e. e.0 == c.args.key) 0 items ≡ Some c.in-Some.place = rw c.as_slice.ensures.value at (sym c.place_under.ensures ∙ c.in-Some.is) in
    let found = find_read (λ e. e.0 == c.args.key) items c.in-Some.place c.index.result.now at c.index.ensures in
    rw (← c.self.view_is) (sym (ap (λ o. option_map (λ e. e.1) o) found ∙ ap Some (sym c.value.ensures)))

pub returns-in-None : goal.returns-in-None
returns-in-None g c =
    let items = c.self.inside.entries.items in
    let at : position_from (λ e. e.0 == c.args.key) 0 items ≡ None = rw c.as_slice.ensures.value at (sym c.place_under.ensures ∙ c.in-None.is) in
    let none = position_none (λ e. e.0 == c.args.key) 0 items at in
    rw (← c.self.view_is) (sym (ap (λ o. option_map (λ e. e.1) o) none))
