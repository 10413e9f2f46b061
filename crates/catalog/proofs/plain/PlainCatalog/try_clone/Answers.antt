use Rattle.std.proofs.Common.{◌≡◌, sym, ◌∙◌, subst}
use Rattle.std.proofs.lemmas.List.Elements.{same_from_all_zip}
use Rattle.catalog.specs.kept.Kept.{AreKept}
use Rattle.catalog.proofs.plain.PlainCatalog.try_clone.Goals as goal

pub invariant_of-result : goal.invariant_of-result
invariant_of-result g c =
    let same : c.in_ok-entries.entries.items ≡ c.self.inside.entries.items = same_from_all_zip _ _ _ c.in_ok-entries.ensures.cases.0 (λ x y h i. (h.0 i, h.1 i)) in
    subst (λ l. AreKept g.R.Named.name l c.self.inside.next_key) (sym same) c.self.invariant

pub returns : goal.returns
returns g c = same_from_all_zip _ _ _ c.in_ok-entries.ensures.cases.0 (λ x y h i. (h.0 i, h.1 i)) ∙ c.self.view_is
