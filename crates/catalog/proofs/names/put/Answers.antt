use Rattle.std.proofs.Common.{◌≡◌, ◌∙◌, Some, refl, ap, sym, subst, inl, inr, if◌then◌else◌}
use Rattle.std.specs.Arc.{arc_value}
use Rattle.std.specs.Result.{IsOk}
use Rattle.catalog.specs.Catalog.{same_name}
use Rattle.catalog.specs.kept.Found.{key_under}
use Rattle.catalog.proofs.NameLemmas.{lookup_same}
use Rattle.catalog.proofs.names.put.Goals as goal

pub returns : goal.returns
returns g c = λ other.
    let name_of = g.R.Named.name in
    let own = c.in_ok-make_mut.field-0.now in
    let kept : key_under name_of own other ≡ key_under name_of (arc_value c.args.map.now) other =
    elim c.in_ok-make_mut.ensures.value [
      | inl e ↦ ap (λ m. key_under name_of m other) e
      | inr copy ↦ lookup_same _ _ (λ p q r. (ap (λ k. same_name other (name_of k.record)) r.0, r.1)) _ _ copy
    ] in
    let back = c.make_mut.follows.holds c.write.new.map (subst (λ r. IsOk r) (sym c.in_ok-make_mut.was) refl) in
    ap (λ m. key_under name_of m other) back ∙ c.in_ok-write.ensures other ∙ ap (λ o. if same_name (name_of c.args.name.record) other then Some c.args.key else o) kept
