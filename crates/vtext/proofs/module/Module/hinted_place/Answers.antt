use Rattle.std.proofs.Common.{◌≡◌, Some, map, slice_get, sym, ap, ◌∙◌}
use Rattle.std.specs.Prelude.{option_map}
use Rattle.std.specs.Map.Iter.{deref_pair}
use Rattle.std.proofs.lemmas.Option.{slice_get-map}
use Rattle.vtext.proofs.NetPlaces.{stands_first}
use Rattle.vtext.proofs.module.Module.hinted_place.Goals as goal

pub returns-in-Some-clause-place : goal.returns-in-Some-clause-place
returns-in-Some-clause-place c =
    let nets = c.self.inside.nets.entries in
    let place = c.in_ok-place.place in
    let entry : slice_get nets place ≡ Some (c.in-Some.key.now, c.in-Some.field-0-1.now) = sym c.get_index.ensures.entry ∙ ap (option_map deref_pair) c.in-Some.is in
    let named : slice_get (map (λ e. e.0) nets) place ≡ Some c.args.name = slice_get-map (λ e. e.0) nets place ∙ ap (option_map (λ e. e.0)) entry ∙ ap (λ n. Some n) c.if-key-name.true in
    rw (← c.self.view_is) (stands_first c.args.name (map (λ e. e.0) nets) place c.len.ensures.unique named)
