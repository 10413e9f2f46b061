use Rattle.std.proofs.Common.{◌≡◌, ◌≤◌, ◌<◌, ◌∙◌, ap, sym, length, Some, slice_get}
use Rattle.std.specs.Option.{option_map}
use Rattle.std.proofs.lemmas.Option.{slice_get-get_or, slice_get_past}
use Rattle.design.proofs.NextLemmas.{next_at}
use Rattle.design.proofs.points.next_after.Goals as goal

pub returns-in-Some : goal.returns-in-Some
returns-in-Some c =
    let points = c.args.points.now in
    let count = c.count_until-count.result in
    let within : count < length points = c.in-Some.ensures.lookup.3.0 in
    let there : slice_get points count ≡ Some c.in-Some.point.now = slice_get-get_or points count c.in-Some.point.now within ∙ ap (λ p. Some p) (sym c.in-Some.ensures.lookup.1) in
    ap (option_map (λ point. point.0)) (sym there ∙ sym (next_at points c.args.t count c.count_until-count.ensures.split c.count_until-count.ensures.within))

pub returns-in-None : goal.returns-in-None
returns-in-None c =
    let points = c.args.points.now in
    let count = c.count_until-count.result in
    let past : length points ≤ count = c.in-None.ensures.lookup.3 in
    ap (option_map (λ point. point.0)) (sym (slice_get_past points count past) ∙ sym (next_at points c.args.t count c.count_until-count.ensures.split c.count_until-count.ensures.within))
