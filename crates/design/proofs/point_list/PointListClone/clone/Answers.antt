use Rattle.std.proofs.Common.{◌∙◌, ap, sym, length}
use Rattle.design.specs.kept.Pieces.{points_in}
use Rattle.design.proofs.PieceLemmas.{pieces_same}
use Rattle.design.proofs.point_list.PointListClone.clone.Goals as goal

pub invariant_of-result : goal.invariant_of-result
invariant_of-result c =
    let same = pieces_same points_in _ (λ x y r. ap (λ v. v.items) r) c.self.inside.pieces.items c.in_ok-pieces.pieces.items c.in_ok-pieces.ensures.cases.0 in
    (same.1 c.self.invariant.0, c.self.invariant.1 ∙ sym (ap (λ l. length l) same.0))

pub returns : goal.returns
returns c =
    let same = pieces_same points_in _ (λ x y r. ap (λ v. v.items) r) c.self.inside.pieces.items c.in_ok-pieces.pieces.items c.in_ok-pieces.ensures.cases.0 in
    record { cases = same.0 ∙ c.self.view_is }
