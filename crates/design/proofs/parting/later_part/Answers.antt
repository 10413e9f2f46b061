use Rattle.std.proofs.Common.{◌≡◌, ◌∙◌, ◌++◌, ap, subst, ℕ, List, true, false, add-one, drop, nat_le}
use Rattle.std.specs.List.Sorted.{IsPartitionPoint}
use Rattle.fourstate.specs.declared.value.Value.{Value}
use Rattle.design.specs.kept.Pieces.{points_in, points_of}
use Rattle.design.proofs.PartingLemmas.{later_part}
use Rattle.design.proofs.PieceLemmas.{rising_in}
use Rattle.design.proofs.parting.later_part.Goals as goal

pub count_until-count-requires : goal.count_until-count-requires
count_until-count-requires c =
    rw c.list_of-points.ensures (rising_in points_in c.args.pieces.now c.home_of-home.result c.index-pieces-home.result c.requires.rising c.home_of-home.ensures.within c.index-pieces-home.is)

pub returns : goal.returns
returns c =
    let pieces = c.args.pieces.now in
    let t = c.args.t in
    let home = c.home_of-home.result in
    let old = c.index-pieces-home.result in
    let n = c.count_until-count.result in
    let points : c.list_of-points.result.now ≡ points_in old = c.list_of-points.ensures in
    let split = subst (λ (l : List (ℕ × Value)). IsPartitionPoint (λ p. nat_le p.0 t ≡ true) (λ p. nat_le p.0 t ≡ false) l n) points c.count_until-count.ensures.split in
    ap (λ (l : List (ℕ × Value)). l ++ points_of c.pieces_behind.result.now) (c.points_behind.ensures ∙ ap (drop n) points)
    ∙ ap (λ l. drop n (points_in old) ++ points_of l) (c.pieces_behind.ensures ∙ ap (λ (k : ℕ). drop k pieces) (add-one home))
    ∙ later_part points_in t pieces home n old c.home_of-home.ensures.home c.index-pieces-home.is split
