use Rattle.std.proofs.Common.{◌≡◌, ◌∙◌, ◌++◌, ap, sym, ℕ, List, drop, take}
use Rattle.fourstate.specs.declared.value.Value.{Value}
use Rattle.design.specs.kept.Pieces.{points_in, points_of}
use Rattle.design.proofs.PartingLemmas.{none_over, none_yet, refilled, rising_rest, same_until, shared_more}
use Rattle.design.proofs.parting.part.Goals as goal

pub loop-one-preserved-then-is_to_fill : goal.loop-one-preserved-then-is_to_fill
loop-one-preserved-then-is_to_fill c =
    let n = c.count_alike-count.result in
    let before = c.loop-one.invariant in
    let one = c.loop-one.one.now in let other = c.loop-one.other.now in
    let more = c.loop-one.more.now in let others = c.loop-one.others.now in
    let alike : take n one ≡ take n other = c.count_alike-count.ensures.alike in
    let left : c.points_behind-one.result.now ≡ drop n one = c.points_behind-one.ensures in
    let filled =
    refilled points_in more c.pieces_behind-more.result.now c.index-more-0.result c.points_behind-one.result.now c.list_of-one.result.now
    (c.is_to_fill.ensures.empty c.if-is_to_fill.true) (c.is_to_fill.ensures.more c.if-is_to_fill.true) c.index-more-0.is c.list_of-one.ensures c.pieces_behind-more.ensures in
    record {
      shared = before.shared ++ take n one;
      points = shared_more _ before.shared one (points_of more) _ n before.points (filled ∙ ap (λ (l : List (ℕ × Value)). l ++ points_of more) left);
      other_points =
          shared_more _ before.shared other (points_of others) _ n before.other_points (ap (λ (l : List (ℕ × Value)). l ++ points_of others) c.points_behind-other.ensures)
          ∙ ap (λ l. (before.shared ++ l) ++ (c.points_behind-other.result.now ++ points_of others)) (sym alike);
    }

pub loop-one-preserved : goal.loop-one-preserved
loop-one-preserved c =
    let n = c.count_alike-count.result in
    let before = c.loop-one.invariant in
    let one = c.loop-one.one.now in let other = c.loop-one.other.now in
    let more = c.loop-one.more.now in let others = c.loop-one.others.now in
    let alike : take n one ≡ take n other = c.count_alike-count.ensures.alike in
    let left : c.points_behind-other.result.now ≡ drop n other = c.points_behind-other.ensures in
    let filled =
    refilled points_in others c.pieces_behind-others.result.now c.index-others-0.result c.points_behind-other.result.now c.list_of-other.result.now
    (c.is_to_fill-else-is_to_fill.ensures.empty c.if-is_to_fill-2.true) (c.is_to_fill-else-is_to_fill.ensures.more c.if-is_to_fill-2.true) c.index-others-0.is c.list_of-other.ensures c.pieces_behind-others.ensures in
    record {
      shared = before.shared ++ take n one;
      points = shared_more _ before.shared one (points_of more) _ n before.points (ap (λ (l : List (ℕ × Value)). l ++ points_of more) c.points_behind-one.ensures);
      other_points =
          shared_more _ before.shared other (points_of others) _ n before.other_points (filled ∙ ap (λ (l : List (ℕ × Value)). l ++ points_of others) left)
          ∙ ap (λ l. (before.shared ++ l) ++ (c.list_of-other.result.now ++ points_of c.pieces_behind-others.result.now)) (sym alike);
    }

pub returns-else-is_to_fill-2 : goal.returns-else-is_to_fill-2
returns-else-is_to_fill-2 c = λ m early.
    let n = c.count_alike-count.result in
    let before = c.loop-one.invariant in
    let one = c.loop-one.one.now in let other = c.loop-one.other.now in
    let more = c.loop-one.more.now in let others = c.loop-one.others.now in
    let alike : take n one ≡ take n other = c.count_alike-count.ensures.alike in
    let rest : List (ℕ × Value) = c.points_behind-one.result.now ++ points_of more in
    let other_rest : List (ℕ × Value) = c.points_behind-other.result.now ++ points_of others in
    let points = shared_more _ before.shared one (points_of more) rest n before.points (ap (λ (l : List (ℕ × Value)). l ++ points_of more) c.points_behind-one.ensures) in
    let other_points =
    shared_more _ before.shared other (points_of others) other_rest n before.other_points (ap (λ (l : List (ℕ × Value)). l ++ points_of others) c.points_behind-other.ensures)
    ∙ ap (λ l. (before.shared ++ l) ++ other_rest) (sym alike) in
    same_until _ _ (before.shared ++ take n one) rest other_rest m points other_points
    (none_yet c.points_behind-one.result.now (points_of more) m (λ none. none_over points_in more (c.is_to_fill.ensures.over c.if-is_to_fill.false none))
    (rising_rest _ (before.shared ++ take n one) rest points c.requires.rising) (c.first_of.ensures.one m early))
    (none_yet c.points_behind-other.result.now (points_of others) m (λ none. none_over points_in others (c.is_to_fill-else-is_to_fill.ensures.over c.if-is_to_fill-2.false none))
    (rising_rest _ (before.shared ++ take n one) other_rest other_points c.requires.other_rising) (c.first_of.ensures.other m early))
