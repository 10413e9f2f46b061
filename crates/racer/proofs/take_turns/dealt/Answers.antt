use Rattle.std.proofs.Common.{rules, ◌≡◌, length}
use Rattle.racer.proofs.TurnLemmas.{first_next, second_next}
use Rattle.racer.proofs.take_turns.dealt.Goals as goal

pub commits-preserved-in-Continue-1 : goal.commits-preserved-in-Continue-1
commits-preserved-in-Continue-1 c =
    let even : length c.commits.first.items ≡ length c.commits.second.items = search rules in
    rw c.in_ok-push.ensures.items (first_next _ _ _ _ c.commits.invariant even)

pub commits-preserved : goal.commits-preserved
commits-preserved c =
    let other : ¬ (length c.commits.first.items ≡ length c.commits.second.items) = search rules in
    rw c.in_ok-push-2.ensures.items (second_next _ _ _ _ c.commits.invariant other)
