use Rattle.std.proofs.Common.{◌≡◌, ℕ, [], take, drop, length}
use Rattle.scratch.specs.kept.Places.{has}
use Rattle.ordering.specs.kept.Order.{follow, is_marked, may_come_by}
use Rattle.ordering.proofs.checking.mark_each.Given as goal

-- the gates so far are marked, and the answer is that for the others
abbrev pub invariant-loop-place : goal.invariant-loop-place
invariant-loop-place l =
    record {
      so_far : follow (may_come_by l.wiring) [] l.order ≡ follow (may_come_by l.wiring) (take l.place-index l.order) (drop l.place-index l.order);
      marked : (p : ℕ) → is_marked l.marks p ≡ has p (take l.place-index l.order);
      many : length l.marks ≡ length l.fn.marks;
    }
