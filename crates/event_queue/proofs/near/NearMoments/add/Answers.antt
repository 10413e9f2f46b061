use Rattle.std.proofs.Common.{sym, subst}
use Rattle.event_queue.specs.kept.Lists.{IsFirst}
use Rattle.event_queue.proofs.Changes.{first_added, first_same}
use Rattle.event_queue.proofs.near.NearMoments.add.Goals as goal

pub invariant_of-self : goal.invariant_of-self
invariant_of-self c = first_same c.self.inside.row c.add.new.self c.self.inside.first c.in_err-add.ensures.err c.self.invariant

pub invariant_of-self-then-not-branch : goal.invariant_of-self-then-not-branch
invariant_of-self-then-not-branch c = first_same c.self.inside.row c.add.new.self c.self.inside.first (c.in_ok-add.ensures.same c.if-not-branch.true) c.self.invariant

pub invariant_of-self-2 : goal.invariant_of-self-2
invariant_of-self-2 c =
    subst (λ f. IsFirst c.add.new.self f) (sym c.add_moment.ensures)
    (first_added c.self.inside.row c.add.new.self c.args.t c.args.number (c.in_ok-add.ensures.near c.if-not-branch.false) c.self.inside.first c.self.invariant)
