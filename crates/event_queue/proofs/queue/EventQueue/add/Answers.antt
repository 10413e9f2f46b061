use Rattle.std.proofs.Common.{subst, refl}
use Rattle.event_queue.specs.kept.Noted.{AreSame, IsAdded}
use Rattle.event_queue.specs.kept.Lists.{joined}
use Rattle.event_queue.proofs.Changes.{added_after, by_err, by_ok, held_err, joined_behind, joined_same, same_after}
use Rattle.event_queue.proofs.queue.EventQueue.add.Goals as goal

pub returns-in_err-add-clause-err : goal.returns-in_err-add-clause-err
returns-in_err-add-clause-err c =
    let far = c.self.inside.far in let near = c.self.inside.near in
    held_err c.from_residual.result (subst (λ q. AreSame q (joined far c.add.new.self)) c.self.view_is (joined_same far near far c.add.new.self (λ u. refl) c.in_err-add.ensures.err))

pub returns-then-branch-clause-ok : goal.returns-then-branch-clause-ok
returns-then-branch-clause-ok c =
    let far = c.self.inside.far in let near = c.self.inside.near in
    subst (λ q. IsAdded c.args.t c.args.number q (joined far c.add.new.self)) c.self.view_is
    (joined_behind far near far c.add.new.self c.args.t c.args.number (λ u. refl) (c.in_ok-add.ensures.near c.if-branch.true))

pub returns-clause-ok : goal.returns-clause-ok
returns-clause-ok c =
    let far = c.self.inside.far in let near = c.self.inside.near in
    by_ok c.add_elsewhere.result c.add_elsewhere.ensures.ok (λ added.
    added_after c.args.t c.args.number c.args.self.now (joined far c.add.new.self) c.add_elsewhere.new.self
    (subst (λ q. AreSame q (joined far c.add.new.self)) c.self.view_is (joined_same far near far c.add.new.self (λ u. refl) (c.in_ok-add.ensures.same c.if-branch.false))) added)

pub returns-clause-err : goal.returns-clause-err
returns-clause-err c =
    let far = c.self.inside.far in let near = c.self.inside.near in
    by_err c.add_elsewhere.result c.add_elsewhere.ensures.err (λ same.
    same_after c.args.self.now (joined far c.add.new.self) c.add_elsewhere.new.self
    (subst (λ q. AreSame q (joined far c.add.new.self)) c.self.view_is (joined_same far near far c.add.new.self (λ u. refl) (c.in_ok-add.ensures.same c.if-branch.false))) same)
