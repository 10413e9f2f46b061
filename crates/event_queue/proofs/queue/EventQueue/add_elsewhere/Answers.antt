use Rattle.std.proofs.Common.{subst, refl}
use Rattle.event_queue.specs.kept.Noted.{AreSame, IsAdded}
use Rattle.event_queue.specs.kept.Lists.{joined}
use Rattle.event_queue.proofs.Changes.{added_after, by_err, by_ok, held_err, joined_ahead, joined_behind, joined_same, same_after}
use Rattle.event_queue.proofs.queue.EventQueue.add_elsewhere.Goals as goal

pub returns-in_err-make_lists-clause-err : goal.returns-in_err-make_lists-clause-err
returns-in_err-make_lists-clause-err c =
    let far = c.self.inside.far in let near = c.self.inside.near in
    held_err c.from_residual.result
    (subst (λ q. AreSame q (joined far c.make_lists.new.self)) c.self.view_is (joined_same far near far c.make_lists.new.self (λ u. refl) c.make_lists.ensures))

pub returns-in_err-add-clause-err : goal.returns-in_err-add-clause-err
returns-in_err-add-clause-err c =
    let far = c.self.inside.far in let near = c.self.inside.near in
    held_err c.from_residual-in_err-add.result
    (subst (λ q. AreSame q (joined far c.add.new.self)) c.self.view_is
    (joined_same far near far c.add.new.self (λ u. refl) (same_after near c.make_lists.new.self c.add.new.self c.make_lists.ensures c.in_err-add.ensures.err)))

pub returns-then-branch-clause-ok : goal.returns-then-branch-clause-ok
returns-then-branch-clause-ok c =
    let far = c.self.inside.far in let near = c.self.inside.near in
    subst (λ q. IsAdded c.args.t c.args.number q (joined far c.add.new.self)) c.self.view_is
    (joined_behind far near far c.add.new.self c.args.t c.args.number (λ u. refl)
    (added_after c.args.t c.args.number near c.make_lists.new.self c.add.new.self c.make_lists.ensures (c.in_ok-add.ensures.near c.if-branch.true)))

pub returns-clause-ok : goal.returns-clause-ok
returns-clause-ok c =
    let far = c.self.inside.far in let near = c.self.inside.near in
    by_ok c.add-2.result c.add-2.ensures.ok (λ added.
    subst (λ q. IsAdded c.args.t c.args.number q (joined c.add-2.new.self c.add.new.self)) c.self.view_is
    (joined_ahead far near c.add-2.new.self c.add.new.self c.args.t c.args.number added
    (same_after near c.make_lists.new.self c.add.new.self c.make_lists.ensures (c.in_ok-add.ensures.same c.if-branch.false)) (c.in_ok-add.ensures.far c.if-branch.false)))

pub returns-clause-err : goal.returns-clause-err
returns-clause-err c =
    let far = c.self.inside.far in let near = c.self.inside.near in
    by_err c.add-2.result c.add-2.ensures.err (λ same.
    subst (λ q. AreSame q (joined c.add-2.new.self c.add.new.self)) c.self.view_is
    (joined_same far near c.add-2.new.self c.add.new.self same
    (same_after near c.make_lists.new.self c.add.new.self c.make_lists.ensures (c.in_ok-add.ensures.same c.if-branch.false))))
