use Rattle.std.proofs.Common.{◌≡◌, vec_len}
use Rattle.racer.specs.kept.Threads.{looking}
use Rattle.racer.proofs.HandleLemmas.{more_handles, more_viewers}
use Rattle.racer.proofs.threads.start_viewers.Goals as goal

pub viewers-preserved : goal.viewers-preserved
viewers-preserved g c = (
  more_handles (λ handle. handle.promise ≡ looking c.args.looks) c.viewers.watching.items c.in_ok-child.child c.push.new.self.items
      c.in_ok-push.ensures.items c.viewers.invariant.0 c.in_ok-child.ensures,
  more_viewers (vec_len c.viewers.watching) (vec_len c.push.new.self) c.viewers.yielded c.in-Some.viewer c.in_ok-push.ensures.len c.viewers.invariant.1,
)
