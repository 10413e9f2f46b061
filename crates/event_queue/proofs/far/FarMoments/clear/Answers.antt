use Rattle.std.proofs.Common.{subst, refl, None}
use Rattle.event_queue.specs.kept.Noted.{IsTaken}
use Rattle.event_queue.proofs.Moments.{filled, seen, taken}
use Rattle.event_queue.proofs.far.FarMoments.clear.Goals as goal

pub invariant_of-self : goal.invariant_of-self
invariant_of-self c = filled c.self.inside.moments c.remove.new.self c.args.t None c.remove.ensures.updates.0 tt c.self.invariant

pub returns-in-Some : goal.returns-in-Some
returns-in-Some c = subst (λ q. IsTaken c.args.t q (seen c.remove.new.self)) c.self.view_is (taken c.self.inside.moments c.remove.new.self c.args.t None c.remove.ensures.updates.0 refl)

pub returns-in_default : goal.returns-in_default
returns-in_default c = subst (λ q. IsTaken c.args.t q (seen c.remove.new.self)) c.self.view_is (taken c.self.inside.moments c.remove.new.self c.args.t None c.remove.ensures.updates.0 refl)
