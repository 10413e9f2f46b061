use Rattle.std.proofs.Common.{subst}
use Rattle.event_queue.specs.kept.Lists.{IsFirst}
use Rattle.event_queue.proofs.near.NearMoments.first.Goals as goal

pub returns-clause-noted : goal.returns-clause-noted
returns-clause-noted c = (subst (λ q. IsFirst q c.self.inside.first) c.self.view_is c.self.invariant).there

pub returns-clause-least : goal.returns-clause-least
returns-clause-least c = (subst (λ q. IsFirst q c.self.inside.first) c.self.view_is c.self.invariant).least

pub returns-clause-none : goal.returns-clause-none
returns-clause-none c = (subst (λ q. IsFirst q c.self.inside.first) c.self.view_is c.self.invariant).none
