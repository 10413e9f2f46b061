use Rattle.event_queue.proofs.Moments.{none_before, noted_there}
use Rattle.event_queue.proofs.far.FarMoments.first.Goals as goal

pub returns-in-Some-clause-noted : goal.returns-in-Some-clause-noted
returns-in-Some-clause-noted c = rw (← c.self.view_is) (noted_there c.self.inside.moments c.in-Some.t.now c.in-Some.field-0-1.now c.self.invariant c.in-Some.ensures.value)

pub returns-in-Some-clause-least : goal.returns-in-Some-clause-least
returns-in-Some-clause-least c = λ u low. rw (← c.self.view_is) (none_before c.self.inside.moments c.in-Some.t.now u c.in-Some.ensures.least low)
