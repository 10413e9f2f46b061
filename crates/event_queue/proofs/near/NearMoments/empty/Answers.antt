use Rattle.std.proofs.Common.{◌∙◌, ap, sym, subst}
use Rattle.event_queue.specs.kept.Lists.{IsFirst}
use Rattle.event_queue.specs.kept.Noted.{noted}
use Rattle.event_queue.proofs.Changes.{nothing_taken}
use Rattle.event_queue.proofs.near.NearMoments.empty.Goals as goal

pub returns-in_default : goal.returns-in_default
returns-in_default c =
    nothing_taken c.args.t c.args.self.now (ap (λ q. noted q c.args.t) (sym c.self.view_is) ∙ (subst (λ f. IsFirst c.self.inside.row f) c.in_default.is c.self.invariant).none c.args.t)

pub returns-then-t-first : goal.returns-then-t-first
returns-then-t-first c =
    nothing_taken c.args.t c.args.self.now (ap (λ q. noted q c.args.t) (sym c.self.view_is) ∙ (subst (λ f. IsFirst c.self.inside.row f) c.in-Some.is c.self.invariant).least c.args.t c.if-t-first.true)

pub invariant_of-self : goal.invariant_of-self
invariant_of-self c =
    record { there = c.first-self-inside.ensures.noted; least = c.first-self-inside.ensures.least; none = c.first-self-inside.ensures.none }
