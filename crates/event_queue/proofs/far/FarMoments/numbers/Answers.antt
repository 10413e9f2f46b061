use Rattle.std.proofs.Common.{◌∙◌, ap, sym}
use Rattle.event_queue.specs.kept.Noted.{noted}
use Rattle.event_queue.proofs.Moments.{items, noted_is}
use Rattle.event_queue.proofs.far.FarMoments.numbers.Goals as goal

pub returns-in-Some : goal.returns-in-Some
returns-in-Some c = c.as_slice.ensures.value ∙ ap items c.in-Some.ensures.value ∙ sym (noted_is c.self.inside.moments c.args.t) ∙ ap (λ q. noted q c.args.t) c.self.view_is

pub returns-in-None : goal.returns-in-None
returns-in-None c = ap items c.in-None.ensures.value ∙ sym (noted_is c.self.inside.moments c.args.t) ∙ ap (λ q. noted q c.args.t) c.self.view_is
