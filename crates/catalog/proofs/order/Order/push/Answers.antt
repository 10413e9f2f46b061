use Rattle.std.proofs.Common.{◌∙◌, sym, ap}
use Rattle.catalog.specs.kept.Gaps.{gaps_from}
use Rattle.catalog.proofs.GapLemmas.{gaps_push}
use Rattle.catalog.proofs.order.Order.push.Goals as goal

pub invariant_of-self-2 : goal.invariant_of-self-2
invariant_of-self-2 g c = c.self.invariant ∙ sym (ap (λ l. gaps_from 0 l) c.in_ok-push.ensures.ok ∙ gaps_push 0 c.self.inside.cells c.args.entry)
