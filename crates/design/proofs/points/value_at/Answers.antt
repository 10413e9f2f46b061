use Rattle.std.proofs.Common.{arith}
use Rattle.design.proofs.PointLemmas.{stimulus_at}
use Rattle.design.proofs.points.value_at.Goals as goal

pub returns-else-count-eq0 : goal.returns-else-count-eq0
returns-else-count-eq0 c =
    stimulus_at c.args.points.now c.args.t c.count_until-count.result _ c.count_until-count.ensures.split (omega arith) (omega arith)
