use Rattle.std.specs.Arc.{arc_value}
use Rattle.bench.proofs.PastLemmas.{all_at}
use Rattle.bench.proofs.bench.Bench.open.Goals as goal

pub returns-clause-since : goal.returns-clause-since
returns-clause-since g c = λ name. all_at c.open-2.result (arc_value c.in_ok-simulated.simulated).design 0 c.open-2.ensures.keys c.open-2.ensures.gone name
