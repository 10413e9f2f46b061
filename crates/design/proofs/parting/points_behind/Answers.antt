use Rattle.design.proofs.PartingLemmas.{from_index}
use Rattle.design.proofs.parting.points_behind.Goals as goal

pub returns : goal.returns
returns c = from_index c.args.points.now c.args.count
