use Rattle.racer.proofs.TallyLemmas.{counted_by}
use Rattle.racer.proofs.tally.Tally.add_look.Goals as goal

pub returns-clause-counted : goal.returns-clause-counted
returns-clause-counted c =
    counted_by c.args.design.now c.args.found c.has_waves-right.result c.args.self.now c.add.new.self c.add.ensures c.has_waves-right.ensures.refused
    c.has_waves-right.ensures.waves
