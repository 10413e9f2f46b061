use Rattle.racer.proofs.RaceLemmas.{design_refused}
use Rattle.racer.proofs.race.spelled.Goals as goal

pub returns-in-Err-clause-fault : goal.returns-in-Err-clause-fault
returns-in-Err-clause-fault g c = rw c.design_end.ensures (design_refused c.args.text.now c.in-Err.fault c.in-Err.ensures.err)
