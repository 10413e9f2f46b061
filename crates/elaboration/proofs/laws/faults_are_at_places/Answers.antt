use Rattle.elaboration.proofs.PlaceLemmas.{fault_at_place, faultless_at_top}
use Rattle.elaboration.proofs.laws.faults_are_at_places.Goals as goal

pub returns-clause-lines : goal.returns-clause-lines
returns-clause-lines c = fault_at_place

pub returns-clause-top : goal.returns-clause-top
returns-clause-top c = faultless_at_top
