use Rattle.vtext.proofs.CauseRows.{first_holds, none_holds}
use Rattle.vtext.proofs.FirstCauses.{fault_tells_first, tells_first}
use Rattle.vtext.proofs.laws.first_cause_is_told.Goals as goal

pub returns-clause-word : goal.returns-clause-word
returns-clause-word c = tells_first

pub returns-clause-fault : goal.returns-clause-fault
returns-clause-fault c = fault_tells_first

pub returns-clause-some : goal.returns-clause-some
returns-clause-some c = first_holds

pub returns-clause-none : goal.returns-clause-none
returns-clause-none c = none_holds
