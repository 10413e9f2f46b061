use Rattle.vtext.proofs.WalkLaws.{no_fault}
use Rattle.vtext.proofs.laws.no_fault.Goals as goal

pub returns : goal.returns
returns c = no_fault
