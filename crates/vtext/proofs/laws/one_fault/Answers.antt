use Rattle.vtext.proofs.WalkLaws.{one_fault}
use Rattle.vtext.proofs.laws.one_fault.Goals as goal

pub returns : goal.returns
returns c = one_fault
