use Rattle.vtext.proofs.ReadLaws.{never_both, one_first_fault, one_list}
use Rattle.vtext.proofs.laws.one_reading.Goals as goal

pub returns-clause-list : goal.returns-clause-list
returns-clause-list c = λ default. one_list default c.args.text.now (c.one_spelling.ensures 0)

pub returns-clause-fault : goal.returns-clause-fault
returns-clause-fault c = λ default. one_first_fault default c.args.text.now (c.one_spelling.ensures 0)

pub returns-clause-apart : goal.returns-clause-apart
returns-clause-apart c = λ default. never_both default c.args.text.now (c.one_spelling.ensures 0)
