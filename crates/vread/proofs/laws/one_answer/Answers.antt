use Rattle.vread.proofs.AnswerLemmas.{never_both, one_design, one_read_fault}
use Rattle.vread.proofs.laws.one_answer.Goals as goal

pub returns-clause-design : goal.returns-clause-design
returns-clause-design c = λ default. one_design default c.args.text.now (c.one_reading.ensures.list default)

pub returns-clause-fault : goal.returns-clause-fault
returns-clause-fault c =
    λ default. one_read_fault default c.args.text.now (c.one_reading.ensures.list default) (c.one_reading.ensures.fault default) (c.one_reading.ensures.apart default)

pub returns-clause-apart : goal.returns-clause-apart
returns-clause-apart c = λ default. never_both default c.args.text.now (c.one_reading.ensures.list default) (c.one_reading.ensures.apart default)
