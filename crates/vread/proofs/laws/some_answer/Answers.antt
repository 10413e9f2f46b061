use Rattle.vread.proofs.AnswerLemmas.{some_answer}
use Rattle.vread.proofs.laws.some_answer.Goals as goal

pub returns : goal.returns
returns c = λ default. some_answer default c.args.text.now (c.faultless_has_top.ensures c.args.text.now) (c.some_reading.ensures default)
