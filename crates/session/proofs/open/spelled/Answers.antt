use Rattle.session.proofs.OpeningLemmas.{text_refused}
use Rattle.session.proofs.open.spelled.Goals as goal

pub returns-in-Err-clause-refused : goal.returns-in-Err-clause-refused
returns-in-Err-clause-refused c =
    rw c.text_fault.ensures (text_refused c.args.delay c.args.text.now c.in-Err.fault c.in-Err.ensures.err c.in-Err.ensures.long)
