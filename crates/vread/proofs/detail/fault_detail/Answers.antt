use Rattle.vread.proofs.detail.fault_detail.Goals as goal

pub returns-clause-line : goal.returns-clause-line
returns-clause-line c = λ fault. c.words_are_on_lines.ensures c.args.default c.in_ok-detail.detail fault c.in_ok-detail.ensures.detail
