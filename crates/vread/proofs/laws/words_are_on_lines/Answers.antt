use Rattle.vread.proofs.DetailLemmas.{detail_on_line}
use Rattle.vread.proofs.laws.words_are_on_lines.Goals as goal

pub returns : goal.returns
returns c = λ default.
    detail_on_line default c.args.text.now (c.faults_are_at_places.ensures.lines c.args.text.now) (c.faults_are_at_places.ensures.top c.args.text.now)
    (c.one_reading.ensures.list default) (c.one_reading.ensures.apart default) (c.one_answer.ensures.fault default)
