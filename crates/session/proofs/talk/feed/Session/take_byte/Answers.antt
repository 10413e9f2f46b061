use Rattle.std.proofs.Common.{◌≡◌, eqb, false, arith}
use Rattle.std.proofs.lemmas.Bool.Decides.{nat_tests}
use Rattle.session.proofs.TalkLemmas.{fed_line, stays_line}
use Rattle.session.proofs.talk.feed.Session.take_byte.Goals as goal

pub returns-then-byte-ne10-clause-stands : goal.returns-then-byte-ne10-clause-stands
returns-then-byte-ne10-clause-stands g c = λ first input going.
    let other : eqb c.args.byte 10 ≡ false = grind (arith, nat_tests) in
    stays_line c.args.byte other c.add.ensures going

pub returns-clause-stands : goal.returns-clause-stands
returns-clause-stands g c = λ first input going.
    let feed : c.args.byte ≡ 10 = omega arith in
    fed_line c.args.byte c.answer-ended.result feed c.as_slice.ensures c.clear.ensures c.answer-ended.ensures.answered c.answer-ended.ensures.ends going
