use Rattle.std.proofs.Common.{◌≡◌, ◌<◌, length, arith}
use Rattle.std.proofs.lemmas.Bool.Decides.{nat_tests}
use Rattle.session.proofs.TalkLemmas.{closes_empty, closes_line}
use Rattle.session.proofs.talk.feed.Session.close.Goals as goal

pub returns-then-not-is_empty-clause-transcript : goal.returns-then-not-is_empty-clause-transcript
returns-then-not-is_empty-clause-transcript g c = λ first input going.
    let some : 0 < length c.as_slice-line.result.now = grind (arith, nat_tests) in
    closes_line c.as_slice-line.ensures some c.answer-ended.ensures.answered going

pub returns-else-not-is_empty-clause-transcript : goal.returns-else-not-is_empty-clause-transcript
returns-else-not-is_empty-clause-transcript g c = λ first input going.
    let none : length c.as_slice-line.result.now ≡ 0 = grind (arith, nat_tests) in
    closes_empty c.as_slice-line.ensures none going
