use Rattle.std.proofs.Common.{◌≤◌, length, refl, sym, ◌∙◌, arith}
use Rattle.devices.specs.kept.Incoming.{text_of}
use Rattle.session.specs.declared.talk.exchange.TheConstants.{PIECE}
use Rattle.session.proofs.ExchangeLemmas.{came, covered_by, cut_by, cut_short, finished, has_quit, read_failed, read_more, sent_by, text_moved, went_on}
use Rattle.session.proofs.talk.exchange.exchange.Goals as goal

pub returns-in_default-clause-goes_on : goal.returns-in_default-clause-goes_on
returns-in_default-clause-goes_on g c = λ first waits.
    let failed = read_failed c.args.reader.now c.read.new.self c.read.new.buffer c.in_default.ensures waits in
    (failed.0, failed.1, waits.sent)

pub returns-then-is_err-clause-goes_on : goal.returns-then-is_err-clause-goes_on
returns-then-is_err-clause-goes_on g c = λ first waits.
    let room : length c.read.new.buffer ≤ PIECE = omega arith in
    let piece = came c.args.reader.now c.read.new.self c.read.new.buffer c.in-Some.n c.in-Some.ensures room in
    let covers = covered_by c.take-turn.result first c.take-turn.new.self.machine c.take-turn.new.self.line (text_of c.args.reader.now) _ c.take-turn.new.writer.text
    (c.take-turn.ensures.stands first (text_of c.args.reader.now) waits.going) c.take-turn.ensures.end c.take-turn.ensures.some in
    cut_short {w' = c.flush.new.self} piece waits covers
    (text_moved c.take-turn.new.writer c.flush.new.self c.flush.ensures.moves_on)
    (cut_by c.flush.result c.flush.new.self c.flush.ensures.err (sym c.is_err.ensures.value ∙ c.if-is_err.true))

pub returns-in-More-clause-goes_on : goal.returns-in-More-clause-goes_on
returns-in-More-clause-goes_on g c = λ first waits.
    let room : length c.read.new.buffer ≤ PIECE = omega arith in
    let piece = came c.args.reader.now c.read.new.self c.read.new.buffer c.in-Some.n c.in-Some.ensures room in
    went_on piece waits (c.in-More.ensures.some refl) (c.in-More.ensures.stands first (text_of c.args.reader.now) waits.going)
    (text_moved c.take-turn.new.writer c.flush.new.self c.flush.ensures.moves_on)
    (sent_by c.flush.result c.flush.new.self c.flush.ensures.ok (sym c.is_err.ensures.value ∙ c.if-is_err.false))

pub returns-in-Quit-clause-goes_on : goal.returns-in-Quit-clause-goes_on
returns-in-Quit-clause-goes_on g c = λ first waits.
    let room : length c.read.new.buffer ≤ PIECE = omega arith in
    let piece = came c.args.reader.now c.read.new.self c.read.new.buffer c.in-Some.n c.in-Some.ensures room in
    has_quit piece waits (c.in-Quit.ensures.stands first (text_of c.args.reader.now) waits.going)
    (text_moved c.take-turn.new.writer c.flush.new.self c.flush.ensures.moves_on)
    (sent_by c.flush.result c.flush.new.self c.flush.ensures.ok (sym c.is_err.ensures.value ∙ c.if-is_err.false))

pub returns-in-Finished-clause-goes_on : goal.returns-in-Finished-clause-goes_on
returns-in-Finished-clause-goes_on g c = λ first waits.
    let room : length c.read.new.buffer ≤ PIECE = omega arith in
    let piece = came c.args.reader.now c.read.new.self c.read.new.buffer c.in-Some.n c.in-Some.ensures room in
    finished piece waits (c.in-Finished.ensures.end refl) (c.in-Finished.ensures.stands first (text_of c.args.reader.now) waits.going)
    (text_moved c.take-turn.new.writer c.flush.new.self c.flush.ensures.moves_on)
    (sent_by c.flush.result c.flush.new.self c.flush.ensures.ok (sym c.is_err.ensures.value ∙ c.if-is_err.false))

pub returns-in-More-clause-read_more : goal.returns-in-More-clause-read_more
returns-in-More-clause-read_more g c =
    let room : length c.read.new.buffer ≤ PIECE = omega arith in
    read_more (came c.args.reader.now c.read.new.self c.read.new.buffer c.in-Some.n c.in-Some.ensures room) (c.in-More.ensures.some refl)
