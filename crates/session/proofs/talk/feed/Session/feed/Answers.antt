use Rattle.std.proofs.Common.{◌++◌, List, ℕ, take, subst}
use Rattle.std.proofs.lemmas.List.{take_all}
use Rattle.session.specs.kept.Talk.{Going}
use Rattle.session.proofs.TalkLemmas.{goes_further, quits_early, same_sink_through}
use Rattle.session.proofs.talk.feed.Session.feed.Goals as goal

pub returns-then-take_byte-clause-stands : goal.returns-then-take_byte-clause-stands
returns-then-take_byte-clause-stands g c = λ first input going.
    let piece = c.args.piece.now in let i = c.loop-byte.byte-index in
    quits_early first c.take_byte.new.writer.text input piece i c.loop-byte-test.true
    (c.if-take_byte.ensures.stands first (input ++ take i piece) (c.loop-byte.invariant.stands first input going))

pub loop-byte-preserved : goal.loop-byte-preserved
loop-byte-preserved g c =
    let piece = c.args.piece.now in let i = c.loop-byte.byte-index in
    record {
      stands = λ first input going.
          goes_further input piece i c.loop-byte-test.true
          (c.if-take_byte.ensures.stands first (input ++ take i piece) (c.loop-byte.invariant.stands first input going));
      sink = same_sink_through c.loop-byte.invariant.sink c.take_byte.ensures.sink;
    }

pub returns-clause-stands : goal.returns-clause-stands
returns-clause-stands g c = λ first input going.
    let piece = c.args.piece.now in
    let P : List ℕ → Type 0 = λ bytes. Going first (input ++ bytes) c.loop-byte.self.line c.loop-byte.self.machine c.loop-byte.writer.text in
    subst P (take_all c.loop-byte.byte-index piece c.loop-byte-test.false) (c.loop-byte.invariant.stands first input going)
