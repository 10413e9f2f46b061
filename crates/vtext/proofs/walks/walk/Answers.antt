use Rattle.std.proofs.Common.{◌≡◌, length, ap, sym, subst, None, arith}
use Rattle.vtext.specs.declared.cause.Cause.TheVariants.{Syntax}
use Rattle.vtext.specs.declared.parser_state.ParserState.{ParserState}
use Rattle.vtext.specs.declared.parser_state.ParserState.TheVariants.{Outside}
use Rattle.vtext.specs.Readings.{Reading}
use Rattle.vtext.specs.kept.Readings.{view}
use Rattle.vtext.specs.Walks.{IsFault, Leads, start}
use Rattle.vtext.proofs.SoundWalks.{room_left}
use Rattle.vtext.proofs.WalkLemmas.{ended, refused_at, refused_end, turned}
use Rattle.vtext.proofs.walks.walk.Goals as goal

pub loop-i-init : goal.loop-i-init
loop-i-init c = record { leads = ap (λ (r : Reading). record { state = Outside; so_far = r }) (sym c.new-draft.ensures) }

pub turn-requires-clause-room : goal.turn-requires-clause-room
turn-requires-clause-room c =
    room_left c.args.default c.args.names.now c.args.words.now c.loop-i.i (record { state = c.loop-i.state; so_far = view c.loop-i.draft }) c.loop-i-test.true
    (omega (arith, c.loop-i.auto.i-end)) c.requires.good c.loop-i.invariant.leads

pub loop-i-preserved : goal.loop-i-preserved
loop-i-preserved c = record {
  leads =
      turned c.args.default c.args.names.now c.args.words.now c.loop-i.i _ c.word_at.result (record { state = c.loop-i.state; so_far = view c.loop-i.draft })
      (record { state = c.in-To.to; so_far = view c.turn.new.self }) c.loop-i-test.true c.loop-i.invariant.leads c.word_at.ensures (rw c.in-To.is at c.in_ok-to.ensures);
}

pub returns-in-Refused-clause-fault : goal.returns-in-Refused-clause-fault
returns-in-Refused-clause-fault c =
    refused_at c.args.default c.args.names.now c.args.words.now c.loop-i.i _ c.word_at.result (record { state = c.loop-i.state; so_far = view c.loop-i.draft })
    c.in-Refused.cause c.loop-i-test.true c.loop-i.invariant.leads c.word_at.ensures (rw c.in-Refused.is at c.in_ok-to.ensures)

pub returns-in-Outside-clause-text : goal.returns-in-Outside-clause-text
returns-in-Outside-clause-text c =
    let P : ParserState → Type 0 = λ state. Leads c.args.default c.args.names.now start c.args.words.now None (record { state = state; so_far = view c.loop-i.draft }) in
    subst P c.in-Outside.is (ended c.args.default c.args.names.now c.args.words.now c.loop-i.i (record { state = c.loop-i.state; so_far = view c.loop-i.draft }) c.loop-i-test.false c.loop-i.invariant.leads)

pub returns-clause-fault : goal.returns-clause-fault
returns-clause-fault c =
    let words = c.args.words.now in
    let end : c.loop-i.i ≡ length words = omega (arith, c.loop-i-test.false, c.loop-i.auto.i-end) in
    subst (λ k. IsFault c.args.default c.args.names.now words k Syntax) end
    (refused_end c.args.default c.args.names.now words c.loop-i.i (record { state = c.loop-i.state; so_far = view c.loop-i.draft }) end c.loop-i.invariant.leads c.in_default.not-Outside)
