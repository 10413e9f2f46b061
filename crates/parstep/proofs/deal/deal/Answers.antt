use Rattle.std.proofs.Common.{◌-◌, ◌∙◌, length, drop, ap, sym, arith}
use Rattle.std.proofs.lemmas.List.{length-set}
use Rattle.std.proofs.lemmas.List.Elements.{All-take, All-drop}
use Rattle.floor.specs.kept.Pieces.{next_piece, after, Deal}
use Rattle.gatestep.specs.Tasks.{IsReady}
use Rattle.parstep.proofs.Dealt.{deal_at, bounds_at, apart_at, length_range, some_at}
use Rattle.parstep.proofs.deal.deal.Goals as goal

pub unreachable-requires : goal.unreachable-requires
unreachable-requires g c =
    some_at (length c.args.tasks.now) c.loop-number.number c.args.pieces c.loop-number-test.true
    (ap next_piece (sym c.loop-number.invariant.dealt) ∙ sym c.deal.ensures.piece ∙ c.in_default.is)

pub part_of-own-requires-clause-ordered : goal.part_of-own-requires-clause-ordered
part_of-own-requires-clause-ordered g c =
    (bounds_at (length c.args.tasks.now) c.loop-number.number c.args.pieces c.loop-number-test.true c.in-Some.piece
    (ap next_piece (sym c.loop-number.invariant.dealt) ∙ sym c.deal.ensures.piece ∙ c.in-Some.is)).0

pub part_of-own-requires-clause-within : goal.part_of-own-requires-clause-within
part_of-own-requires-clause-within g c =
    (bounds_at (length c.args.tasks.now) c.loop-number.number c.args.pieces c.loop-number-test.true c.in-Some.piece
    (ap next_piece (sym c.loop-number.invariant.dealt) ∙ sym c.deal.ensures.piece ∙ c.in-Some.is)).1

-- no piece is empty
pub send-requires-clause-some : goal.send-requires-clause-some
send-requires-clause-some g c =
    let is = ap next_piece (sym c.loop-number.invariant.dealt) ∙ sym c.deal.ensures.piece ∙ c.in-Some.is in
    let bounds = bounds_at (length c.args.tasks.now) c.loop-number.number c.args.pieces c.loop-number-test.true c.in-Some.piece is in
    let apart = apart_at (length c.args.tasks.now) c.loop-number.number c.args.pieces c.loop-number-test.true c.requires.filled c.in-Some.piece is in
    let long = length_range c.args.tasks.now c.in-Some.piece.first c.in-Some.piece.end bounds.0 bounds.1 in
    rw c.part_of-own.ensures (omega (arith, long, apart))

pub send-requires-clause-ready : goal.send-requires-clause-ready
send-requires-clause-ready g c =
    rw c.part_of-own.ensures (All-take (IsReady c.args.t) (c.in-Some.piece.end - c.in-Some.piece.first) (drop c.in-Some.piece.first c.args.tasks.now) (All-drop (IsReady c.args.t) c.in-Some.piece.first c.args.tasks.now c.requires.ready))

pub loop-number-preserved : goal.loop-number-preserved
loop-number-preserved g c =
    record {
      dealt = c.deal.ensures.state ∙ ap (λ s. after s Deal) c.loop-number.invariant.dealt ∙ deal_at (length c.args.tasks.now) c.loop-number.number c.args.pieces c.loop-number-test.true;
      seats = length-set c.loop-number.seats c.loop-number.number c.send.new.self ∙ c.loop-number.invariant.seats;
    }
