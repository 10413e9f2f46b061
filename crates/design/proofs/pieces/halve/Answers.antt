use Rattle.std.proofs.Common.{◌≡◌, ◌<◌, ◌+◌, ◌++◌, ◌∙◌, suc, ap, length, insert, slice_set, arith}
use Rattle.design.specs.kept.Pieces.{points_in, points_of}
use Rattle.design.proofs.PieceLemmas.{filled_halved, halved}
use Rattle.design.proofs.pieces.halve.Goals as goal

pub returns-clause-filled : goal.returns-clause-filled
returns-clause-filled c =
    let pieces = c.args.pieces.now.items in
    let front = c.halve.new.piece in
    let back = c.in_ok-half-2.half in
    let next : c.args.at + 1 ≡ suc c.args.at = omega arith in
    let items = c.in_ok-insert.ensures.items ∙ ap (λ n. insert (slice_set pieces c.args.at front) n back) next in
    let more : 0 < length (points_in back) = rw c.in_ok-half-2.ensures.ok c.in_ok-half.ensures.back in
    rw items (filled_halved points_in pieces c.args.at front back c.requires.filled c.in_ok-half.ensures.front more c.requires.within)

pub returns-clause-same : goal.returns-clause-same
returns-clause-same c =
    let pieces = c.args.pieces.now.items in
    let front = c.halve.new.piece in
    let back = c.in_ok-half-2.half in
    let next : c.args.at + 1 ≡ suc c.args.at = omega arith in
    let items = c.in_ok-insert.ensures.items ∙ ap (λ n. insert (slice_set pieces c.args.at front) n back) next in
    ap (λ l. points_of l) items
    ∙ halved points_in pieces c.args.at c.index_mut.result.now front back c.requires.within c.index_mut.ensures.value (ap (λ v. points_in front ++ v.items) c.in_ok-half-2.ensures.ok ∙ c.in_ok-half.ensures.all)
