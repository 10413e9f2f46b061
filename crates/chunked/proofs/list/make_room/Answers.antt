use Rattle.std.proofs.Common.{◌≡◌, ◌∙◌, ◌*◌, sym, subst, arith, length}
use Rattle.chunked.specs.kept.Chunks.{AreFull, row_in, rows_of}
use Rattle.chunked.specs.declared.branch.TheConstants.{BRANCH}
use Rattle.chunked.proofs.ChunkLemmas.{chunk_count, chunk_more}
use Rattle.chunked.proofs.list.make_room.Goals as goal

pub returns-in_ok-push-clause-full : goal.returns-in_ok-push-clause-full
returns-in_ok-push-clause-full g c =
    let items = c.args.branches.now.items in
    let none = c.in_ok-branch.branch in
    let total : length (rows_of items) ≡ BRANCH * length items = omega (arith, c.requires.at, c.if-at-len.true, c.len.ensures, c.args.branches.now.ok.0, chunk_count row_in BRANCH items c.requires.full) in
    subst (AreFull row_in BRANCH) (sym c.in_ok-push.ensures.items) (chunk_more row_in BRANCH items none (c.in_ok-branch.ensures.ok ∙ c.new.ensures) c.requires.full total).1

pub returns-else-at-len-clause-room : goal.returns-else-at-len-clause-room
returns-else-at-len-clause-room g c =
    let items = c.args.branches.now.items in
    omega (arith, c.requires.at, c.if-at-len.false, c.len.ensures, c.args.branches.now.ok.0, chunk_count row_in BRANCH items c.requires.full)
