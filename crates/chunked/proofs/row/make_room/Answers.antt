use Rattle.std.proofs.Common.{◌≡◌, ◌*◌, sym, subst, arith, length}
use Rattle.chunked.specs.kept.Chunks.{AreFull, items_in, items_of}
use Rattle.chunked.specs.declared.chunk.TheConstants.{CHUNK}
use Rattle.chunked.proofs.ChunkLemmas.{chunk_count, chunk_more}
use Rattle.chunked.proofs.row.make_room.Goals as goal

pub returns-in_ok-push-clause-full : goal.returns-in_ok-push-clause-full
returns-in_ok-push-clause-full g c =
    let items = c.args.chunks.now.items in
    let none = c.in_ok-chunk.chunk in
    let total : length (items_of items) ≡ CHUNK * length items = omega (arith, c.requires.at, c.if-at-len.true, c.len.ensures, c.args.chunks.now.ok.0, chunk_count items_in CHUNK items c.requires.full) in
    subst (AreFull items_in CHUNK) (sym c.in_ok-push.ensures.items) (chunk_more items_in CHUNK items none c.in_ok-chunk.ensures c.requires.full total).1

pub returns-else-at-len-clause-room : goal.returns-else-at-len-clause-room
returns-else-at-len-clause-room g c =
    let items = c.args.chunks.now.items in
    omega (arith, c.requires.at, c.if-at-len.false, c.len.ensures, c.args.chunks.now.ok.0, chunk_count items_in CHUNK items c.requires.full)
