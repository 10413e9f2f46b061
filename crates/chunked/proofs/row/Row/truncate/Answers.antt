use Rattle.std.proofs.Common.{◌∙◌, ◌≡◌, ◌/◌, ◌%◌, ◌<◌, ◌+◌, suc, sym, ap, subst, arith, length, take}
use Rattle.std.proofs.lemmas.List.{length-take-le}
use Rattle.std.specs.List.{slice_set}
use Rattle.chunked.specs.kept.Chunks.{AreFull, items_in, items_of}
use Rattle.chunked.specs.declared.chunk.TheConstants.{CHUNK}
use Rattle.chunked.proofs.ChunkLemmas.{chunk_at, chunk_cut, chunk_same, on_err}
use Rattle.chunked.proofs.row.Row.truncate.Goals as goal

pub index_mut-requires : goal.index_mut-requires
index_mut-requires g c =
    let items = c.self.inside.chunks.items in
    let low : c.args.len < length (items_of items) = omega (arith, c.self.invariant.1, c.if-len-self.true) in
    let within = chunk_at items_in CHUNK items c.self.invariant.0 (c.args.len / CHUNK) c.args.len (omega arith) low in
    omega (arith, within, c.self.inside.chunks.ok.0)

pub invariant_of-self : goal.invariant_of-self
invariant_of-self g c =
    let same = chunk_same items_in CHUNK c.self.inside.chunks.items c.self.invariant.0 (c.args.len / CHUNK) c.index_mut.result.now c.truncate.new.chunk c.index_mut.ensures.value c.in_err-truncate.ensures.err in
    (same.1, c.self.invariant.1 ∙ sym (ap (λ l. length l) same.0))

pub returns-in_err-truncate-clause-err : goal.returns-in_err-truncate-clause-err
returns-in_err-truncate-clause-err g c =
    let same = chunk_same items_in CHUNK c.self.inside.chunks.items c.self.invariant.0 (c.args.len / CHUNK) c.index_mut.result.now c.truncate.new.chunk c.index_mut.ensures.value c.in_err-truncate.ensures.err in
    on_err c.from_residual.result (same.0 ∙ c.self.view_is)

pub invariant_of-self-then-len-self : goal.invariant_of-self-then-len-self
invariant_of-self-then-len-self g c =
    let items = c.self.inside.chunks.items in
    let len = c.args.len in
    let low : len < length (items_of items) = omega (arith, c.self.invariant.1, c.if-len-self.true) in
    let cut = chunk_cut items_in CHUNK items c.self.invariant.0 (len / CHUNK) (len % CHUNK) len c.index_mut.result.now c.truncate.new.chunk (omega arith) (omega arith) low c.index_mut.ensures.value c.in_ok-truncate.ensures.ok in
    let more : len / CHUNK + 1 ≡ suc (len / CHUNK) = omega arith in
    let kept : c.truncate-then-len-self.new.self.items ≡ take (suc (len / CHUNK)) (slice_set items (len / CHUNK) c.truncate.new.chunk) =
    c.truncate-then-len-self.ensures.items ∙ ap (λ n. take n (slice_set items (len / CHUNK) c.truncate.new.chunk)) more in
    let all : items_of c.truncate-then-len-self.new.self.items ≡ take len (items_of items) = ap (λ l. items_of l) kept ∙ cut.0 in
    (subst (AreFull items_in CHUNK) (sym kept) cut.1, sym (length-take-le len (items_of items) (omega arith)) ∙ sym (ap (λ l. length l) all))

pub returns-in_ok-truncate-clause-ok : goal.returns-in_ok-truncate-clause-ok
returns-in_ok-truncate-clause-ok g c =
    let items = c.self.inside.chunks.items in
    let len = c.args.len in
    let low : len < length (items_of items) = omega (arith, c.self.invariant.1, c.if-len-self.true) in
    let cut = chunk_cut items_in CHUNK items c.self.invariant.0 (len / CHUNK) (len % CHUNK) len c.index_mut.result.now c.truncate.new.chunk (omega arith) (omega arith) low c.index_mut.ensures.value c.in_ok-truncate.ensures.ok in
    let more : len / CHUNK + 1 ≡ suc (len / CHUNK) = omega arith in
    let kept : c.truncate-then-len-self.new.self.items ≡ take (suc (len / CHUNK)) (slice_set items (len / CHUNK) c.truncate.new.chunk) =
    c.truncate-then-len-self.ensures.items ∙ ap (λ n. take n (slice_set items (len / CHUNK) c.truncate.new.chunk)) more in
    rw (← c.self.view_is) (ap (λ l. items_of l) kept ∙ cut.0)
