use Rattle.std.proofs.Common.{◌∙◌, ◌≡◌, ◌/◌, ◌%◌, ◌<◌, ◌+◌, suc, sym, ap, subst, arith, length, take}
use Rattle.std.proofs.lemmas.List.{length-take-le}
use Rattle.std.specs.List.{slice_set}
use Rattle.chunked.specs.kept.Chunks.{AreFull, row_in, rows_of}
use Rattle.chunked.specs.declared.branch.TheConstants.{BRANCH}
use Rattle.chunked.proofs.ChunkLemmas.{chunk_at, chunk_cut, chunk_same, on_err}
use Rattle.chunked.proofs.list.Chunked.truncate.Goals as goal

pub index_mut-requires : goal.index_mut-requires
index_mut-requires g c =
    let items = c.self.inside.branches.items in
    let low : c.args.len < length (rows_of items) = omega (arith, c.self.invariant.1, c.if-len-self.true) in
    let within = chunk_at row_in BRANCH items c.self.invariant.0 (c.args.len / BRANCH) c.args.len (omega arith) low in
    omega (arith, within, c.self.inside.branches.ok.0)

pub invariant_of-self : goal.invariant_of-self
invariant_of-self g c =
    let same = chunk_same row_in BRANCH c.self.inside.branches.items c.self.invariant.0 (c.args.len / BRANCH) c.index_mut.result.now c.truncate.new.branch c.index_mut.ensures.value c.in_err-truncate.ensures.err in
    (same.1, c.self.invariant.1 ∙ sym (ap (λ l. length l) same.0))

pub returns-in_err-truncate-clause-err : goal.returns-in_err-truncate-clause-err
returns-in_err-truncate-clause-err g c =
    let same = chunk_same row_in BRANCH c.self.inside.branches.items c.self.invariant.0 (c.args.len / BRANCH) c.index_mut.result.now c.truncate.new.branch c.index_mut.ensures.value c.in_err-truncate.ensures.err in
    on_err c.from_residual.result (same.0 ∙ c.self.view_is)

pub invariant_of-self-then-len-self : goal.invariant_of-self-then-len-self
invariant_of-self-then-len-self g c =
    let items = c.self.inside.branches.items in
    let len = c.args.len in
    let low : len < length (rows_of items) = omega (arith, c.self.invariant.1, c.if-len-self.true) in
    let cut = chunk_cut row_in BRANCH items c.self.invariant.0 (len / BRANCH) (len % BRANCH) len c.index_mut.result.now c.truncate.new.branch (omega arith) (omega arith) low c.index_mut.ensures.value c.in_ok-truncate.ensures.ok in
    let more : len / BRANCH + 1 ≡ suc (len / BRANCH) = omega arith in
    let kept : c.truncate-then-len-self.new.self.items ≡ take (suc (len / BRANCH)) (slice_set items (len / BRANCH) c.truncate.new.branch) =
    c.truncate-then-len-self.ensures.items ∙ ap (λ n. take n (slice_set items (len / BRANCH) c.truncate.new.branch)) more in
    let all : rows_of c.truncate-then-len-self.new.self.items ≡ take len (rows_of items) = ap (λ l. rows_of l) kept ∙ cut.0 in
    (subst (AreFull row_in BRANCH) (sym kept) cut.1, sym (length-take-le len (rows_of items) (omega arith)) ∙ sym (ap (λ l. length l) all))

pub returns-in_ok-truncate-clause-ok : goal.returns-in_ok-truncate-clause-ok
returns-in_ok-truncate-clause-ok g c =
    let items = c.self.inside.branches.items in
    let len = c.args.len in
    let low : len < length (rows_of items) = omega (arith, c.self.invariant.1, c.if-len-self.true) in
    let cut = chunk_cut row_in BRANCH items c.self.invariant.0 (len / BRANCH) (len % BRANCH) len c.index_mut.result.now c.truncate.new.branch (omega arith) (omega arith) low c.index_mut.ensures.value c.in_ok-truncate.ensures.ok in
    let more : len / BRANCH + 1 ≡ suc (len / BRANCH) = omega arith in
    let kept : c.truncate-then-len-self.new.self.items ≡ take (suc (len / BRANCH)) (slice_set items (len / BRANCH) c.truncate.new.branch) =
    c.truncate-then-len-self.ensures.items ∙ ap (λ n. take n (slice_set items (len / BRANCH) c.truncate.new.branch)) more in
    rw (← c.self.view_is) (ap (λ l. rows_of l) kept ∙ cut.0)
