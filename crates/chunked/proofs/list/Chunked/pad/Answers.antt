use Rattle.std.proofs.Common.{◌∙◌, ◌≡◌, ◌/◌, ◌%◌, ◌+◌, ◌-◌, ◌++◌, ℕ, sym, ap, arith, length, replicate, rules}
use Rattle.std.proofs.lemmas.List.{length-append, length-replicate}
use Rattle.chunked.specs.kept.Chunks.{row_in, rows_of}
use Rattle.chunked.specs.declared.branch.TheConstants.{BRANCH}
use Rattle.chunked.specs.declared.chunk.TheConstants.{CHUNK}
use Rattle.chunked.proofs.ChunkLemmas.{chunk_append, chunk_rest, chunk_same, on_err}
use Rattle.chunked.proofs.list.Chunked.pad.Goals as goal

pub pad-requires : goal.pad-requires
pad-requires g c =
    let len = c.self.inside.len in
    let made = c.in_ok-make_room.ensures in
    let total : length (rows_of c.make_room.new.branches.items) ≡ len = ap (λ l. length l) made.same ∙ sym c.self.invariant.1 in
    let rest : length (row_in c.index_mut.result.now) ≡ len % BRANCH = chunk_rest row_in BRANCH c.make_room.new.branches.items made.full (len / BRANCH) (len % BRANCH) c.index_mut.result.now (omega (arith, total)) (omega arith) made.room c.index_mut.ensures.value in
    omega (arith, rest, total)

pub invariant_of-self-in_err-pad : goal.invariant_of-self-in_err-pad
invariant_of-self-in_err-pad g c =
    let made = c.in_ok-make_room.ensures in
    let same = chunk_same row_in BRANCH c.make_room.new.branches.items made.full (c.self.inside.len / BRANCH) c.index_mut.result.now c.pad.new.branch c.index_mut.ensures.value c.in_err-pad.ensures.err in
    (same.1, c.self.invariant.1 ∙ sym (ap (λ l. length l) (same.0 ∙ made.same)))

pub returns-in_err-pad-clause-err : goal.returns-in_err-pad-clause-err
returns-in_err-pad-clause-err g c =
    let made = c.in_ok-make_room.ensures in
    let same = chunk_same row_in BRANCH c.make_room.new.branches.items made.full (c.self.inside.len / BRANCH) c.index_mut.result.now c.pad.new.branch c.index_mut.ensures.value c.in_err-pad.ensures.err in
    on_err c.from_residual-in_err-pad.result (same.0 ∙ made.same ∙ c.self.view_is)

pub invariant_of-self-2 : goal.invariant_of-self-2
invariant_of-self-2 g c =
    let len = c.self.inside.len in
    let made = c.in_ok-make_room.ensures in
    let count : ℕ = CHUNK - c.self.inside.len % CHUNK in
    let next : c.in_ok-filled.filled ≡ len + count = search rules in
    let total : length (rows_of c.make_room.new.branches.items) ≡ len = ap (λ l. length l) made.same ∙ sym c.self.invariant.1 in
    let more = replicate count c.args.item in
    let long : length more ≡ count = length-replicate count c.args.item in
    let changed = chunk_append row_in BRANCH c.make_room.new.branches.items made.full (len / BRANCH) (len % BRANCH) more c.index_mut.result.now c.pad.new.branch (omega (arith, total)) (omega arith) (omega (arith, long)) made.room c.index_mut.ensures.value c.in_ok-pad.ensures.ok in
    (changed.1, omega (arith, next, total, long, length-append (rows_of c.make_room.new.branches.items) more, ap (λ l. length l) changed.0))

pub returns-clause-ok : goal.returns-clause-ok
returns-clause-ok g c =
    let len = c.self.inside.len in
    let made = c.in_ok-make_room.ensures in
    let count : ℕ = CHUNK - c.self.inside.len % CHUNK in
    let total : length (rows_of c.make_room.new.branches.items) ≡ len = ap (λ l. length l) made.same ∙ sym c.self.invariant.1 in
    let more = replicate count c.args.item in
    let long : length more ≡ count = length-replicate count c.args.item in
    let changed = chunk_append row_in BRANCH c.make_room.new.branches.items made.full (len / BRANCH) (len % BRANCH) more c.index_mut.result.now c.pad.new.branch (omega (arith, total)) (omega arith) (omega (arith, long)) made.room c.index_mut.ensures.value c.in_ok-pad.ensures.ok in
    (count, omega arith, changed.0 ∙ ap (λ l. l ++ more) (made.same ∙ c.self.view_is))
