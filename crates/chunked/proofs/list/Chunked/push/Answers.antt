use Rattle.std.proofs.Common.{◌∙◌, ◌≡◌, ◌/◌, ◌%◌, ◌+◌, ◌∷◌, ◌++◌, [], sym, ap, arith, length, rules}
use Rattle.std.proofs.lemmas.List.{length_push}
use Rattle.chunked.specs.kept.Chunks.{row_in, rows_of}
use Rattle.chunked.specs.declared.branch.TheConstants.{BRANCH}
use Rattle.chunked.proofs.ChunkLemmas.{chunk_push, chunk_same, on_err}
use Rattle.chunked.proofs.list.Chunked.push.Goals as goal

pub invariant_of-self-in_err-push : goal.invariant_of-self-in_err-push
invariant_of-self-in_err-push g c =
    let made = c.in_ok-make_room.ensures in
    let same = chunk_same row_in BRANCH c.make_room.new.branches.items made.full (c.self.inside.len / BRANCH) c.index_mut.result.now c.push.new.branch c.index_mut.ensures.value c.in_err-push.ensures.err in
    (same.1, c.self.invariant.1 ∙ sym (ap (λ l. length l) (same.0 ∙ made.same)))

pub returns-in_err-push-clause-err : goal.returns-in_err-push-clause-err
returns-in_err-push-clause-err g c =
    let made = c.in_ok-make_room.ensures in
    let same = chunk_same row_in BRANCH c.make_room.new.branches.items made.full (c.self.inside.len / BRANCH) c.index_mut.result.now c.push.new.branch c.index_mut.ensures.value c.in_err-push.ensures.err in
    on_err c.from_residual-in_err-push.result (same.0 ∙ made.same ∙ c.self.view_is)

pub invariant_of-self-2 : goal.invariant_of-self-2
invariant_of-self-2 g c =
    let len = c.self.inside.len in
    let made = c.in_ok-make_room.ensures in
    let next : c.in_ok-more.more ≡ len + 1 = search rules in
    let total : length (rows_of c.make_room.new.branches.items) ≡ len = ap (λ l. length l) made.same ∙ sym c.self.invariant.1 in
    let changed = chunk_push row_in BRANCH c.make_room.new.branches.items made.full (len / BRANCH) (len % BRANCH) c.args.item c.index_mut.result.now c.push.new.branch (omega (arith, total)) (omega arith) made.room c.index_mut.ensures.value c.in_ok-push.ensures.ok in
    (changed.1, next ∙ ap (λ n. n + 1) (sym total) ∙ sym (length_push (rows_of c.make_room.new.branches.items) c.args.item) ∙ sym (ap (λ l. length l) changed.0))

pub returns-clause-ok : goal.returns-clause-ok
returns-clause-ok g c =
    let len = c.self.inside.len in
    let made = c.in_ok-make_room.ensures in
    let total : length (rows_of c.make_room.new.branches.items) ≡ len = ap (λ l. length l) made.same ∙ sym c.self.invariant.1 in
    let changed = chunk_push row_in BRANCH c.make_room.new.branches.items made.full (len / BRANCH) (len % BRANCH) c.args.item c.index_mut.result.now c.push.new.branch (omega (arith, total)) (omega arith) made.room c.index_mut.ensures.value c.in_ok-push.ensures.ok in
    changed.0 ∙ ap (λ l. l ++ c.args.item ∷ []) (made.same ∙ c.self.view_is)
