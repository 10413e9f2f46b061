use Rattle.std.proofs.Common.{◌∙◌, ◌≡◌, ◌/◌, ◌%◌, ◌+◌, ◌∷◌, ◌++◌, [], sym, ap, arith, length, rules}
use Rattle.std.proofs.lemmas.List.{length_push}
use Rattle.chunked.specs.kept.Chunks.{items_in, items_of}
use Rattle.chunked.specs.declared.chunk.TheConstants.{CHUNK}
use Rattle.chunked.proofs.ChunkLemmas.{chunk_push, chunk_same, on_err}
use Rattle.chunked.proofs.row.Row.push.Goals as goal

pub invariant_of-self-in_err-push : goal.invariant_of-self-in_err-push
invariant_of-self-in_err-push g c =
    let made = c.in_ok-make_room.ensures in
    let same = chunk_same items_in CHUNK c.make_room.new.chunks.items made.full (c.self.inside.len / CHUNK) c.index_mut.result.now c.push.new.chunk c.index_mut.ensures.value c.in_err-push.ensures.err in
    (same.1, c.self.invariant.1 ∙ sym (ap (λ l. length l) (same.0 ∙ made.same)))

pub returns-in_err-push-clause-err : goal.returns-in_err-push-clause-err
returns-in_err-push-clause-err g c =
    let made = c.in_ok-make_room.ensures in
    let same = chunk_same items_in CHUNK c.make_room.new.chunks.items made.full (c.self.inside.len / CHUNK) c.index_mut.result.now c.push.new.chunk c.index_mut.ensures.value c.in_err-push.ensures.err in
    on_err c.from_residual-in_err-push.result (same.0 ∙ made.same ∙ c.self.view_is)

pub invariant_of-self-2 : goal.invariant_of-self-2
invariant_of-self-2 g c =
    let len = c.self.inside.len in
    let made = c.in_ok-make_room.ensures in
    let next : c.in_ok-more.more ≡ len + 1 = search rules in
    let total : length (items_of c.make_room.new.chunks.items) ≡ len = ap (λ l. length l) made.same ∙ sym c.self.invariant.1 in
    let changed = chunk_push items_in CHUNK c.make_room.new.chunks.items made.full (len / CHUNK) (len % CHUNK) c.args.item c.index_mut.result.now c.push.new.chunk (omega (arith, total)) (omega arith) made.room c.index_mut.ensures.value c.in_ok-push.ensures.ok in
    (changed.1, next ∙ ap (λ n. n + 1) (sym total) ∙ sym (length_push (items_of c.make_room.new.chunks.items) c.args.item) ∙ sym (ap (λ l. length l) changed.0))

pub returns-clause-ok : goal.returns-clause-ok
returns-clause-ok g c =
    let len = c.self.inside.len in
    let made = c.in_ok-make_room.ensures in
    let total : length (items_of c.make_room.new.chunks.items) ≡ len = ap (λ l. length l) made.same ∙ sym c.self.invariant.1 in
    let changed = chunk_push items_in CHUNK c.make_room.new.chunks.items made.full (len / CHUNK) (len % CHUNK) c.args.item c.index_mut.result.now c.push.new.chunk (omega (arith, total)) (omega arith) made.room c.index_mut.ensures.value c.in_ok-push.ensures.ok in
    changed.0 ∙ ap (λ l. l ++ c.args.item ∷ []) (made.same ∙ c.self.view_is)
