use Rattle.std.proofs.Common.{◌∙◌, ◌≡◌, ◌≤◌, ◌/◌, ◌%◌, ◌+◌, ◌++◌, ℕ, sym, ap, arith, length, replicate, rules, subst}
use Rattle.std.proofs.lemmas.List.{length-append, length-replicate}
use Rattle.chunked.specs.kept.Chunks.{items_in, items_of}
use Rattle.chunked.specs.declared.chunk.TheConstants.{CHUNK}
use Rattle.chunked.proofs.ChunkLemmas.{chunk_append, chunk_rest, chunk_same, on_err}
use Rattle.chunked.proofs.row.Row.pad.Goals as goal

pub pad-requires : goal.pad-requires
pad-requires g c =
    let len = c.self.inside.len in
    let fits : c.self.inside.len % CHUNK + c.args.count ≤ CHUNK = subst (λ (l : ℕ). l % CHUNK + c.args.count ≤ CHUNK) (sym (c.self.invariant.1 ∙ ap (λ l. length l) c.self.view_is)) c.requires in
    let made = c.in_ok-make_room.ensures in
    let total : length (items_of c.make_room.new.chunks.items) ≡ len = ap (λ l. length l) made.same ∙ sym c.self.invariant.1 in
    let rest : length (items_in c.index_mut.result.now) ≡ len % CHUNK = chunk_rest items_in CHUNK c.make_room.new.chunks.items made.full (len / CHUNK) (len % CHUNK) c.index_mut.result.now (omega (arith, total)) (omega arith) made.room c.index_mut.ensures.value in
    omega (arith, rest, total, fits)

pub invariant_of-self-in_err-pad : goal.invariant_of-self-in_err-pad
invariant_of-self-in_err-pad g c =
    let made = c.in_ok-make_room.ensures in
    let same = chunk_same items_in CHUNK c.make_room.new.chunks.items made.full (c.self.inside.len / CHUNK) c.index_mut.result.now c.pad.new.chunk c.index_mut.ensures.value c.in_err-pad.ensures.err in
    (same.1, c.self.invariant.1 ∙ sym (ap (λ l. length l) (same.0 ∙ made.same)))

pub returns-in_err-pad-clause-err : goal.returns-in_err-pad-clause-err
returns-in_err-pad-clause-err g c =
    let made = c.in_ok-make_room.ensures in
    let same = chunk_same items_in CHUNK c.make_room.new.chunks.items made.full (c.self.inside.len / CHUNK) c.index_mut.result.now c.pad.new.chunk c.index_mut.ensures.value c.in_err-pad.ensures.err in
    on_err c.from_residual-in_err-pad.result (same.0 ∙ made.same ∙ c.self.view_is)

pub invariant_of-self-2 : goal.invariant_of-self-2
invariant_of-self-2 g c =
    let len = c.self.inside.len in
    let fits : c.self.inside.len % CHUNK + c.args.count ≤ CHUNK = subst (λ (l : ℕ). l % CHUNK + c.args.count ≤ CHUNK) (sym (c.self.invariant.1 ∙ ap (λ l. length l) c.self.view_is)) c.requires in
    let made = c.in_ok-make_room.ensures in
    let count : ℕ = c.args.count in
    let next : c.in_ok-filled.filled ≡ len + count = search rules in
    let total : length (items_of c.make_room.new.chunks.items) ≡ len = ap (λ l. length l) made.same ∙ sym c.self.invariant.1 in
    let more = replicate count c.args.item in
    let long : length more ≡ count = length-replicate count c.args.item in
    let changed = chunk_append items_in CHUNK c.make_room.new.chunks.items made.full (len / CHUNK) (len % CHUNK) more c.index_mut.result.now c.pad.new.chunk (omega (arith, total)) (omega arith) (omega (arith, long, fits)) made.room c.index_mut.ensures.value c.in_ok-pad.ensures.ok in
    (changed.1, omega (arith, next, total, long, length-append (items_of c.make_room.new.chunks.items) more, ap (λ l. length l) changed.0))

pub returns-clause-ok : goal.returns-clause-ok
returns-clause-ok g c =
    let len = c.self.inside.len in
    let fits : c.self.inside.len % CHUNK + c.args.count ≤ CHUNK = subst (λ (l : ℕ). l % CHUNK + c.args.count ≤ CHUNK) (sym (c.self.invariant.1 ∙ ap (λ l. length l) c.self.view_is)) c.requires in
    let made = c.in_ok-make_room.ensures in
    let count : ℕ = c.args.count in
    let total : length (items_of c.make_room.new.chunks.items) ≡ len = ap (λ l. length l) made.same ∙ sym c.self.invariant.1 in
    let more = replicate count c.args.item in
    let long : length more ≡ count = length-replicate count c.args.item in
    let changed = chunk_append items_in CHUNK c.make_room.new.chunks.items made.full (len / CHUNK) (len % CHUNK) more c.index_mut.result.now c.pad.new.chunk (omega (arith, total)) (omega arith) (omega (arith, long, fits)) made.room c.index_mut.ensures.value c.in_ok-pad.ensures.ok in
    changed.0 ∙ ap (λ l. l ++ more) (made.same ∙ c.self.view_is)
