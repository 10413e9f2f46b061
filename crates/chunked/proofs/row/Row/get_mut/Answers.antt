use Rattle.std.proofs.Common.{◌∙◌, ◌/◌, ◌%◌, ◌<◌, sym, ap, arith, inl, inr, length}
use Rattle.std.proofs.lemmas.List.{length-set}
use Rattle.std.proofs.lemmas.Result.{IfOk-from_err}
use Rattle.std.specs.List.{slice_set}
use Rattle.std.specs.Result.{is_ok}
use Rattle.chunked.specs.kept.Chunks.{items_in, items_of}
use Rattle.chunked.specs.declared.chunk.TheConstants.{CHUNK}
use Rattle.chunked.proofs.ChunkLemmas.{chunk_at, chunk_get, chunk_same, chunk_set, chunk_within}
use Rattle.chunked.proofs.LendingLemmas.{at_err, error_of}
use Rattle.chunked.proofs.row.Row.get_mut.Goals as goal

pub index_mut-requires : goal.index_mut-requires
index_mut-requires g c =
    let items = c.self.inside.chunks.items in
    let low : c.args.index < length (items_of items) = rw c.self.view_is c.requires in
    let within = chunk_at items_in CHUNK items c.self.invariant.0 (c.args.index / CHUNK) c.args.index (omega arith) low in
    omega (arith, within, c.self.inside.chunks.ok.0)

pub get_mut-requires : goal.get_mut-requires
get_mut-requires g c =
    let items = c.self.inside.chunks.items in
    let low : c.args.index < length (items_of items) = rw c.self.view_is c.requires in
    (chunk_within items_in CHUNK items c.self.invariant.0 (c.args.index / CHUNK) (c.args.index % CHUNK) c.args.index c.index_mut.result.now (omega arith) (omega arith) low c.index_mut.ensures.value).1

pub invariant_of-self : goal.invariant_of-self
invariant_of-self g c =
    let same = chunk_same items_in CHUNK c.self.inside.chunks.items c.self.invariant.0 (c.args.index / CHUNK) c.index_mut.result.now c.get_mut.follows.lender-at-none c.index_mut.ensures.value (at_err _ c.in_err-item.was c.get_mut.follows.holds-at-none) in
    (same.1, c.self.invariant.1 ∙ sym (ap (λ l. length l) same.0))

pub invariant_of-self-lent : goal.invariant_of-self-lent
invariant_of-self-lent g c w =
    let items = c.self.inside.chunks.items in
    let low : c.args.index < length (items_of items) = rw c.self.view_is c.requires in
    let changed = chunk_set items_in CHUNK items c.self.invariant.0 (c.args.index / CHUNK) (c.args.index % CHUNK) c.args.index w c.index_mut.result.now (c.get_mut.follows.lender w) (omega arith) (omega arith) low c.index_mut.ensures.value (c.get_mut.follows.holds w (ap is_ok c.in_ok-item.was)) in
    (changed.1, c.self.invariant.1 ∙ sym (length-set (items_of items) c.args.index w) ∙ sym (ap (λ l. length l) changed.0))

pub returns-in_err-item : goal.returns-in_err-item
returns-in_err-item g c =
    let same = chunk_same items_in CHUNK c.self.inside.chunks.items c.self.invariant.0 (c.args.index / CHUNK) c.index_mut.result.now c.get_mut.follows.lender-at-none c.index_mut.ensures.value (at_err _ c.in_err-item.was c.get_mut.follows.holds-at-none) in
    (rw (error_of _ c.from_residual.result c.from_residual.ensures.1).1 (ap inr (same.0 ∙ c.self.view_is)), record { writes_back = tt; value = IfOk-from_err c.from_residual.result _ c.from_residual.ensures.0 })

pub returns : goal.returns
returns g c =
    let items = c.self.inside.chunks.items in
    let low : c.args.index < length (items_of items) = rw c.self.view_is c.requires in
    let there = chunk_within items_in CHUNK items c.self.invariant.0 (c.args.index / CHUNK) (c.args.index % CHUNK) c.args.index c.index_mut.result.now (omega arith) (omega arith) low c.index_mut.ensures.value in
    let old = chunk_get items_in CHUNK items c.self.invariant.0 (c.args.index / CHUNK) (c.args.index % CHUNK) c.args.index c.index_mut.result.now (omega arith) (omega arith) there.0 c.index_mut.ensures.value in
    let set = λ (w : g.row.T.Denot). chunk_set items_in CHUNK items c.self.invariant.0 (c.args.index / CHUNK) (c.args.index % CHUNK) c.args.index w c.index_mut.result.now (c.get_mut.follows.lender w) (omega arith) (omega arith) low c.index_mut.ensures.value (c.get_mut.follows.holds w (ap is_ok c.in_ok-item.was)) in (
      λ i. inl (c.in_ok-item.item.ghost_name, λ w. ((set w).0 ∙ ap (λ l. slice_set l c.args.index w) c.self.view_is) i),
      record { writes_back = tt; value = rw (← c.self.view_is) (old ∙ c.in_ok-item.ensures.value) },
    )
