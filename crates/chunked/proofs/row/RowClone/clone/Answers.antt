use Rattle.std.proofs.Common.{◌∙◌, sym, ap, length}
use Rattle.chunked.specs.kept.Chunks.{items_in}
use Rattle.chunked.specs.declared.chunk.TheConstants.{CHUNK}
use Rattle.chunked.proofs.ChunkLemmas.{chunks_same}
use Rattle.chunked.proofs.row.RowClone.clone.Goals as goal

pub invariant_of-result : goal.invariant_of-result
invariant_of-result g c =
    let same = chunks_same items_in CHUNK _ (λ x y r. ap (λ v. v.items) r) c.self.inside.chunks.items c.in_ok-chunks.chunks.items c.in_ok-chunks.ensures.cases.0 in
    (same.2 c.self.invariant.0, c.self.invariant.1 ∙ sym (ap (λ l. length l) same.0))

pub returns : goal.returns
returns g c =
    let same = chunks_same items_in CHUNK _ (λ x y r. ap (λ v. v.items) r) c.self.inside.chunks.items c.in_ok-chunks.chunks.items c.in_ok-chunks.ensures.cases.0 in
    record { cases = same.0 ∙ c.self.view_is }
