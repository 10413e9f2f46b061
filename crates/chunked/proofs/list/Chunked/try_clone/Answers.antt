use Rattle.std.proofs.Common.{◌∙◌, sym, ap, length}
use Rattle.chunked.specs.kept.Chunks.{row_in}
use Rattle.chunked.specs.declared.branch.TheConstants.{BRANCH}
use Rattle.chunked.proofs.ChunkLemmas.{chunks_same}
use Rattle.chunked.proofs.list.Chunked.try_clone.Goals as goal

pub invariant_of-result : goal.invariant_of-result
invariant_of-result g c =
    let same = chunks_same row_in BRANCH _ (λ x y r. r) c.self.inside.branches.items c.in_ok-branches.branches.items c.in_ok-branches.ensures.cases.0 in
    (same.2 c.self.invariant.0, c.self.invariant.1 ∙ sym (ap (λ l. length l) same.0))

pub returns : goal.returns
returns g c =
    let same = chunks_same row_in BRANCH _ (λ x y r. r) c.self.inside.branches.items c.in_ok-branches.branches.items c.in_ok-branches.ensures.cases.0 in
    same.0 ∙ c.self.view_is
