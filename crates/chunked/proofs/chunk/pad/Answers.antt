use Rattle.std.proofs.Common.{◌∙◌, ◌≡◌, ◌+◌, ◌++◌, ap, arith, inl, inr, length, replicate, take}
use Rattle.std.proofs.lemmas.List.{length-append, take_all}
use Rattle.std.specs.Result.{is_ok}
use Rattle.chunked.specs.kept.Chunks.{items_in}
use Rattle.chunked.proofs.ChunkLemmas.{copies, zipped}
use Rattle.chunked.proofs.chunk.pad.Goals as goal

pub returns-clause-ok : goal.returns-clause-ok
returns-clause-ok g c =
    let x = c.args.item in
    let old = items_in c.args.chunk.now in
    let items = c.in_ok-items.items.now.items in
    let same : items ≡ old =
    elim c.in_ok-items.ensures.value [
      | inl whole ↦ ap (λ v. v.items) whole
      | inr each ↦ zipped g.T.Clone.is_clone g.met.T.ExactClone.exact old items each.0
    ] in
    let put = c.in_ok-resize.ensures.items in
    let kept : take (c.len.result + c.args.count) items ≡ items = take_all (c.len.result + c.args.count) items (omega (arith, c.len.ensures, c.in_ok-items.items.now.ok.0)) in
    let all : c.resize.new.self.items ≡ old ++ put.0 = put.1 ∙ ap (λ l. l ++ put.0) (kept ∙ same) in
    let count : length put.0 ≡ c.args.count =
    omega (arith, c.in_ok-resize.ensures.len, c.len.ensures, ap (λ l. length l) same, ap (λ l. length l) all, length-append old put.0, c.resize.new.self.ok.0, c.in_ok-items.items.now.ok.0) in
    let made : put.0 ≡ replicate c.args.count x = copies g.T.Clone.is_clone x put.0 put.2 (g.met.T.ExactClone.exact x) ∙ ap (λ n. replicate n x) count in
    ap (λ v. v.items) (c.make_mut.follows.holds c.resize.new.self (ap is_ok c.in_ok-items.was)) ∙ all ∙ ap (λ l. old ++ l) made
