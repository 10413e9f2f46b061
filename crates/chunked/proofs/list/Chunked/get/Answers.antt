use Rattle.std.proofs.Common.{◌∙◌, ◌/◌, ◌%◌, sym, ap, arith, length, get_or}
use Rattle.std.specs.Option.{option_copied}
use Rattle.chunked.specs.kept.Chunks.{row_in}
use Rattle.chunked.specs.declared.branch.TheConstants.{BRANCH}
use Rattle.chunked.proofs.ChunkLemmas.{chunk_get, chunk_past}
use Rattle.chunked.proofs.list.Chunked.get.Goals as goal

pub returns-in_err-get : goal.returns-in_err-get
returns-in_err-get g c =
    let items = c.self.inside.branches.items in
    rw (← c.self.view_is)
    (ap option_copied c.from_residual.ensures
    ∙ sym (chunk_past row_in BRANCH items c.self.invariant.0 (c.args.index / BRANCH) c.args.index (omega arith) (omega (arith, c.in_err-get.ensures.lookup, ap (λ l. length l) c.deref.ensures.value))))

pub returns : goal.returns
returns g c =
    let items = c.self.inside.branches.items in
    let q = c.args.index / BRANCH in
    let old = c.in_ok-get.field-0.now in
    let at = c.in_ok-get.ensures.lookup in
    let there = at.1 ∙ ap (λ l. get_or l q old) c.deref.ensures.value in
    rw (← c.self.view_is)
    (c.get-2.ensures
    ∙ sym (chunk_get row_in BRANCH items c.self.invariant.0 q (c.args.index % BRANCH) c.args.index old (omega arith) (omega arith) (omega (arith, at.3.0, ap (λ l. length l) c.deref.ensures.value)) there))
