use Rattle.std.proofs.Common.{◌∙◌, ◌/◌, ◌%◌, sym, ap, arith, length, get_or}
use Rattle.std.specs.Option.{option_copied}
use Rattle.chunked.specs.kept.Chunks.{items_in}
use Rattle.chunked.specs.declared.chunk.TheConstants.{CHUNK}
use Rattle.chunked.proofs.ChunkLemmas.{chunk_get, chunk_past}
use Rattle.chunked.proofs.row.Row.get.Goals as goal

pub returns-in_err-get : goal.returns-in_err-get
returns-in_err-get g c =
    let items = c.self.inside.chunks.items in
    rw (← c.self.view_is)
    (ap option_copied c.from_residual.ensures
    ∙ sym (chunk_past items_in CHUNK items c.self.invariant.0 (c.args.index / CHUNK) c.args.index (omega arith) (omega (arith, c.in_err-get.ensures.lookup, ap (λ l. length l) c.deref.ensures.value))))

pub returns : goal.returns
returns g c =
    let items = c.self.inside.chunks.items in
    let q = c.args.index / CHUNK in
    let old = c.in_ok-get.field-0.now in
    let at = c.in_ok-get.ensures.lookup in
    let there = at.1 ∙ ap (λ l. get_or l q old) c.deref.ensures.value in
    rw (← c.self.view_is)
    (c.get-2.ensures
    ∙ sym (chunk_get items_in CHUNK items c.self.invariant.0 q (c.args.index % CHUNK) c.args.index old (omega arith) (omega arith) (omega (arith, at.3.0, ap (λ l. length l) c.deref.ensures.value)) there))
