use Rattle.std.proofs.Common.{◌≡◌, true, false, ◌∙◌, sym, arith}
use Rattle.std.specs.Prelude.{is_some}
use Rattle.waveform.proofs.Marking.{found_on, or_some, or_none}
use Rattle.waveform.proofs.marks.first_from.Goals as goal

pub returns-then-is_some : goal.returns-then-is_some
returns-then-is_some g c =
    let sample = g.V.Sample in
    let on = found_on sample.stored (λ e. sample.same e.1 c.args.value) c.args.entries.now c.loop-from.from c.min-end.result c.first_in_block-found.result (omega arith)
    c.first_in_block-found.ensures in
    let some : is_some c.first_in_block-found.result ≡ true = cc in
    sym (sym c.loop-from.invariant ∙ on ∙ or_some c.first_in_block-found.result _ some)

pub loop-from-preserved : goal.loop-from-preserved
loop-from-preserved g c =
    let sample = g.V.Sample in
    let on = found_on sample.stored (λ e. sample.same e.1 c.args.value) c.args.entries.now c.loop-from.from c.min-end.result c.first_in_block-found.result (omega arith)
    c.first_in_block-found.ensures in
    let none : is_some c.first_in_block-found.result ≡ false = cc in
    sym (on ∙ or_none c.first_in_block-found.result _ none) ∙ c.loop-from.invariant
