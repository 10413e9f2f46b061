use Rattle.std.proofs.Common.{◌≡◌, ◌∙◌, ap, sym, subst, refl, length, List, Some, false, true, slice_get}
use Rattle.std.proofs.lemmas.Option.{slice_get_read}
use Rattle.fourstate.specs.Values.{same_value}
use Rattle.scratch.specs.kept.Kept.{input_value}
use Rattle.scratch.specs.declared.wiring.Input.{Input}
use Rattle.rundiff.specs.kept.OldRuns.{OldLinesRecord, old_value}
use Rattle.rundiff.proofs.Known.{match_more, mismatch}
use Rattle.rundiff.proofs.old_lines.OldLines.are_read.Goals as goal

pub returns-then-not-is_same-clause-read : goal.returns-then-not-is_same-clause-read
returns-then-not-is_same-clause-read c =
    let former = old_value c.args.self.now.run c.args.t in
    let i = c.loop-i.i in let inputs = c.args.cell.now.inputs in let read = input_value c.args.values.now in
    let x = c.index-inputs-i.result in
    let at = subst (λ (xs : List Input). slice_get xs i ≡ Some x) c.inputs-inputs.ensures.inputs (slice_get_read c.inputs-inputs.result.now (length c.inputs-inputs.result.now) i x refl c.loop-i-test.true c.index-inputs-i.is) in
    let old : c.value-former.result ≡ former c.get-input.result = c.value-former.ensures.value ∙ ap (λ (lines : OldLinesRecord). old_value lines.run c.args.t c.get-input.result) c.loop-i.invariant.same in
    let off : same_value (former x) (read x) ≡ false = cc in
    sym (mismatch same_value former read x x inputs inputs i at at off)

pub loop-i-preserved : goal.loop-i-preserved
loop-i-preserved c =
    let former = old_value c.args.self.now.run c.args.t in
    let i = c.loop-i.i in let inputs = c.args.cell.now.inputs in let read = input_value c.args.values.now in
    let x = c.index-inputs-i.result in
    let at = subst (λ (xs : List Input). slice_get xs i ≡ Some x) c.inputs-inputs.ensures.inputs (slice_get_read c.inputs-inputs.result.now (length c.inputs-inputs.result.now) i x refl c.loop-i-test.true c.index-inputs-i.is) in
    let old : c.value-former.result ≡ former c.get-input.result = c.value-former.ensures.value ∙ ap (λ (lines : OldLinesRecord). old_value lines.run c.args.t c.get-input.result) c.loop-i.invariant.same in
    let on : same_value (former x) (read x) ≡ true = cc in
    record {
      same = c.value-former.ensures.same ∙ c.loop-i.invariant.same;
      read = match_more same_value former read x x inputs inputs i at at c.loop-i.invariant.read on;
    }
