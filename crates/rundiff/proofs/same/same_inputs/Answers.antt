use Rattle.std.proofs.Common.{◌≡◌, ◌<◌, ◌∙◌, sym, subst, List, Some, arith, length, slice_get}
use Rattle.design.specs.declared.terminal.Terminal.{Terminal}
use Rattle.design.specs.Keys.{connection_in}
use Rattle.rundiff.specs.Dirty.{same_connection}
use Rattle.rundiff.proofs.Driven.{read_get}
use Rattle.rundiff.proofs.Known.{match_more, mismatch}
use Rattle.rundiff.proofs.same.same_inputs.Goals as goal

pub returns-then-not-same_connection : goal.returns-then-not-same_connection
returns-then-not-same_connection c =
    let i = c.loop-i.i in
    let x = c.index-mine-i.result in
    let y = c.index-theirs-i.result in
    let mine = subst (λ (xs : List Terminal). slice_get xs i ≡ Some x) c.inputs-mine.ensures.inputs (read_get c.inputs-mine.result.now i x c.loop-i-test.true c.index-mine-i.is) in
    let low : i < length c.inputs-theirs.result.now = let same = c.if-mine-theirs.false in let h = c.loop-i-test.true in omega arith in
    let theirs = subst (λ (xs : List Terminal). slice_get xs i ≡ Some y) c.inputs-theirs.ensures.inputs (read_get c.inputs-theirs.result.now i y low c.index-theirs-i.is) in
    sym (mismatch same_connection (connection_in c.args.new.now.nets) (connection_in c.args.old.now.nets) x y c.args.gate.now.inputs c.args.former.now.inputs i mine theirs
    (sym c.same_connection.ensures ∙ c.if-not-same_connection.true))

pub loop-i-preserved : goal.loop-i-preserved
loop-i-preserved c =
    let i = c.loop-i.i in
    let x = c.index-mine-i.result in
    let y = c.index-theirs-i.result in
    let mine = subst (λ (xs : List Terminal). slice_get xs i ≡ Some x) c.inputs-mine.ensures.inputs (read_get c.inputs-mine.result.now i x c.loop-i-test.true c.index-mine-i.is) in
    let low : i < length c.inputs-theirs.result.now = let same = c.if-mine-theirs.false in let h = c.loop-i-test.true in omega arith in
    let theirs = subst (λ (xs : List Terminal). slice_get xs i ≡ Some y) c.inputs-theirs.ensures.inputs (read_get c.inputs-theirs.result.now i y low c.index-theirs-i.is) in
    match_more same_connection (connection_in c.args.new.now.nets) (connection_in c.args.old.now.nets) x y c.args.gate.now.inputs c.args.former.now.inputs i mine theirs c.loop-i.invariant
    (sym c.same_connection.ensures ∙ c.if-not-same_connection.false)
