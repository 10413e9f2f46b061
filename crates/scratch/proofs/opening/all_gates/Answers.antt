use Rattle.std.proofs.Common.{◌++◌, ◌∷◌, ◌∙◌, [], ap, sym, arith}
use Rattle.std.specs.List.{range_with_len}
use Rattle.design.specs.Keys.{netlist}
use Rattle.scratch.proofs.Passing.{all_places, one_place_more}
use Rattle.scratch.proofs.opening.all_gates.Goals as goal

pub loop-place-preserved : goal.loop-place-preserved
loop-place-preserved c = c.in_ok-push.ensures.items ∙ ap (λ l. l ++ c.loop-place.place ∷ []) c.loop-place.invariant ∙ sym (one_place_more c.loop-place.place)

pub returns : goal.returns
returns c =
    let d = netlist c.args.design.now in
    let past = c.loop-place-test.false in
    c.loop-place.invariant ∙ ap (range_with_len 0) (omega arith) ∙ sym (all_places 0 d.gates)
