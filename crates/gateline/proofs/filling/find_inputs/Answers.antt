use Rattle.std.proofs.Common.{◌≡◌, ◌+◌, ◌++◌, ◌∙◌, ap, sym, subst, refl, [], ◌∷◌, Some, length, slice_get, take}
use Rattle.std.proofs.lemmas.List.{take_all}
use Rattle.std.proofs.lemmas.Option.{slice_get_read}
use Rattle.design.specs.Keys.{netlist}
use Rattle.gateline.proofs.Marks.{all_known, keep_all, marked_more, supplied_at}
use Rattle.gateline.proofs.filling.find_inputs.Goals as goal
use Rattle.gateline.specs.kept.Known.{AreMarked, AreSupplied, IsMarked}
use Rattle.scratch.proofs.Lists.{take_next}

pub loop-input-preserved : goal.loop-input-preserved
loop-input-preserved g c =
    let items = c.inputs-input-items.result.now in let i = c.loop-input.input-index in let x = c.input-item.result in
    let at : slice_get items i ≡ Some x = slice_get_read items (length items) i x refl c.loop-input-test.true c.input-item.is in
    let more : take (i + 1) items ≡ take i items ++ x ∷ [] = take_next items i x at in
    let one : IsMarked c.find_input.new.found x = subst (IsMarked c.find_input.new.found) c.get.ensures c.in_ok-find_input.ensures.known in
    record {
      found = c.in_ok-find_input.ensures.found;
      marked = subst (AreMarked c.find_input.new.found) (sym more)
          (marked_more c.find_input.new.found (take i items) x (keep_all c.loop-input.found c.find_input.new.found c.in_ok-find_input.ensures.kept c.find_input.auto.found (take i items) c.loop-input.invariant.marked) one);
      kept = λ m marked. c.in_ok-find_input.ensures.kept m (c.loop-input.invariant.kept m marked);
    }

pub returns-clause-marked : goal.returns-clause-marked
returns-clause-marked g c =
    subst (AreMarked c.loop-input.found) (take_all c.loop-input.input-index c.inputs-input-items.result.now c.loop-input-test.false ∙ c.inputs-input-items.ensures.inputs) c.loop-input.invariant.marked

pub returns-clause-known : goal.returns-clause-known
returns-clause-known g c =
    let answer = g.S.Stepper.answer in let d = netlist c.args.design.now in
    all_known answer d c.loop-input.found c.loop-input.waves c.loop-input.invariant.found (c.loop-input.auto.found ∙ c.requires.marks) (c.loop-input.auto.waves ∙ c.requires.lines) c.args.cell.now.inputs
    (subst (AreMarked c.loop-input.found) (take_all c.loop-input.input-index c.inputs-input-items.result.now c.loop-input-test.false ∙ c.inputs-input-items.ensures.inputs) c.loop-input.invariant.marked)

pub find_input-requires-clause-supplied : goal.find_input-requires-clause-supplied
find_input-requires-clause-supplied g c =
    let answer = g.S.Stepper.answer in let d = netlist c.args.design.now in
    let items = c.inputs-input-items.result.now in let i = c.loop-input.input-index in let x = c.input-item.result in
    let at : slice_get items i ≡ Some x = slice_get_read items (length items) i x refl c.loop-input-test.true c.input-item.is in
    subst (λ input. AreSupplied answer d c.args.traces.now (input ∷ [])) (sym c.get.ensures)
    (supplied_at answer d c.args.traces.now c.args.cell.now.inputs i x c.requires.supplied (ap (λ l. slice_get l i) (sym c.inputs-input-items.ensures.inputs) ∙ at))
