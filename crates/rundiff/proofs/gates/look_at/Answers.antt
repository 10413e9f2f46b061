use Rattle.std.proofs.Common.{sym, subst, ℕ, List, take, slice_index_or}
use Rattle.std.proofs.lemmas.Option.{slice_get-get_or}
use Rattle.design.specs.Keys.{netlist}
use Rattle.scratch.proofs.Lists.{take_next}
use Rattle.rundiff.specs.kept.Fronts.{AreOutcomes}
use Rattle.rundiff.proofs.Steps.{at_index}
use Rattle.rundiff.proofs.gates.look_at.Goals as goal

pub look-outcome-requires-clause-there : goal.look-outcome-requires-clause-there
look-outcome-requires-clause-there g c = at_index _ c.args.held.now c.loop-place.place-index c.loop-place-test.true c.requires.there

pub loop-place-init : goal.loop-place-init
loop-place-init g c = c.clear.ensures g.S.Stepper.answer (netlist c.args.former.now.old.now) (netlist c.args.former.now.new.now) c.args.t

pub loop-place-preserved : goal.loop-place-preserved
loop-place-preserved g c =
    let xs = c.args.held.now in let i = c.loop-place.place-index in let x = slice_index_or xs i 0 in
    let old = netlist c.args.former.now.old.now in let new = netlist c.args.former.now.new.now in
    subst (λ (l : List ℕ). AreOutcomes g.S.Stepper.answer old new c.args.t l c.add.new.out) (sym (take_next xs i x (slice_get-get_or xs i 0 c.loop-place-test.true)))
    (c.in_ok-add.ensures g.S.Stepper.answer old new c.args.t (take i xs) c.loop-place.invariant c.look-outcome.ensures)
