use Rattle.edits.proofs.CarriedLemmas.{IsCarriedOut}
use Rattle.edits.proofs.apply.apply_all_with_touched.Given as goal

abbrev pub invariant-loop-place : goal.invariant-loop-place
invariant-loop-place l = IsCarriedOut l.design l.new l.edits l.place l.touched.nets.items l.touched.gates.items
