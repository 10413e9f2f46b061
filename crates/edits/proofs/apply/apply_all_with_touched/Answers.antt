use Rattle.edits.proofs.CarriedLemmas.{carried_on}
use Rattle.edits.proofs.apply.apply_all_with_touched.Goals as goal

pub loop-place-preserved : goal.loop-place-preserved
loop-place-preserved c =
    let l = c.loop-place in
    let one = c.in-Ok-apply in
    carried_on c.args.design.now l.new c.args.edits.now l.place l.touched.nets.items l.touched.gates.items c.index-edits-place.result one.made c.add.new.self.nets.items c.add.new.self.gates.items l.invariant c.loop-place-test.true c.index-edits-place.is one.ensures.by_name.0 one.ensures.by_name.1 one.ensures.touched c.in-Ok-add.ensures.nets c.in-Ok-add.ensures.gates
