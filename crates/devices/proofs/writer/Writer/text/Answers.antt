use Rattle.std.proofs.Common.{ℕ, arith, length-drop}
use Rattle.std.proofs.lemmas.List.{length-take}
use Rattle.devices.proofs.WriterLemmas.{adds_more, stays_through}
use Rattle.devices.proofs.writer.Writer.text.Goals as goal

pub loop-at-preserved : goal.loop-at-preserved
loop-at-preserved g c =
    let was = c.loop-at.invariant in let did = c.take_in-n.ensures in
    record {
      within = omega (arith, did.within, length-take {A = ℕ}, length-drop {A = ℕ});
      adds = adds_more c.args.self.now c.loop-at.self c.take_in-n.new.self c.loop-at.at c.take_in-n.result c.args.bytes.now was.adds did.adds;
      stays_stopped = stays_through c.args.self.now c.loop-at.self c.take_in-n.new.self was.stays_stopped did.stays_stopped;
    }
