use Rattle.devices.proofs.WriterLemmas.{sends_on}
use Rattle.devices.proofs.writer.Writer.send_waiting.Goals as goal

pub invariant_of-self : goal.invariant_of-self
invariant_of-self g c =
    rw (c.add.ensures, c.clear.ensures, c.saturating_add-self-inside.ensures, c.as_slice-bytes.ensures)
    (sends_on (rw c.if-self.false at c.self.invariant) (rw c.as_slice-bytes.ensures at c.send-n.ensures))
