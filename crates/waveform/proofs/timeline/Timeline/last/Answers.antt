use Rattle.waveform.proofs.Turns.{all_up_to_last}
use Rattle.waveform.proofs.timeline.Timeline.last.Goals as goal

pub returns-clause-latest : goal.returns-clause-latest
returns-clause-latest g c =
    rw (← c.self.view_is)
    (all_up_to_last g.V.Sample.same g.V.Sample.drift c.last_entry.result _ c.self.invariant.0.in_turn (rw c.as_slice.ensures.value at c.last_entry.ensures))
