use Rattle.std.proofs.Common.{◌≡◌, ◌<◌, ◌≤◌, ◌-◌, drop}
use Rattle.gatestep.specs.Step.{due}
use Rattle.waveform.specs.Changes.{wave_changes_below}
use Rattle.waveform.specs.kept.Changes.{state_at}
use Rattle.waveform.specs.kept.Currents.{currents}
use Rattle.waveform.specs.Timelines.{entries_after}
use Rattle.waveform.proofs.currents.append_currents.Given as goal

-- the wave has all below `done`; the state stood at the moment before, and the entries after that one are left
abbrev pub invariant-loop-entry : goal.invariant-loop-entry
invariant-loop-entry l =
    record {
      begun : 0 < l.done;
      order : l.done ≤ l.end;
      left : entries_after l.trace (l.done - 1) ≡ drop l.entry-index l.later;
      stands : state_at l.trace (l.done - 1) ≡ due l.state (l.done - 1);
      wave : l.wave ≡ wave_changes_below (currents l.trace) l.done;
    }
