use Rattle.std.proofs.Common.{◌≤◌, ◌-◌, length, take}
use Rattle.devices.specs.Outgoing.{Adds}
use Rattle.devices.specs.kept.Outgoing.{StaysStopped}
use Rattle.devices.proofs.writer.Writer.text.Given as goal

-- the first bytes were added
abbrev pub invariant-loop-at : goal.invariant-loop-at
invariant-loop-at g l = record {
  within : l.at ≤ length l.bytes;
  adds : Adds l.initial.self l.self (take l.at l.bytes);
  stays_stopped : StaysStopped l.initial.self l.self;
}

abbrev pub decreases-loop-at : goal.decreases-loop-at
decreases-loop-at g l = length l.bytes - l.at
