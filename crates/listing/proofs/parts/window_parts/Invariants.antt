use Rattle.devices.specs.Outgoing.{Adds}
use Rattle.listing.specs.Parts.{first_parts}
use Rattle.listing.proofs.parts.window_parts.Given as goal

-- the lines of the parts before this one are written
abbrev pub invariant-loop-number : goal.invariant-loop-number
invariant-loop-number g l = Adds l.initial.writer l.writer (first_parts l.wave l.from l.to l.parts l.number)
