-- Why a command may be refused, and what it leaves.
use Rattle.std.specs.Prelude.{◌≡◌, ◌⊎◌, Bool, true, false, None, is_none, is_some, IsOk, Result, Ok, Err}
use Rattle.std.specs.Option.{option_map_or}
use Rattle.edits.specs.declared.fault.EditFault.TheVariants.{OutOfMemory}
use Rattle.session.specs.declared.commands.command.Command.{Command}
use Rattle.session.specs.declared.commands.command.Command.TheVariants as command
use Rattle.session.specs.declared.replies.refusal.Refusal.{Refusal}
use Rattle.session.specs.declared.replies.refusal.Refusal.TheVariants as refusal
use Rattle.session.specs.Held.{hold_fault}
use Rattle.session.specs.Standing.{SessionState, with_batch}
use Rattle.session.specs.Steps.{has_room, step}

-- the command takes memory, so that an allocation may be refused
abbrev pub takes_memory : SessionState → Command → Bool
takes_memory s (command.Change line) = option_map_or has_room s.batch true
takes_memory s command.Commit = is_some s.batch
takes_memory s (command.Hold name) = is_none (hold_fault s.held name)
takes_memory s _ = false

-- the command commits edits, so that the stepper may lose a worker
abbrev pub commits : SessionState → Command → Bool
commits s (command.Change line) = is_none s.batch
commits s command.Commit = is_some s.batch
commits s _ = false

-- A command may be refused for a fault of its own, or because memory ran out; a worker is lost only over edits that the design
-- takes.
abbrev pub MayRefuse : SessionState → Command → Refusal → Type 0
MayRefuse s c (refusal.Edit fault) = (step s c ≡ Err (refusal.Edit fault)) ⊎ ((fault ≡ OutOfMemory) × (takes_memory s c ≡ true))
MayRefuse s c refusal.WorkerLost = (commits s c ≡ true) × IsOk (step s c)
MayRefuse s c r = step s c ≡ Err r

-- a refused command leaves all as it was, save that a commit ends the batch
abbrev pub left_by : Command → SessionState → SessionState
left_by command.Commit s = with_batch s None
left_by c s = s

-- a command came to this result, and led from old to new
abbrev pub Comes : SessionState → SessionState → Command → Result (Unit {0}) Refusal → Type 0
Comes old new c (Ok done) = step old c ≡ Ok new
Comes old new c (Err refused) = (new ≡ left_by c old) × MayRefuse old c refused
