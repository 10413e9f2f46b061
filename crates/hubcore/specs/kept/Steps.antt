-- What several events make of editors and viewers, and what a look gives at least.
use Rattle.std.specs.Prelude.{ℕ, ◌≤◌, List, fold, length, Result, Ok, Err}
use Rattle.hubcore.specs.declared.event.Event.{Event}
use Rattle.hubcore.specs.declared.reply.Reply.{Reply}
use Rattle.hubcore.specs.declared.reply.Reply.TheVariants.{Done, At}
use Rattle.hubcore.specs.declared.fault.CoreFault.{CoreFault}
use Rattle.hubcore.specs.States.{CoreRecord}
use Rattle.hubcore.specs.Steps.{step}

-- a refused event changes nothing
abbrev pub taken : CoreRecord → Result (CoreRecord × Reply) CoreFault → CoreRecord
taken s (Ok done) = done.0
taken s (Err fault) = s

-- the state after these events, one after another
abbrev pub state_after : CoreRecord → List Event → CoreRecord
state_after s events = fold (λ s event. taken s (step s event)) s events

-- a look gives a snapshot of this length or a greater one
abbrev pub GivesAtLeast : ℕ → Reply → Type 0
GivesAtLeast length (At given) = length ≤ given
GivesAtLeast length Done = ⊥
