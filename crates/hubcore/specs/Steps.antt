-- What an event makes of editors and viewers (own).
use Rattle.std.specs.Prelude.{◌≡◌, Bool, true, false, IsTrue, ℕ, ◌==◌, max, nat_lt, if◌then◌else◌, List, [], ◌∷◌, ◌++◌, length, position, remove, slice_get, slice_set, Option, Some, None, Result, Ok, Err, IsOk}
use Rattle.std.specs.Result.{result_map_both}
use Rattle.edits.specs.declared.edit.Edit.{Edit}
use Rattle.bench.specs.declared.fault.CommitFault.{CommitFault}
use Rattle.hubcore.specs.declared.event.Event.{Event}
use Rattle.hubcore.specs.declared.event.Event.TheVariants.{Submit, Show, Look, Learn, Release}
use Rattle.hubcore.specs.declared.reply.Reply.{Reply}
use Rattle.hubcore.specs.declared.reply.Reply.TheVariants.{Done, At}
use Rattle.hubcore.specs.declared.fault.CoreFault.{CoreFault}
use Rattle.hubcore.specs.declared.fault.CoreFault.TheVariants.{UnknownViewer, NotHeld, AheadOfLog, OutOfMemory}
use Rattle.hubcore.specs.States.{ViewerRecord, CoreRecord, viewer, state}

-- One viewer.

-- the viewer takes the snapshot that is shown
abbrev pub looked : ℕ → ViewerRecord → ViewerRecord
looked shown v = viewer shown (v.held ++ shown ∷ [])

-- the viewer is told of a length
abbrev pub learned : ℕ → ViewerRecord → ViewerRecord
learned length v = viewer (max v.seen length) v.held

-- the viewer lets go of the first snapshot of a length; it has to hold one
abbrev pub released_at : ViewerRecord → Option ℕ → Result ViewerRecord CoreFault
released_at v (Some place) = Ok (viewer v.seen (remove v.held place))
released_at v None = Err NotHeld

abbrev pub released : ℕ → ViewerRecord → Result ViewerRecord CoreFault
released length v = released_at v (position (λ k. k == length) v.held)

-- All of them.

abbrev pub with_viewer : CoreRecord → ℕ → ViewerRecord → CoreRecord
with_viewer s number v = state s.log s.shown (slice_set s.viewers number v)

-- the log gains an accepted commit at its end
abbrev pub logged : List (List Edit) → List Edit → Result ℕ CommitFault → List (List Edit)
logged log edits (Ok version) = log ++ edits ∷ []
logged log edits (Err fault) = log

-- the viewer of a number, if there is one, looks
abbrev pub looks : CoreRecord → ℕ → Option ViewerRecord → Result (CoreRecord × Reply) CoreFault
looks s number (Some v) = Ok (with_viewer s number (looked s.shown v), At s.shown)
looks s number None = Err UnknownViewer

-- it is told of a length, which has to be shown
abbrev pub learns : CoreRecord → ℕ → ℕ → Option ViewerRecord → Result (CoreRecord × Reply) CoreFault
learns s number length (Some v) = if nat_lt s.shown length then Err AheadOfLog else Ok (with_viewer s number (learned length v), Done)
learns s number length None = Err UnknownViewer

-- it lets go of a snapshot of a length
abbrev pub releases : CoreRecord → ℕ → ℕ → Option ViewerRecord → Result (CoreRecord × Reply) CoreFault
releases s number length (Some v) = result_map_both (λ w. (with_viewer s number w, Done)) (λ fault. fault) (released length v)
releases s number length None = Err UnknownViewer

-- the state after an event and the reply, or the fault
abbrev pub step : CoreRecord → Event → Result (CoreRecord × Reply) CoreFault
step s (Submit edits reply) = Ok (state (logged s.log edits.items reply) s.shown s.viewers, Done)
step s Show = Ok (state s.log (length s.log) s.viewers, Done)
step s (Look number) = looks s number (slice_get s.viewers number)
step s (Learn number length) = learns s number length (slice_get s.viewers number)
step s (Release number length) = releases s number length (slice_get s.viewers number)

-- What a refusal may be.

-- an event that adds to the log or to what a viewer holds
abbrev pub takes_memory : Event → Bool
takes_memory (Submit edits (Ok version)) = true
takes_memory (Submit edits (Err fault)) = false
takes_memory Show = false
takes_memory (Look number) = true
takes_memory (Learn number length) = false
takes_memory (Release number length) = false

-- an event may be refused as the definition says, or, where it takes memory and would not be refused, because memory ran out
abbrev pub MayRefuse : CoreRecord → Event → CoreFault → Type 0
MayRefuse s event UnknownViewer = step s event ≡ Err UnknownViewer
MayRefuse s event NotHeld = step s event ≡ Err NotHeld
MayRefuse s event AheadOfLog = step s event ≡ Err AheadOfLog
MayRefuse s event OutOfMemory = IsTrue (takes_memory event) × IsOk (step s event)
