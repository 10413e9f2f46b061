-- What a command makes of a session: the state after it, or why it is refused (own).
use Rattle.std.specs.Prelude.{Bool, ℕ, ◌+◌, nat_lt, if◌then◌else◌, List, [], ◌∷◌, ◌++◌, length, Option, None, Some, Result, Ok, Err}
use Rattle.design.specs.Netlist.{Netlist}
use Rattle.edits.specs.declared.edit.Edit.{Edit}
use Rattle.edits.specs.declared.fault.EditFault.{EditFault}
use Rattle.edits.specs.declared.fault.EditFault.TheVariants.{TooMany}
use Rattle.edits.specs.declared.limits.TheConstants.{MAX_EDITS}
use Rattle.bench.specs.Benches.{SnapshotRecord, snapshot_of}
use Rattle.bench.specs.Commits.{commit_of}
use Rattle.session.specs.declared.commands.command.Command.{Command}
use Rattle.session.specs.declared.commands.command.Command.TheVariants as command
use Rattle.session.specs.declared.replies.refusal.Refusal.{Refusal}
use Rattle.session.specs.declared.replies.refusal.Refusal.TheVariants as refusal
use Rattle.session.specs.EditLines.{edit_of}
use Rattle.session.specs.Held.{held_as, hold_fault, without_held}
use Rattle.session.specs.Standing.{SessionState, with_batch, with_held, with_present}

-- a commit makes the next version, or is refused for the first edit that is refused
abbrev pub commit_result : SessionState → Result Netlist (ℕ × EditFault) → Result SessionState Refusal
commit_result s (Ok design) = Ok (with_present s (snapshot_of (s.present.version + 1) design))
commit_result s (Err refused) = Err (refusal.Edit refused.1)

abbrev pub commit_step : SessionState → List Edit → Result SessionState Refusal
commit_step s edits = commit_result s (commit_of s.present.version s.present.design edits)

-- a batch has room for an edit more
abbrev pub has_room : List Edit → Bool
has_room edits = nat_lt (length edits) MAX_EDITS

-- outside a batch an edit is a commit by itself; in a batch it is kept, as long as there is room
abbrev pub edit_step : SessionState → Option (List Edit) → Edit → Result SessionState Refusal
edit_step s None e = commit_step s (e ∷ [])
edit_step s (Some edits) e =
    if has_room edits then Ok (with_batch s (Some (edits ++ e ∷ []))) else Err (refusal.Edit TooMany)

abbrev pub begin_step : SessionState → Option (List Edit) → Result SessionState Refusal
begin_step s None = Ok (with_batch s (Some []))
begin_step s (Some edits) = Err refusal.InBatch

-- the batch ends, whatever its commit makes
abbrev pub batch_step : SessionState → Option (List Edit) → Result SessionState Refusal
batch_step s None = Err refusal.NoBatch
batch_step s (Some edits) = commit_step (with_batch s None) edits

abbrev pub abort_step : SessionState → Option (List Edit) → Result SessionState Refusal
abort_step s None = Err refusal.NoBatch
abort_step s (Some edits) = Ok (with_batch s None)

abbrev pub hold_step : SessionState → List ℕ → Option EditFault → Result SessionState Refusal
hold_step s name None = Ok (with_held s (s.held ++ (name, s.present) ∷ []))
hold_step s name (Some fault) = Err (refusal.Edit fault)

abbrev pub free_step : SessionState → List ℕ → Option SnapshotRecord → Result SessionState Refusal
free_step s name None = Err refusal.UnknownHold
free_step s name (Some snapshot) = Ok (with_held s (without_held s.held name))

-- the other commands change nothing
abbrev pub step : SessionState → Command → Result SessionState Refusal
step s (command.Change line) = edit_step s s.batch (edit_of line)
step s command.Begin = begin_step s s.batch
step s command.Commit = batch_step s s.batch
step s command.Abort = abort_step s s.batch
step s (command.Hold name) = hold_step s name (hold_fault s.held name)
step s (command.Free name) = free_step s name (held_as s.held name)
step s _ = Ok s
