-- What no command changes.
use Rattle.std.proofs.Common.{◌≡◌, ℕ, List, ◌∷◌, [], Bool, true, false, cond, Option, None, Some, Result, Ok, Err, refl, subst}
use Rattle.std.specs.Prelude.{IfOk}
use Rattle.design.specs.Netlist.{Netlist}
use Rattle.edits.specs.declared.edit.Edit.{Edit}
use Rattle.edits.specs.declared.fault.EditFault.{EditFault}
use Rattle.bench.specs.Benches.{SnapshotRecord}
use Rattle.bench.specs.Commits.{commit_of}
use Rattle.session.specs.declared.commands.command.Command.{Command}
use Rattle.session.specs.declared.commands.command.Command.TheVariants as command
use Rattle.session.specs.declared.commands.request.Request.{Request}
use Rattle.session.specs.declared.commands.request.Request.TheVariants as request
use Rattle.session.specs.declared.replies.refusal.Refusal.{Refusal}
use Rattle.session.specs.EditLines.{edit_of}
use Rattle.session.specs.Held.{held_as, hold_fault}
use Rattle.session.specs.Refused.{Comes, left_by}
use Rattle.session.specs.State.{Answers, Concludes, Replies, Results, SessionState}
use Rattle.session.specs.Standing.{with_batch}
use Rattle.session.specs.Steps.{abort_step, batch_step, begin_step, commit_result, edit_step, free_step, has_room, hold_step, step}
use Rattle.session.specs.ToolCommands.{request_by}

-- Below, a step leaves to the session what it knows: the questions of tools, or not.

abbrev Keeps : SessionState → Result SessionState Refusal → Type 0
Keeps s result = IfOk result (λ new. new.tools ≡ s.tools)

by_test : (s new : SessionState) (r : Refusal) (b : Bool) → new.tools ≡ s.tools → Keeps s (cond b (Ok new) (Err r))
by_test s new r true e = e
by_test s new r false e = tt

by_commit : (s left : SessionState) (made : Result Netlist (ℕ × EditFault)) → left.tools ≡ s.tools → Keeps s (commit_result left made)
by_commit s left (Ok d) e = e
by_commit s left (Err refused) e = tt

by_edit : (s : SessionState) (batch : Option (List Edit)) (e : Edit) → Keeps s (edit_step s batch e)
by_edit s None e = by_commit s s (commit_of s.present.version s.present.design (e ∷ [])) refl
by_edit s (Some edits) e = by_test s _ _ (has_room edits) refl

by_begin : (s : SessionState) (batch : Option (List Edit)) → Keeps s (begin_step s batch)
by_begin s None = refl
by_begin s (Some edits) = tt

by_batch : (s : SessionState) (batch : Option (List Edit)) → Keeps s (batch_step s batch)
by_batch s None = tt
by_batch s (Some edits) = by_commit s (with_batch s None) (commit_of s.present.version s.present.design edits) refl

by_abort : (s : SessionState) (batch : Option (List Edit)) → Keeps s (abort_step s batch)
by_abort s None = tt
by_abort s (Some edits) = refl

by_hold : (s : SessionState) (name : List ℕ) (fault : Option EditFault) → Keeps s (hold_step s name fault)
by_hold s name None = refl
by_hold s name (Some fault) = tt

by_free : (s : SessionState) (name : List ℕ) (held : Option SnapshotRecord) → Keeps s (free_step s name held)
by_free s name None = tt
by_free s name (Some snapshot) = refl

by_step : (s : SessionState) (c : Command) → Keeps s (step s c)
by_step s (command.Change line) = by_edit s s.batch (edit_of line)
by_step s command.Begin = by_begin s s.batch
by_step s command.Commit = by_batch s s.batch
by_step s command.Abort = by_abort s s.batch
by_step s (command.Hold name) = by_hold s name (hold_fault s.held name)
by_step s (command.Free name) = by_free s name (held_as s.held name)
by_step s _ = refl

left_alone : (c : Command) (s : SessionState) → (left_by c s).tools ≡ s.tools
left_alone command.Commit s = refl
left_alone _ s = refl

by_done : (s new : SessionState) (c : Command) (done : Result (Unit {0}) Refusal) → Comes s new c done → new.tools ≡ s.tools
by_done s new c (Ok done) comes = subst (Keeps s) comes (by_step s c)
by_done s new c (Err refused) comes = rw comes.0 (left_alone c s)

by_conclusion : {s new : SessionState} {c : Command} {result : Result (List ℕ) Refusal} → Concludes s c result new → new.tools ≡ s.tools
by_conclusion {s = s} {new = new} {c = c} concluded = by_done s new c concluded.done concluded.comes

by_results : (s new : SessionState) (c : Command) (result : Result (List ℕ) Refusal) → Results s c result new → new.tools ≡ s.tools
by_results s new command.Skip result gives = rw gives.state_is refl
by_results s new (command.Ask asked) result gives = rw gives.state_is refl
by_results s new (command.At name asked) result gives = rw gives.state_is refl
by_results s new command.Quit result gives = rw gives.state_is refl
by_results s new command.Unreadable result gives = rw gives.state_is refl
by_results s new command.TooLong result gives = rw gives.state_is refl
by_results s new (command.Change line) result concluded = by_conclusion concluded
by_results s new command.Begin result concluded = by_conclusion concluded
by_results s new command.Commit result concluded = by_conclusion concluded
by_results s new command.Abort result concluded = by_conclusion concluded
by_results s new (command.Hold name) result concluded = by_conclusion concluded
by_results s new (command.Free name) result concluded = by_conclusion concluded

by_reply : (s new : SessionState) (r : Request) (reply : List ℕ) → Replies s r reply new → new.tools ≡ s.tools
by_reply s new (request.Plain c) reply replies = by_results s new c replies.result replies.results
by_reply s new (request.Naming c ws) reply replies = by_results s new c replies.result replies.results

pub tools_kept : (s : SessionState) (line reply : List ℕ) (new : SessionState) → Answers s line reply new → new.tools ≡ s.tools
unfolding Answers
tools_kept s line reply new answers = by_reply s new (request_by s.tools line) reply answers
