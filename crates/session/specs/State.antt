-- What a session may answer (own).
use Rattle.std.specs.Prelude.{◌≡◌, Bool, true, false, ℕ, List, [], ◌∷◌, ◌++◌, Option, None, Some, Result, Ok, Err, MatchBool}
use Rattle.fourstate.specs.declared.value.Value.{Value}
use Rattle.edits.specs.declared.fault.EditFault.{EditFault}
use Rattle.bench.specs.Benches.{SnapshotRecord}
use Rattle.vcd.specs.Text.{vcd_of}
use Rattle.session.specs.declared.commands.command.Command.{Command}
use Rattle.session.specs.declared.commands.command.Command.TheVariants as command
use Rattle.session.specs.declared.commands.question.NetQuestion.{NetQuestion}
use Rattle.session.specs.declared.commands.question.Query.{Query}
use Rattle.session.specs.declared.commands.question.Question.{Question}
use Rattle.session.specs.declared.commands.question.Question.TheVariants as question
use Rattle.session.specs.declared.commands.request.Request.{Request}
use Rattle.session.specs.declared.commands.request.Request.TheVariants.{Naming, Plain}
use Rattle.session.specs.declared.replies.refusal.Refusal.{Refusal}
use Rattle.session.specs.declared.replies.refusal.Refusal.TheVariants as refusal
use Rattle.session.specs.Held.{held_as}
use Rattle.session.specs.Questions.{changes_asked, query_lines}
use Rattle.session.specs.Refused.{Comes}
use Rattle.session.specs.Replies.{ok_line, refusal_line}
pub use Rattle.session.specs.Standing.{SessionState}
use Rattle.session.specs.ToolAnswers.{diff_result, lines_result, listing_result, reach_asked, why_asked}
use Rattle.session.specs.ToolCommands.{command_in, request_by}
use Rattle.session.specs.WordsAtFault.{word_at_fault}

-- Questions, which are asked of a snapshot and end with its version.

-- of what is asked about the changes of a wave, or of a question that is refused, at a version
abbrev pub query_result : ℕ → Query → Result (List (ℕ × Value)) EditFault → Result (List ℕ) Refusal
query_result version query (Err fault) = Err (refusal.Edit fault)
query_result version query (Ok changes) = Ok (query_lines changes query ++ ok_line version)

abbrev pub net_result : NetQuestion → SnapshotRecord → Result (List ℕ) Refusal
net_result asked snapshot = query_result snapshot.version asked.query (changes_asked snapshot.design asked)

-- beside the snapshots that are held
abbrev pub question_result : List (List ℕ × SnapshotRecord) → Question → SnapshotRecord → Result (List ℕ) Refusal
question_result held (question.Net asked) snapshot = net_result asked snapshot
question_result held question.Vcd snapshot = Ok (vcd_of snapshot.design ++ ok_line snapshot.version)
question_result held (question.Listing asked) snapshot = listing_result asked snapshot
question_result held (question.Why change) snapshot = lines_result snapshot.version (why_asked change snapshot)
question_result held (question.Reach change) snapshot = lines_result snapshot.version (reach_asked change snapshot)
question_result held (question.Diff name) snapshot = diff_result snapshot (held_as held name)

-- the same of the snapshot that is held under a name, if one is
abbrev pub held_result : List (List ℕ × SnapshotRecord) → Question → Option SnapshotRecord → Result (List ℕ) Refusal
held_result held asked None = Err refusal.UnknownHold
held_result held asked (Some snapshot) = question_result held asked snapshot

-- The other commands.

-- the version after a command that was carried out, or the refusal
abbrev pub done_result : ℕ → Result (Unit {0}) Refusal → Result (List ℕ) Refusal
done_result version (Ok done) = Ok (ok_line version)
done_result version (Err refused) = Err refused

-- From old, a command was carried out or refused, which led to new, and this says so.
pub record Concludes (old : SessionState) (c : Command) (result : Result (List ℕ) Refusal) (new : SessionState) : Type 0 where
  pub done : Result (Unit {0}) Refusal
  pub comes : Comes old new c done
  pub result_is : result ≡ done_result new.present.version done

-- this result, and the state after it
pub record Gives (result : Result (List ℕ) Refusal) (new : SessionState) (wanted : Result (List ℕ) Refusal) (after : SessionState) : Type 0 where
  pub result_is : result ≡ wanted
  pub state_is : new ≡ after

-- From old, a command may have this result and lead to new. A question asks the present snapshot, in a batch too.
abbrev pub Results : SessionState → Command → Result (List ℕ) Refusal → SessionState → Type 0
Results old command.Skip result new = Gives result new (Ok []) old
Results old (command.Ask asked) result new = Gives result new (question_result old.held asked old.present) old
Results old (command.At name asked) result new = Gives result new (held_result old.held asked (held_as old.held name)) old
Results old command.Quit result new = Gives result new (Ok (ok_line old.present.version)) old
Results old command.Unreadable result new = Gives result new (Err refusal.BadCommand) old
Results old command.TooLong result new = Gives result new (Err refusal.LongLine) old
Results old c result new = Concludes old c result new

-- Replies.

-- the text of a reply, where this word stands behind a refusal
abbrev pub reply_text : (Refusal → Option (List ℕ)) → Result (List ℕ) Refusal → List ℕ
reply_text word (Ok lines) = lines
reply_text word (Err refused) = refusal_line refused (word refused)

-- From old, a session may give this reply to a command and go on to new, where this word stands behind a refusal.
pub record RepliesWith (word : Refusal → Option (List ℕ)) (old : SessionState) (c : Command) (reply : List ℕ) (new : SessionState) : Type 0 where
  pub result : Result (List ℕ) Refusal
  pub results : Results old c result new
  pub reply_is : reply ≡ reply_text word result

-- the same for what a line asks: no word, or the one at fault
abbrev pub Replies : SessionState → Request → List ℕ → SessionState → Type 0
Replies old (Plain c) reply new = RepliesWith (λ refused. None) old c reply new
Replies old (Naming c ws) reply new = RepliesWith (word_at_fault old c ws) old c reply new

-- the same for a line
unfoldable pub Answers : SessionState → List ℕ → List ℕ → SessionState → Type 0
Answers old line reply new = Replies old (request_by old.tools line) reply new

-- the command ends the session
abbrev pub is_quit : Command → Bool
is_quit command.Quit = true
is_quit _ = false

-- so does the line, by whether the questions of tools are known
unfoldable pub ends : Bool → List ℕ → Bool
ends tools line = is_quit (command_in (request_by tools line))

-- From this state a session may write this for these lines: a reply for each, in order, up to and with the one for the
-- line that ends it.
abbrev pub Transcript : SessionState → List (List ℕ) → List ℕ → Type 0
Transcript old [] out = out ≡ []
Transcript old (line ∷ lines) out =
    (reply : List ℕ) × (new : SessionState) × (rest : List ℕ) × Answers old line reply new × (out ≡ reply ++ rest)
    × MatchBool (ends old.tools line) (rest ≡ []) (Transcript new lines rest)
