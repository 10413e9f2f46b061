-- How a session stands in the middle of its input.
use Rattle.std.specs.Prelude.{◌≡◌, Bool, ℕ, ◌+◌, true, false, if◌then◌else◌, List, ◌++◌, take, Option, Some, Result, Ok, MatchResult}
use Rattle.std.specs.List.{list_all, list_any}
use Rattle.std.specs.Io.{StartsWith}
use Rattle.devices.specs.Incoming.{IsAllOf}
use Rattle.devices.specs.kept.Incoming.{Incoming, text_of}
use Rattle.devices.specs.Outgoing.{Outgoing, Adds}
use Rattle.session.specs.declared.commands.command.Command.{Command}
use Rattle.session.specs.declared.commands.request.Request.{Request}
use Rattle.session.specs.declared.replies.refusal.Refusal.{Refusal}
use Rattle.session.specs.declared.talk.line_buffer.TheConstants.{ROOM}
use Rattle.session.specs.declared.talk.feed.Turn.{Turn}
use Rattle.session.specs.declared.talk.feed.Turn.TheVariants as turn
use Rattle.session.specs.declared.talk.exchange.End.{End}
use Rattle.session.specs.declared.talk.exchange.End.TheVariants as end
use Rattle.session.specs.Lines.{lines, unfinished, whole_lines}
use Rattle.edits.specs.declared.edit.Edit.{Edit}
use Rattle.session.specs.kept.Refused.{MayRefuseCommit}
use Rattle.session.specs.State.{SessionState, Answers, Replies, Results, Transcript, done_result, ends, reply_text}
use Rattle.session.specs.kept.State.{Reaches}
use Rattle.session.specs.Steps.{commit_step}
use Rattle.session.specs.WordsAtFault.{commit_word}
use Rattle.session.specs.kept.ToolAnswers.{Tells}
use Rattle.session.specs.Transcripts.{StopsReading, goes_on}
use Rattle.session.specs.Words.{has_bytes}

-- a command was carried out and the lines of its reply were added to the text, or it was refused and nothing was added
pub record CarriedOut (old new : SessionState) (command : Command) (before after : Outgoing) (done : Result (Unit {0}) Refusal) : Type 0 where
  pub result : Result (List ℕ) Refusal
  pub results : Results old command result new
  pub tells : Tells result before after done

-- what a line asks was answered, and the reply added to the text
pub record Replied (old new : SessionState) (request : Request) (before after : Outgoing) : Type 0 where
  pub reply : List ℕ
  pub replies : Replies old request reply new
  pub adds : Adds before after reply

-- the same for a commit of edits, whose refusal names the word at fault
pub record Committed (old new : SessionState) (edits : List Edit) (before after : Outgoing) : Type 0 where
  pub done : Result (Unit {0}) Refusal
  pub came : MatchResult done (λ _. commit_step old edits ≡ Ok new) (λ refused. (new ≡ old) × MayRefuseCommit old edits refused)
  pub adds : Adds before after (reply_text (commit_word old.present edits) (done_result new.present.version done))

-- the same for a line
pub record Answered (old new : SessionState) (line : List ℕ) (before after : Outgoing) : Type 0 where
  pub reply : List ℕ
  pub answers : Answers old line reply new
  pub adds : Adds before after reply

-- A session that opened in the state `first` has read the input: it has answered the whole lines, has written `out` and stands
-- in the state `now`. Of the line that is not finished it keeps as much as shows what it is.
pub record Going (first : SessionState) (input kept : List ℕ) (now : SessionState) (out : List ℕ) : Type 0 where
  pub line : kept ≡ take ROOM (unfinished input)
  pub reaches : Reaches first (whole_lines input) out now

-- a whole line of the input has ended the session: whatever lines follow get no reply
pub record HasQuit (first : SessionState) (input out : List ℕ) : Type 0 where
  pub quits : list_any (ends first.tools) (whole_lines input) ≡ true
  pub transcript : (more : List (List ℕ)) → Transcript first (whole_lines input ++ more) out

-- how the session stands after a turn
abbrev pub Stands : Turn → SessionState → List ℕ → List ℕ → SessionState → List ℕ → Type 0
Stands turn.More first input kept now out = Going first input kept now out
Stands turn.Quit first input kept now out = HasQuit first input out
Stands turn.Finished first input kept now out = Transcript first (lines input) out

-- the input's end has ended the session
abbrev pub is_finished : Turn → Bool
is_finished turn.Finished = true
is_finished _ = false

-- a writer to the same device, which had failed as often before
pub record SameSink (old new : Outgoing) : Type 0 where
  pub loan : new.loan ≡ old.loan
  pub before : new.before ≡ old.before
  pub failures_before : new.failures_before ≡ old.failures_before

-- a reader of the same device, which has failed so often since
pub record SameSource (old new : Incoming) (failed : ℕ) : Type 0 where
  pub loan : new.loan ≡ old.loan
  pub before : new.before ≡ old.before
  pub taken_before : new.taken_before ≡ old.taken_before
  pub failures : new.failures ≡ old.failures + failed

-- the whole text went out
pub record IsSent (w : Outgoing) : Type 0 where
  pub all : w.gone ≡ w.text
  pub goes_on : w.stopped ≡ false

-- The session goes on behind what a reader brought: it has answered the whole lines, and all replies went out.
pub record Waits (first : SessionState) (r : Incoming) (kept : List ℕ) (now : SessionState) (w : Outgoing) : Type 0 where
  pub going : Going first (text_of r) kept now w.text
  pub unended : list_all has_bytes r.pieces ≡ true
  pub sent : IsSent w

-- the sink failed, and a beginning of the replies to the whole lines went out, or to all lines where the input had ended
pub record IsCutShort (first : SessionState) (r : Incoming) (w : Outgoing) : Type 0 where
  pub stops : StopsReading first.tools r.pieces
  pub at_end : has_bytes stops.last ≡ false → IsAllOf r.before (text_of r)
  pub out : List ℕ
  pub transcript : Transcript first (if has_bytes stops.last then whole_lines (text_of r) else lines (text_of r)) out
  pub beginning : StartsWith out w.gone
  pub stopped : w.stopped ≡ true

-- the last piece that came has ended the session
abbrev pub EndsReading : SessionState → Incoming → Type 0
EndsReading first r = StopsReading first.tools r.pieces × (goes_on first.tools r.pieces ≡ false)

-- how a session ends
abbrev pub Ends : End → SessionState → Incoming → Outgoing → Type 0
Ends end.Input first r w = EndsReading first r × IsAllOf r.before (text_of r) × Transcript first (lines (text_of r)) w.text × IsSent w
Ends end.Quit first r w = EndsReading first r × HasQuit first (text_of r) w.text × IsSent w
Ends end.ReadFailed first r w = (goes_on first.tools r.pieces ≡ true) × Transcript first (whole_lines (text_of r)) w.text × IsSent w
Ends end.WriteFailed first r w = IsCutShort first r w

-- how often the source failed at this end
abbrev pub read_failures : Option End → ℕ
read_failures (Some end.ReadFailed) = 1
read_failures _ = 0
