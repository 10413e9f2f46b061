-- Answers of a session.
use Rattle.std.proofs.Common.{◌≡◌, ◌⊎◌, inl, inr, ℕ, List, [], ◌∷◌, Bool, true, false, Option, None, Some, Result, Ok, Err, refl, sym, ap, subst, ◌∙◌, append-nil}
use Rattle.std.specs.Prelude.{IsOk, MatchResult, is_some}
use Rattle.design.specs.Netlist.{Netlist}
use Rattle.devices.specs.Outgoing.{Adds, Outgoing}
use Rattle.edits.specs.declared.edit.Edit.{Edit}
use Rattle.edits.specs.declared.fault.EditFault.{EditFault}
use Rattle.edits.specs.declared.fault.EditFault.TheVariants.{OutOfMemory}
use Rattle.bench.specs.Benches.{SnapshotRecord}
use Rattle.bench.specs.Commits.{commit_of}
use Rattle.bench.specs.Refusals.{MayRefuse}
use Rattle.bench.specs.declared.fault.CommitFault.{CommitFault}
use Rattle.bench.specs.declared.fault.CommitFault.TheVariants as commit
use Rattle.session.specs.declared.commands.command.Command.{Command}
use Rattle.session.specs.declared.commands.command.Command.TheVariants as command
use Rattle.session.specs.declared.commands.edit_line.EditLine.{EditLine}
use Rattle.session.specs.declared.commands.request.Request.{Request}
use Rattle.session.specs.declared.commands.request.Request.TheVariants.{Naming, Plain}
use Rattle.session.specs.declared.replies.refusal.Refusal.{Refusal}
use Rattle.session.specs.declared.replies.refusal.Refusal.TheVariants as refusal
use Rattle.session.specs.EditLines.{edit_of}
use Rattle.session.specs.Refused.{Comes, takes_memory}
use Rattle.session.specs.kept.Refused.{MayRefuseCommit, refusal_of}
use Rattle.session.specs.Replies.{ok_line, refusal_line}
use Rattle.session.specs.State.{Answers, Concludes, Replies, RepliesWith, Results, SessionState, done_result, ends, is_quit, reply_text}
use Rattle.session.specs.Standing.{with_batch}
use Rattle.session.specs.Steps.{batch_step, commit_result, commit_step, edit_step, step}
use Rattle.session.specs.kept.Talk.{Answered, CarriedOut, Committed, Replied}
use Rattle.session.specs.kept.ToolAnswers.{Tells}
use Rattle.session.specs.ToolCommands.{command_in, request_by}
use Rattle.session.specs.WordsAtFault.{asked_word, batch_word, change_word, commit_word, word_at_fault}
use Rattle.session.specs.kept.WordsAtFault.{commits_edits}

-- a command that came to a result
pub concludes : (old new : SessionState) (c : Command) (done : Result (Unit {0}) Refusal) → Comes old new c done
    → Concludes old c (done_result new.present.version done) new
concludes old new c done comes = record { done = done; comes = comes; result_is = refl }

-- the reply to what a line asks is the line's
pub answers_line : {old new : SessionState} {line : List ℕ} {r : Request} {b a : Outgoing} → r ≡ request_by old.tools line → Replied old new r b a → Answered old new line b a
unfolding Answers
answers_line {old = old} {new = new} is replied =
    let P : Request → Type 0 = λ r. Replies old r replied.reply new in
    record { reply = replied.reply; answers = subst P is replied.replies; adds = replied.adds }

pub ends_plain : (c : Command) (tools : Bool) (line : List ℕ) → Plain c ≡ request_by tools line → is_quit c ≡ ends tools line
unfolding ends
ends_plain c tools line is = ap (λ (r : Request). is_quit (command_in r)) is

pub ends_naming : (c : Command) (ws : List (List ℕ)) (tools : Bool) (line : List ℕ) → Naming c ws ≡ request_by tools line → is_quit c ≡ ends tools line
unfolding ends
ends_naming c ws tools line is = ap (λ (r : Request). is_quit (command_in r)) is

-- Commands that change nothing.

pub skipped : (s : SessionState) (c : Command) (w : Outgoing) → c ≡ command.Skip → CarriedOut s s c w w (Ok tt)
skipped s c w is =
    let P : Command → Type 0 = λ c. CarriedOut s s c w w (Ok tt) in
    let skip : CarriedOut s s command.Skip w w (Ok tt) =
    record { result = Ok []; results = record { result_is = refl; state_is = refl }; tells = ap (λ text. record w { text = text }) (sym (append-nil w.text)) } in
    subst P (sym is) skip

pub has_quit : (s : SessionState) (c : Command) (version : ℕ) (w w' : Outgoing) → c ≡ command.Quit → version ≡ s.present.version → Adds w w' (ok_line version)
    → CarriedOut s s c w w' (Ok tt)
has_quit s c version w w' is v adds =
    let P : Command → Type 0 = λ c. CarriedOut s s c w w' (Ok tt) in
    let Q : ℕ → Type 0 = λ v. Adds w w' (ok_line v) in
    let quit : CarriedOut s s command.Quit w w' (Ok tt) =
    record { result = Ok (ok_line s.present.version); results = record { result_is = refl; state_is = refl }; tells = subst Q v adds } in
    subst P (sym is) quit

pub unread : (s : SessionState) (c : Command) (w : Outgoing) → c ≡ command.Unreadable → CarriedOut s s c w w (Err refusal.BadCommand)
unread s c w is =
    let P : Command → Type 0 = λ c. CarriedOut s s c w w (Err refusal.BadCommand) in
    let bad : CarriedOut s s command.Unreadable w w (Err refusal.BadCommand) =
    record { result = Err refusal.BadCommand; results = record { result_is = refl; state_is = refl }; tells = (refl, refl) } in
    subst P (sym is) bad

pub too_long : (s : SessionState) (c : Command) (w : Outgoing) → c ≡ command.TooLong → CarriedOut s s c w w (Err refusal.LongLine)
too_long s c w is =
    let P : Command → Type 0 = λ c. CarriedOut s s c w w (Err refusal.LongLine) in
    let long : CarriedOut s s command.TooLong w w (Err refusal.LongLine) =
    record { result = Err refusal.LongLine; results = record { result_is = refl; state_is = refl }; tells = (refl, refl) } in
    subst P (sym is) long

-- Replies to commands that were carried out, or refused.

-- a reply, where this word stands behind a refusal
abbrev pub RepliedWith : (Refusal → Option (List ℕ)) → SessionState → SessionState → Command → Outgoing → Outgoing → Type 0
RepliedWith word old new c b a = (reply : List ℕ) × RepliesWith word old c reply new × Adds b a reply

done_by : (word : Refusal → Option (List ℕ)) (old new : SessionState) (c : Command) (b a : Outgoing) (result : Result (List ℕ) Refusal) → Results old c result new
    → Tells result b a (Ok tt) → RepliedWith word old new c b a
done_by word old new c b a (Ok lines) results tells = (lines, record { result = Ok lines; results = results; reply_is = refl }, tells)
done_by word old new c b a (Err refused) results tells = absurd tells

refused_by : (word : Refusal → Option (List ℕ)) (old new : SessionState) (c : Command) (b m a : Outgoing) (refused : Refusal) (result : Result (List ℕ) Refusal)
    → Results old c result new → Tells result b m (Err refused) → Adds m a (refusal_line refused (word refused)) → RepliedWith word old new c b a
refused_by word old new c b m a refused (Ok lines) results tells adds = absurd tells
refused_by word old new c b m a refused (Err wanted) results tells adds =
    let P : Refusal → Type 0 = λ r. Adds m a (refusal_line r (word r)) in
    let Q : Outgoing → Type 0 = λ w. Adds w a (refusal_line wanted (word wanted)) in
    (refusal_line wanted (word wanted), record { result = Err wanted; results = results; reply_is = refl }, subst Q tells.1 (subst P tells.0 adds))

-- Plain ones.

pub plainly_done : (old new : SessionState) (c : Command) (b a : Outgoing) → CarriedOut old new c b a (Ok tt) → Replied old new (Plain c) b a
plainly_done old new c b a carried =
    let made = done_by (λ refused. None) old new c b a carried.result carried.results carried.tells in
    record { reply = made.0; replies = made.1; adds = made.2 }

pub plainly_refused : (old new : SessionState) (c : Command) (b m a : Outgoing) (refused : Refusal) → CarriedOut old new c b m (Err refused)
    → Adds m a (refusal_line refused None) → Replied old new (Plain c) b a
plainly_refused old new c b m a refused carried adds =
    let made = refused_by (λ refused. None) old new c b m a refused carried.result carried.results carried.tells adds in
    record { reply = made.0; replies = made.1; adds = made.2 }

-- Those that commit no edits, and name the word at fault.

asked_is : (s : SessionState) (c : Command) (ws : List (List ℕ)) (r : Refusal) → commits_edits c ≡ false → asked_word s c ws r ≡ word_at_fault s c ws r
asked_is s (command.Change line) ws r none = absurd (cc)
asked_is s command.Commit ws r none = absurd (cc)
asked_is s _ ws r none = refl

unmoved_by : (old new : SessionState) (c : Command) (refused : Refusal) (done : Result (Unit {0}) Refusal) → commits_edits c ≡ false → Comes old new c done
    → Err refused ≡ done_result new.present.version done → new ≡ old
unmoved_by old new c refused (Ok done) none comes is = absurd (cc)
unmoved_by old new command.Commit refused (Err r) none comes is = absurd (cc)
unmoved_by old new _ refused (Err r) none comes is = comes.0

concluded : (old new : SessionState) (c : Command) (refused : Refusal) → commits_edits c ≡ false → Concludes old c (Err refused) new → new ≡ old
concluded old new c refused none results = unmoved_by old new c refused results.done none results.comes results.result_is

unmoved : (old new : SessionState) (c : Command) (refused : Refusal) → commits_edits c ≡ false → Results old c (Err refused) new → new ≡ old
unmoved old new command.Skip refused none results = results.state_is
unmoved old new (command.Ask asked) refused none results = results.state_is
unmoved old new (command.At name asked) refused none results = results.state_is
unmoved old new command.Quit refused none results = results.state_is
unmoved old new command.Unreadable refused none results = results.state_is
unmoved old new command.TooLong refused none results = results.state_is
unmoved old new command.Begin refused none results = concluded old new command.Begin refused none results
unmoved old new command.Abort refused none results = concluded old new command.Abort refused none results
unmoved old new (command.Hold name) refused none results = concluded old new (command.Hold name) refused none results
unmoved old new (command.Free name) refused none results = concluded old new (command.Free name) refused none results
unmoved old new (command.Change line) refused none results = absurd (cc)
unmoved old new command.Commit refused none results = absurd (cc)

moved_by : (old new : SessionState) (c : Command) (b m : Outgoing) (refused : Refusal) (result : Result (List ℕ) Refusal) → commits_edits c ≡ false
    → Results old c result new → Tells result b m (Err refused) → new ≡ old
moved_by old new c b m refused (Ok lines) none results tells = absurd tells
moved_by old new c b m refused (Err wanted) none results tells = unmoved old new c wanted none results

pub naming_done : (old new : SessionState) (c : Command) (ws : List (List ℕ)) (b a : Outgoing) → CarriedOut old new c b a (Ok tt) → Replied old new (Naming c ws) b a
naming_done old new c ws b a carried =
    let made = done_by (word_at_fault old c ws) old new c b a carried.result carried.results carried.tells in
    record { reply = made.0; replies = made.1; adds = made.2 }

-- the word is found in the state after the command, which is the one before it
pub naming_refused : (old new : SessionState) (c : Command) (ws : List (List ℕ)) (b m a : Outgoing) (refused : Refusal) (word : Option (List ℕ)) → commits_edits c ≡ false
    → CarriedOut old new c b m (Err refused) → word ≡ asked_word new c ws refused → Adds m a (refusal_line refused word) → Replied old new (Naming c ws) b a
naming_refused old new c ws b m a refused word none carried is adds =
    let same : new ≡ old = moved_by old new c b m refused carried.result none carried.results carried.tells in
    let named : word ≡ word_at_fault old c ws refused =
    is ∙ ap (λ (s : SessionState). asked_word s c ws refused) same ∙ asked_is old c ws refused none in
    let P : Option (List ℕ) → Type 0 = λ w. Adds m a (refusal_line refused w) in
    let made = refused_by (word_at_fault old c ws) old new c b m a refused carried.result carried.results carried.tells (subst P named adds) in
    record { reply = made.0; replies = made.1; adds = made.2 }

-- Commits that name the word at fault.

accepts_by : (s : SessionState) (made : Result Netlist (ℕ × EditFault)) → IsOk made → IsOk (commit_result s made)
accepts_by s (Ok d) ok = ok
accepts_by s (Err refused) ok = ok

may_refuse : (s : SessionState) (edits : List Edit) (f : CommitFault) → MayRefuse s.present edits f → MayRefuseCommit s edits (refusal_of f)
may_refuse s edits (commit.Edit place f) may = inl (ap (commit_result s) may)
may_refuse s edits commit.OutOfMemory may = inr refl
may_refuse s edits commit.WorkerLost may = accepts_by s (commit_of s.present.version s.present.design edits) may

pub committed : (old new : SessionState) (edits : List Edit) (version : ℕ) (b a : Outgoing) → commit_step old edits ≡ Ok new → version ≡ new.present.version
    → Adds b a (ok_line version) → Committed old new edits b a
committed old new edits version b a step is adds =
    let P : ℕ → Type 0 = λ v. Adds b a (ok_line v) in record { done = Ok tt; came = step; adds = subst P is adds }

pub not_committed : (old new : SessionState) (edits : List Edit) (f : CommitFault) (r : Refusal) (word : Option (List ℕ)) (b a : Outgoing) → new ≡ old
    → MayRefuse old.present edits f → r ≡ refusal_of f → word ≡ commit_word old.present edits r → Adds b a (refusal_line r word) → Committed old new edits b a
not_committed old new edits f r word b a same may is named adds =
    let P : Refusal → Type 0 = λ r. MayRefuseCommit old edits r in
    let Q : Option (List ℕ) → Type 0 = λ w. Adds b a (refusal_line r w) in
    record { done = Err r; came = (same, subst P (sym is) (may_refuse old edits f may)); adds = subst Q named adds }

pub no_memory : (old new : SessionState) (edits : List Edit) (b a : Outgoing) → new ≡ old → Adds b a (refusal_line (refusal.Edit OutOfMemory) None) → Committed old new edits b a
no_memory old new edits b a same adds = record { done = Err (refusal.Edit OutOfMemory); came = (same, inr refl); adds = adds }

abbrev pub Came : SessionState → SessionState → List Edit → Result (Unit {0}) Refusal → Type 0
Came old new edits done = MatchResult done (λ _. commit_step old edits ≡ Ok new) (λ refused. (new ≡ old) × MayRefuseCommit old edits refused)

-- An edit outside a batch is a commit by itself.

edit_refused : (old : SessionState) (line : EditLine) (f : EditFault) → old.batch ≡ None
    → (commit_step old (edit_of line ∷ []) ≡ Err (refusal.Edit f)) ⊎ (f ≡ OutOfMemory)
    → (step old (command.Change line) ≡ Err (refusal.Edit f)) ⊎ ((f ≡ OutOfMemory) × (takes_memory old (command.Change line) ≡ true))
edit_refused old line f none (inl refused) = inl (ap (λ (b : Option (List Edit)). edit_step old b (edit_of line)) none ∙ refused)
edit_refused old line f none (inr out) = inr (out, rw none refl)

change_comes : (old new : SessionState) (line : EditLine) (done : Result (Unit {0}) Refusal) → old.batch ≡ None → Came old new (edit_of line ∷ []) done
    → Comes old new (command.Change line) done
change_comes old new line (Ok done) none came = ap (λ (b : Option (List Edit)). edit_step old b (edit_of line)) none ∙ came
change_comes old new line (Err (refusal.Edit f)) none came = (came.0, edit_refused old line f none came.1)
change_comes old new line (Err refusal.WorkerLost) none came =
    let P : Option (List Edit) → Type 0 = λ b. IsOk (edit_step old b (edit_of line)) in (came.0, (rw none refl, subst P (sym none) came.1))
change_comes old new line (Err _) none came = absurd came.1

pub change_named : (old new : SessionState) (line : EditLine) (ws : List (List ℕ)) (b a : Outgoing) → old.batch ≡ None → Committed old new (edit_of line ∷ []) b a
    → Replied old new (Naming (command.Change line) ws) b a
change_named old new line ws b a none made =
    let result = done_result new.present.version made.done in
    let word : reply_text (commit_word old.present (edit_of line ∷ [])) result ≡ reply_text (word_at_fault old (command.Change line) ws) result =
    ap (λ (batch : Option (List Edit)). reply_text (change_word old.present batch (edit_of line)) result) (sym none) in
    record {
      reply = reply_text (commit_word old.present (edit_of line ∷ [])) result;
      replies = record {
        result = result;
        results = record { done = made.done; comes = change_comes old new line made.done none made.came; result_is = refl };
        reply_is = word;
      };
      adds = made.adds;
    }

-- In a batch it is kept, or no word is at fault.

nameless : (s : SnapshotRecord) (batch : Option (List Edit)) (e : Edit) (result : Result (List ℕ) Refusal) → is_some batch ≡ true
    → reply_text (λ refused. None) result ≡ reply_text (change_word s batch e) result
nameless s None e result some = absurd (cc)
nameless s (Some edits) e (Ok lines) some = refl
nameless s (Some edits) e (Err refused) some = refl

pub keep_named : (old new : SessionState) (line : EditLine) (ws : List (List ℕ)) (b a : Outgoing) (done : Result (Unit {0}) Refusal) → is_some old.batch ≡ true
    → Comes old new (command.Change line) done → Adds b a (reply_text (λ refused. None) (done_result new.present.version done))
    → Replied old new (Naming (command.Change line) ws) b a
keep_named old new line ws b a done some comes adds =
    let result = done_result new.present.version done in
    record {
      reply = reply_text (λ refused. None) result;
      replies = record {
        result = result;
        results = record { done = done; comes = comes; result_is = refl };
        reply_is = nameless old.present old.batch (edit_of line) result some;
      };
      adds = adds;
    }

-- The commit of a batch.

batch_refused : (old : SessionState) (edits : List Edit) (f : EditFault) → old.batch ≡ Some edits
    → (commit_step (with_batch old None) edits ≡ Err (refusal.Edit f)) ⊎ (f ≡ OutOfMemory)
    → (step old command.Commit ≡ Err (refusal.Edit f)) ⊎ ((f ≡ OutOfMemory) × (takes_memory old command.Commit ≡ true))
batch_refused old edits f some (inl refused) = inl (ap (batch_step old) some ∙ refused)
batch_refused old edits f some (inr out) = inr (out, ap is_some some)

commit_comes : (old new : SessionState) (edits : List Edit) (done : Result (Unit {0}) Refusal) → old.batch ≡ Some edits → Came (with_batch old None) new edits done
    → Comes old new command.Commit done
commit_comes old new edits (Ok done) some came = ap (batch_step old) some ∙ came
commit_comes old new edits (Err (refusal.Edit f)) some came = (came.0, batch_refused old edits f some came.1)
commit_comes old new edits (Err refusal.WorkerLost) some came =
    let P : Option (List Edit) → Type 0 = λ b. IsOk (batch_step old b) in (came.0, (ap is_some some, subst P (sym some) came.1))
commit_comes old new edits (Err _) some came = absurd came.1

pub commit_named : (old left new : SessionState) (edits : List Edit) (ws : List (List ℕ)) (b a : Outgoing) → old.batch ≡ Some edits → left ≡ with_batch old None
    → Committed left new edits b a → Replied old new (Naming command.Commit ws) b a
commit_named old left new edits ws b a some is committed =
    let P : SessionState → Type 0 = λ s. Committed s new edits b a in
    let made = subst P is committed in
    let result = done_result new.present.version made.done in
    let word : reply_text (commit_word old.present edits) result ≡ reply_text (word_at_fault old command.Commit ws) result =
    ap (λ (batch : Option (List Edit)). reply_text (batch_word old.present batch) result) (sym some) in
    record {
      reply = reply_text (commit_word old.present edits) result;
      replies = record {
        result = result;
        results = record { done = made.done; comes = commit_comes old new edits made.done some made.came; result_is = refl };
        reply_is = word;
      };
      adds = made.adds;
    }

-- a session of which the batch was taken
pub taken : {v old : SessionState} (batch : Option (List Edit)) → v ≡ old → batch ≡ None → with_batch v batch ≡ with_batch old None
taken {v = v} batch same none = ap (λ (b : Option (List Edit)). with_batch v b) none ∙ ap (λ (s : SessionState). with_batch s None) same

pub no_batch : (old new : SessionState) (ws : List (List ℕ)) (b a : Outgoing) → old.batch ≡ None → new ≡ with_batch old None → Adds b a (refusal_line refusal.NoBatch None)
    → Replied old new (Naming command.Commit ws) b a
no_batch old new ws b a none is adds =
    let word : refusal_line refusal.NoBatch None ≡ refusal_line refusal.NoBatch (word_at_fault old command.Commit ws refusal.NoBatch) =
    ap (λ (batch : Option (List Edit)). refusal_line refusal.NoBatch (batch_word old.present batch refusal.NoBatch)) (sym none) in
    record {
      reply = refusal_line refusal.NoBatch None;
      replies = record {
        result = Err refusal.NoBatch;
        results = record { done = Err refusal.NoBatch; comes = (is, ap (batch_step old) none); result_is = refl };
        reply_is = word;
      };
      adds = adds;
    }
