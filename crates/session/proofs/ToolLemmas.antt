-- The questions of tools.
use Rattle.std.proofs.Common.{◌≡◌, ◌≢◌, ℕ, List, [], ◌∷◌, ◌++◌, length, Bool, true, false, cond, find, Option, Some, None, Result, Ok, Err, refl, sym, ap, subst, ◌∙◌, arith, append_assoc, zero, suc, ◌<◌}
use Rattle.std.specs.Prelude.{IfSome, IsSome, option_map, slice_get}
use Rattle.std.specs.List.{list_all, list_any}
use Rattle.devices.specs.Outgoing.{Adds, Outgoing}
use Rattle.fourstate.specs.declared.value.Value.{Value}
use Rattle.fourstate.specs.Values.{same_value}
use Rattle.gatestep.specs.Step.{advance}
use Rattle.waveform.specs.Entries.{standing}
use Rattle.waveform.specs.kept.Timelines.{IsTimeline}
use Rattle.scratch.specs.Run.{wave_of}
use Rattle.design.specs.Names.{same_name}
use Rattle.design.specs.Netlist.{GateEntry, NetEntry, Netlist, has_net, net_named}
use Rattle.edits.specs.declared.fault.EditFault.{EditFault}
use Rattle.listing.specs.Lines.{gate_line}
use Rattle.session.specs.declared.commands.command.Command.{Command}
use Rattle.session.specs.declared.commands.command.Command.TheVariants as command
use Rattle.session.specs.declared.commands.command.TheConstants.{LINE_LIMIT}
use Rattle.session.specs.declared.commands.edit_line.EditLine.{EditLine}
use Rattle.session.specs.declared.commands.question.Question.{Question}
use Rattle.session.specs.declared.commands.question.Question.TheVariants as question
use Rattle.session.specs.declared.commands.request.Request.{Request}
use Rattle.session.specs.declared.commands.request.Request.TheVariants.{Naming, Plain}
use Rattle.session.specs.declared.commands.verb.AskVerb.{AskVerb}
use Rattle.session.specs.declared.commands.verb.AskVerb.TheVariants as ask
use Rattle.session.specs.declared.commands.verb.Verb.{Verb}
use Rattle.session.specs.declared.commands.verb.Verb.TheVariants as verb
use Rattle.std.specs.Prelude.{nat_lt, option_and_then}
use Rattle.std.specs.Option.{option_map_or}
use Rattle.session.specs.Commands.{ask_of, at_command, change_of, command_of, command_within, question_in, question_of, question_with, verb_command, words_command}
use Rattle.session.specs.EditLines.{edit_line_of}
use Rattle.session.specs.Lines.{without_return}
use Rattle.session.specs.kept.State.{asks_diff, is_diff}
use Rattle.session.specs.Verbs.{verb_of}
use Rattle.session.specs.Words.{are_skipped, is_plain, name_and_time, no_words, number_of, one_word, three_words, value_of, words}
use Rattle.session.specs.declared.replies.refusal.Refusal.TheVariants as refusal
use Rattle.session.specs.Replies.{ok_line}
use Rattle.std.proofs.lemmas.Bool.Decides.{nat_tests}
use Rattle.bench.specs.Benches.{SnapshotRecord}
use Rattle.differences.specs.Differences.{difference_lines}
use Rattle.edits.specs.declared.fault.EditFault.TheVariants.{TimeTooLarge, UnknownNet}
use Rattle.session.specs.declared.commands.question.ChangeName.{ChangeName}
use Rattle.session.specs.ToolAnswers.{change_by, diff_result, gate_asked, lines_result}
use Rattle.session.specs.kept.ToolAnswers.{IsChange, IsChangeOf, Tells}
use Rattle.session.specs.ToolCommands.{command_in, read_further, request_by}

-- Reading.

pub read_as_ever : (tools : Bool) (line : List ℕ) (c : Command) → c ≢ command.Unreadable → read_further tools line c ≡ Plain c
read_as_ever false line c readable = refl
read_as_ever true line command.Unreadable readable = absurd (readable refl)
read_as_ever true line _ readable = refl

pub long_as_ever : (tools : Bool) (line : List ℕ) → read_further tools line command.TooLong ≡ Plain command.TooLong
long_as_ever false line = refl
long_as_ever true line = refl

-- What differs is asked only where the questions of tools are known.

mapped : {A : Type 0} (f : A → Question) → ((a : A) → is_diff (f a) ≡ false) → (o : Option A) → option_map_or is_diff (option_map f o) false ≡ false
mapped f none None = refl
mapped f none (Some a) = none a

chained : {A : Type 0} (f : A → Option Question) → ((a : A) → option_map_or is_diff (f a) false ≡ false) → (o : Option A)
    → option_map_or is_diff (option_and_then f o) false ≡ false
chained f none None = refl
chained f none (Some a) = none a

tested : (b : Bool) → option_map_or is_diff (cond b (Some question.Vcd) None) false ≡ false
tested true = refl
tested false = refl

by_ask : (v : AskVerb) (ws : List (List ℕ)) → option_map_or is_diff (question_of v ws) false ≡ false
by_ask ask.Value ws = mapped _ (λ w. refl) (name_and_time ws)
by_ask ask.Wave ws = mapped _ (λ net. refl) (one_word ws)
by_ask ask.Next ws = mapped _ (λ w. refl) (name_and_time ws)
by_ask ask.Prev ws = mapped _ (λ w. refl) (name_and_time ws)
by_ask ask.Seek ws = chained _ (λ w. chained _ (λ time. mapped _ (λ v. refl) (value_of w.2)) (number_of w.1)) (three_words ws)
by_ask ask.Vcd ws = tested (no_words ws)

by_verb : (v : Verb) (ws : List (List ℕ)) → option_map_or is_diff (question_with v ws) false ≡ false
by_verb (verb.Ask v) ws = by_ask v ws
by_verb _ ws = refl

by_words : (ws : List (List ℕ)) → option_map_or is_diff (question_in ws) false ≡ false
by_words [] = refl
by_words (word ∷ ws) = chained _ (λ v. by_verb v ws) (verb_of word)

asked : (o : Option Question) → option_map_or is_diff o false ≡ false → asks_diff (ask_of o) ≡ false
asked None none = refl
asked (Some q) none = none

asked_at : (name : List ℕ) (o : Option Question) → option_map_or is_diff o false ≡ false → asks_diff (option_map_or (λ q. command.At name q) o command.Unreadable) ≡ false
asked_at name None none = refl
asked_at name (Some q) none = none

in_at : (ws : List (List ℕ)) → asks_diff (at_command ws) ≡ false
in_at [] = refl
in_at (name ∷ ws) = asked_at name (question_in ws) (by_words ws)

either : (b : Bool) (c d : Command) → asks_diff c ≡ false → asks_diff d ≡ false → asks_diff (cond b c d) ≡ false
either true c d e f = e
either false c d e f = f

edits : (o : Option EditLine) → asks_diff (change_of o) ≡ false
edits None = refl
edits (Some line) = refl

named : (f : List ℕ → Command) → ((name : List ℕ) → asks_diff (f name) ≡ false) → (o : Option (List ℕ)) → asks_diff (option_map_or f o command.Unreadable) ≡ false
named f none None = refl
named f none (Some name) = none name

in_verb : (v : Verb) (ws : List (List ℕ)) → asks_diff (verb_command v ws) ≡ false
in_verb (verb.Edit v) ws = edits (edit_line_of v ws)
in_verb verb.Begin ws = either (no_words ws) command.Begin command.Unreadable refl refl
in_verb verb.Commit ws = either (no_words ws) command.Commit command.Unreadable refl refl
in_verb verb.Abort ws = either (no_words ws) command.Abort command.Unreadable refl refl
in_verb (verb.Ask v) ws = asked (question_of v ws) (by_ask v ws)
in_verb verb.Hold ws = named (λ name. command.Hold name) (λ name. refl) (one_word ws)
in_verb verb.Free ws = named (λ name. command.Free name) (λ name. refl) (one_word ws)
in_verb verb.At ws = in_at ws
in_verb verb.Quit ws = either (no_words ws) command.Quit command.Unreadable refl refl

found : (o : Option Verb) (ws : List (List ℕ)) → asks_diff (option_map_or (λ v. verb_command v ws) o command.Unreadable) ≡ false
found None ws = refl
found (Some v) ws = in_verb v ws

in_words : (ws : List (List ℕ)) → asks_diff (words_command ws) ≡ false
in_words [] = refl
in_words (word ∷ ws) = found (verb_of word) ws

in_line : (line : List ℕ) → asks_diff (command_within line) ≡ false
in_line line =
    either (are_skipped (words line)) command.Skip (cond (list_all is_plain line) (words_command (words line)) command.Unreadable) refl
    (either (list_all is_plain line) (words_command (words line)) command.Unreadable (in_words (words line)) refl)

plainly : (line : List ℕ) → asks_diff (command_of line) ≡ false
plainly line = either (nat_lt LINE_LIMIT (length line)) command.TooLong (command_within (without_return line)) refl (in_line (without_return line))

diff_of_tools : (tools : Bool) (line : List ℕ) → asks_diff (command_in (request_by tools line)) ≡ true → tools ≡ true
diff_of_tools true line asks = refl
diff_of_tools false line asks = absurd (cc (plainly line))

pub diff_plain : (c : Command) (tools : Bool) (line : List ℕ) → Plain c ≡ request_by tools line → asks_diff c ≡ true → tools ≡ true
diff_plain c tools line is asks = diff_of_tools tools line (ap (λ (r : Request). asks_diff (command_in r)) (sym is) ∙ asks)

pub diff_naming : (c : Command) (ws : List (List ℕ)) (tools : Bool) (line : List ℕ) → Naming c ws ≡ request_by tools line → asks_diff c ≡ true → tools ≡ true
diff_naming c ws tools line is asks = diff_of_tools tools line (ap (λ (r : Request). asks_diff (command_in r)) (sym is) ∙ asks)

-- Answering.

both : (a b c : Outgoing) (x y : List ℕ) → Adds a b x → Adds b c y → Adds a c (x ++ y)
both a b c x y first second =
    let texts : c.text ≡ a.text ++ (x ++ y) = ap (λ w. w.text) second ∙ (ap (λ t. t ++ y) (ap (λ w. w.text) first) ∙ append_assoc a.text x y) in
    cc (first, second)

-- the lines were written, and then the version
pub told : (version : ℕ) (wanted : Result (List ℕ) EditFault) (a b c : Outgoing) → Tells wanted a b (Ok tt) → Adds b c (ok_line version)
    → Tells (lines_result version wanted) a c (Ok tt)
told version (Ok lines) a b c tells adds = both a b c lines (ok_line version) tells adds
told version (Err fault) a b c tells adds = absurd tells

-- nothing was written
pub told_why : (version : ℕ) (wanted : Result (List ℕ) EditFault) (fault : EditFault) (a b : Outgoing) → Tells wanted a b (Err fault)
    → Tells (lines_result version wanted) a b (Err (refusal.Edit fault))
told_why version (Ok lines) fault a b tells = absurd tells
told_why version (Err wanted) fault a b tells = (ap refusal.Edit tells.0, tells.1)

some_within : {X : Type 0} (xs : List X) (i : ℕ) → i < length xs → IsSome (slice_get xs i)
some_within [] i within = absurd (omega arith)
some_within (x ∷ xs) zero within = refl
some_within (x ∷ xs) (suc i) within = some_within xs i (omega arith)

-- What made a change, and what it led to.

pub no_net : (s : SnapshotRecord) (change : ChangeName) → net_named s.design change.net ≡ None → IsChange s change (Err UnknownNet)
no_net s change none = λ lines. ap (change_by s change.time lines) none

past_by : (s : SnapshotRecord) (t : ℕ) (lines : NetEntry → List ℕ) (o : Option NetEntry) → IsSome o → nat_lt s.design.horizon t ≡ true → change_by s t lines o ≡ Err TimeTooLarge
past_by s t lines None some late = absurd (cc)
past_by s t lines (Some n) some late = rw late refl

pub past : (s : SnapshotRecord) (change : ChangeName) → IsSome (net_named s.design change.net) → s.design.horizon < change.time → IsChange s change (Err TimeTooLarge)
past s change some late =
    let over : nat_lt s.design.horizon change.time ≡ true = grind (arith, nat_tests) in
    λ lines. past_by s change.time lines (net_named s.design change.net) some over

change_by_net : (s : SnapshotRecord) (t : ℕ) (lines : NetEntry → List ℕ) (o : Option NetEntry) (a b c : Outgoing) → IsSome o → IfSome o (λ n. Adds a b (lines n))
    → nat_lt s.design.horizon t ≡ false → Adds b c (ok_line s.version) → Tells (lines_result s.version (change_by s t lines o)) a c (Ok tt)
change_by_net s t lines None a b c some adds within ok = absurd (cc)
change_by_net s t lines (Some n) a b c some adds within ok = rw within (both a b c (lines n) (ok_line s.version) adds ok)

pub change_told : (s : SnapshotRecord) (change : ChangeName) (lines : NetEntry → List ℕ) (place : ℕ) (a b c : Outgoing) → IsChangeOf s change place
    → IfSome (slice_get s.design.nets place) (λ n. Adds a b (lines n)) → Adds b c (ok_line s.version)
    → Tells (lines_result s.version (change_by s change.time lines (net_named s.design change.net))) a c (Ok tt)
change_told s change lines place a b c is adds ok =
    let by_then = is.time_within in
    let within : nat_lt s.design.horizon change.time ≡ false = grind (arith, nat_tests) in
    let P : Option NetEntry → Type 0 = λ o. Tells (lines_result s.version (change_by s change.time lines o)) a c (Ok tt) in
    subst P is.net (change_by_net s change.time lines (slice_get s.design.nets place) a b c (some_within s.design.nets place is.place_within) adds within ok)

pub change_told_why : (s : SnapshotRecord) (change : ChangeName) (lines : NetEntry → List ℕ) (fault : EditFault) (a : Outgoing) → IsChange s change (Err fault)
    → Tells (lines_result s.version (change_by s change.time lines (net_named s.design change.net))) a a (Err (refusal.Edit fault))
change_told_why s change lines fault a is =
    let P : Result (List ℕ) EditFault → Type 0 = λ r. Tells (lines_result s.version r) a a (Err (refusal.Edit fault)) in subst P (sym (is lines)) (refl, refl)

-- what differs
pub diff_told : (s other : SnapshotRecord) (o : Option SnapshotRecord) (a b c : Outgoing) → o ≡ Some other → Adds a b (difference_lines s.design other.design)
    → Adds b c (ok_line s.version) → Tells (diff_result s o) a c (Ok tt)
diff_told s other o a b c is adds ok =
    let P : Option SnapshotRecord → Type 0 = λ o. Tells (diff_result s o) a c (Ok tt) in
    subst P (sym is) (both a b c (difference_lines s.design other.design) (ok_line s.version) adds ok)

gate_by : (a b : Outgoing) (o : Option GateEntry) → IsSome o → IfSome o (λ g. Adds a b (gate_line g)) → Tells (gate_asked o) a b (Ok tt)
gate_by a b None some adds = absurd (cc)
gate_by a b (Some g) some adds = adds

pub gate_told : (a b : Outgoing) (gates : List GateEntry) (place : ℕ) (o : Option GateEntry) → place < length gates → slice_get gates place ≡ o
    → IfSome (slice_get gates place) (λ g. Adds a b (gate_line g)) → Tells (gate_asked o) a b (Ok tt)
gate_told a b gates place o within found adds =
    subst (λ (p : Option GateEntry). Tells (gate_asked p) a b (Ok tt)) found (gate_by a b (slice_get gates place) (some_within gates place within) adds)

any_by : (p : NetEntry → Bool) (x : NetEntry) (xs : List NetEntry) (b : Bool) → p x ≡ b → (list_any p xs ≡ true → IsSome (find p xs)) → list_any p (x ∷ xs) ≡ true → IsSome (find p (x ∷ xs))
any_by p x xs true e rest any = rw e refl
any_by p x xs false e rest any = rw e (rest (rw e at any))

any_find : (p : NetEntry → Bool) (xs : List NetEntry) → list_any p xs ≡ true → IsSome (find p xs)
any_find p [] any = cc
any_find p (x ∷ xs) any = any_by p x xs (p x) refl (any_find p xs) any

pub net_found : (d : Netlist) (name : List ℕ) (o : Option NetEntry) → o ≡ net_named d name → has_net d name ≡ true → IsSome o
net_found d name o e there = subst (λ (o : Option NetEntry). IsSome o) (sym e) (any_find (λ n. same_name n.name name) d.nets there)

-- the wave of a net is a timeline
pub wave_timeline : (d : Netlist) (o : Option NetEntry) (wave : List (ℕ × Value)) → Some wave ≡ option_map (wave_of advance d) o
    → ((n : NetEntry) → IsTimeline same_value standing (wave_of advance d n)) → IsTimeline same_value standing wave
wave_timeline d None wave found each = absurd (cc)
wave_timeline d (Some n) wave found each =
    let same : wave_of advance d n ≡ wave = cc in subst (λ (w : List (ℕ × Value)). IsTimeline same_value standing w) same (each n)
