-- How a session goes on, a byte at a time.
use Rattle.std.proofs.Common.{◌≡◌, ◌⊎◌, inl, inr, ◌||◌, ℕ, ◌+◌, ◌<◌, ◌≤◌, List, [], ◌∷◌, ◌++◌, length, take, drop, get_or, Bool, true, false, cond, eqb, refl, sym, ap, subst, ◌∙◌, append_assoc, append-nil, MatchBool, arith, zero, suc, nat_lt}
use Rattle.std.proofs.lemmas.Bool.{eq-eqb, ltb-false}
use Rattle.std.proofs.lemmas.Bool.Decides.{nat_tests}
use Rattle.std.proofs.lemmas.List.{length-append, length-take-le, take_all, take-append-drop, take-append-le, take_more}
use Rattle.std.proofs.lemmas.List.Folds.{list_any-append}
use Rattle.std.specs.List.{list_any}
use Rattle.session.specs.declared.commands.command.Command.{Command}
use Rattle.session.specs.declared.commands.command.Command.TheVariants as command
use Rattle.session.specs.declared.commands.command.TheConstants.{LINE_LIMIT}
use Rattle.session.specs.declared.talk.line_buffer.TheConstants.{ROOM}
use Rattle.session.specs.Commands.{command_of, command_within}
use Rattle.session.specs.Lines.{whole_lines, unfinished, last_line, lines, without_return}
use Rattle.session.specs.State.{SessionState, Answers, Replies, Transcript, ends, is_quit}
use Rattle.session.specs.kept.State.{Reaches, answered, opened}
use Rattle.session.specs.kept.Talk.{Answered, Going, HasQuit, SameSink, SameSource}
use Rattle.devices.specs.kept.Incoming.{Incoming}
use Rattle.devices.specs.Outgoing.{Outgoing, Adds}
use Rattle.session.specs.ToolCommands.{command_in, read_further, request_by}
use Rattle.session.specs.declared.commands.request.Request.{Request}
use Rattle.session.proofs.ToolLemmas.{long_as_ever}
use Rattle.session.proofs.LineLemmas.{cut_byte, cut_feed, take_front, whole_behind}
use Rattle.session.proofs.TranscriptLemmas.{joins, joins_none, same_tools, transcript_last, transcript_quit}

-- a short line and a byte more
pub kept_short : (n : ℕ) (line : List ℕ) (byte : ℕ) → length line < n → line ++ byte ∷ [] ≡ take n (line ++ byte ∷ [])
kept_short n line byte short = sym (take_all n (line ++ byte ∷ []) (omega (arith, length-append line (byte ∷ []))))

-- a line of which enough is kept
pub kept_full : (n : ℕ) (line : List ℕ) (byte : ℕ) → length line ≤ n → n ≤ length line → line ≡ take n (line ++ byte ∷ [])
kept_full n line byte short full = let h : n ≤ length line = full in rw take-append-le (sym (take_all n line short))

chosen : (n : ℕ) (line : List ℕ) (C : List ℕ → Command) (long : Bool) → nat_lt n (length line) ≡ long
    → cond {A = Command} (nat_lt n (length (take (suc n) line))) command.TooLong (C (take (suc n) line)) ≡ cond {A = Command} (nat_lt n (length line)) command.TooLong (C line)
chosen n line C true e =
    let enough : suc n ≤ length line = grind (arith, nat_tests) in
    let still : nat_lt n (length (take (suc n) line)) ≡ true = rw (length-take-le (suc n) line enough) (grind (arith, nat_tests)) in
    rw (still, e) refl
chosen n line C false e =
    let all : take (suc n) line ≡ line = take_all (suc n) line (omega (arith, ltb-false n (length line) e)) in
    rw all refl

command_of_kept : (line : List ℕ) → command_of (take ROOM line) ≡ command_of line
command_of_kept line = chosen LINE_LIMIT line (λ l. command_within (without_return l)) (nat_lt LINE_LIMIT (length line)) refl

by_length : (tools : Bool) (line : List ℕ) (long : Bool) → nat_lt LINE_LIMIT (length line) ≡ long → request_by tools (take ROOM line) ≡ request_by tools line
by_length tools line true e =
    let long : command_of line ≡ command.TooLong = rw e refl in
    ap (read_further tools (take ROOM line)) (command_of_kept line ∙ long) ∙ long_as_ever tools (take ROOM line)
    ∙ sym (ap (read_further tools line) long ∙ long_as_ever tools line)
by_length tools line false e =
    let all : take ROOM line ≡ line = take_all ROOM line (omega (arith, ltb-false LINE_LIMIT (length line) e)) in
    ap (request_by tools) all

request_by_kept : (tools : Bool) (line : List ℕ) → request_by tools (take ROOM line) ≡ request_by tools line
request_by_kept tools line = by_length tools line (nat_lt LINE_LIMIT (length line)) refl

-- what is kept of a line shows what it is
answers_kept : (s s' : SessionState) (line kept reply : List ℕ) → kept ≡ take ROOM line → Answers s kept reply s' → Answers s line reply s'
unfolding Answers
answers_kept s s' line kept reply e answers =
    let P : Request → Type 0 = λ r. Replies s r reply s' in
    subst P (ap (request_by s.tools) e ∙ request_by_kept s.tools line) answers

ends_kept : (tools : Bool) (line kept : List ℕ) → kept ≡ take ROOM line → ends tools kept ≡ ends tools line
unfolding ends
ends_kept tools line kept e = ap (λ (r : Request). is_quit (command_in r)) (ap (request_by tools) e ∙ request_by_kept tools line)

-- Bytes.

-- before the first byte
pub begins : (first : SessionState) → Going first [] [] first []
begins first = record { line = refl; reaches = opened }

-- a byte that is no line feed
stays : {first s : SessionState} {input kept out : List ℕ} (byte : ℕ) → eqb byte 10 ≡ false
    → Going first input kept s out → Going first (input ++ byte ∷ []) (take ROOM (kept ++ byte ∷ [])) s out
stays {first = first} {s = s} {input = input} {out = out} byte e going = record {
  line = ap (λ line. take ROOM (line ++ byte ∷ [])) going.line ∙ take_front ROOM (unfinished input) (byte ∷ [])
      ∙ ap (λ (p : List (List ℕ) × List ℕ). take ROOM p.1) (sym (cut_byte input byte e));
  reaches =
      let P : List (List ℕ) → Type 0 = λ ls. Reaches first ls out s in
      subst P (ap (λ (p : List (List ℕ) × List ℕ). p.0) (sym (cut_byte input byte e))) going.reaches;
}

-- with a line feed the line is whole
one_whole : (input : List ℕ) (byte : ℕ) → eqb byte 10 ≡ true → whole_lines input ++ unfinished input ∷ [] ≡ whole_lines (input ++ byte ∷ [])
one_whole input byte e = ap (λ (p : List (List ℕ) × List ℕ). p.0) (sym (cut_feed input byte e))

one_more : (input : List ℕ) (byte : ℕ) (more : List (List ℕ)) → eqb byte 10 ≡ true
    → whole_lines input ++ unfinished input ∷ more ≡ whole_lines (input ++ byte ∷ []) ++ more
one_more input byte more e =
    sym (append_assoc (whole_lines input) (unfinished input ∷ []) more) ∙ ap (λ ls. ls ++ more) (one_whole input byte e)

none_left : (input : List ℕ) (byte : ℕ) → eqb byte 10 ≡ true → unfinished (input ++ byte ∷ []) ≡ []
none_left input byte e = ap (λ (p : List (List ℕ) × List ℕ). p.1) (cut_feed input byte e)

-- the line feed of a line that does not end the session
goes_on : {first s s' : SessionState} {input kept out : List ℕ} (reply : List ℕ) (byte : ℕ) → eqb byte 10 ≡ true
    → Going first input kept s out → Answers s kept reply s' → ends s.tools kept ≡ false → Going first (input ++ byte ∷ []) [] s' (out ++ reply)
goes_on {first = first} {s = s} {s' = s'} {input = input} {kept = kept} {out = out} reply byte e going answers goes = record {
  line = ap (λ line. take ROOM line) (sym (none_left input byte e));
  reaches =
      let line = unfinished input in
      let P : List (List ℕ) → Type 0 = λ ls. Reaches first ls (out ++ reply) s' in
      subst P (one_whole input byte e)
      (answered line reply going.reaches (answers_kept s s' line kept reply going.line answers) (sym (ends_kept s.tools line kept going.line) ∙ goes));
}

either : (a b : Bool) → (a ≡ true) ⊎ (b ≡ true) → (a || b) ≡ true
either true b e = refl
either false true e = refl
either false false (inl e) = e
either false false (inr e) = e

-- lines of which the last one ends the session
last_ends : (tools : Bool) (done : List (List ℕ)) (line : List ℕ) → ends tools line ≡ true → list_any (ends tools) (done ++ line ∷ []) ≡ true
last_ends tools done line quit =
    list_any-append (ends tools) done (line ∷ [])
    ∙ either (list_any (ends tools) done) (ends tools line || false) (inr (either (ends tools line) false (inl quit)))

-- the line feed of the line that ends the session
quits : {first s : SessionState} {input kept out : List ℕ} (s' : SessionState) (reply : List ℕ) (byte : ℕ) → eqb byte 10 ≡ true
    → Going first input kept s out → Answers s kept reply s' → ends s.tools kept ≡ true → HasQuit first (input ++ byte ∷ []) (out ++ reply)
quits {first = first} {s = s} {input = input} {kept = kept} {out = out} s' reply byte e going answers quit =
    let line = unfinished input in
    let line_ends = sym (ends_kept s.tools line kept going.line) ∙ quit in
    let at_first : ends first.tools line ≡ true = ap (λ (tools : Bool). ends tools line) (sym (same_tools going.reaches)) ∙ line_ends in
    let P : List (List ℕ) → Type 0 = λ ls. Transcript first ls (out ++ reply) in
    record {
      quits = ap (list_any (ends first.tools)) (sym (one_whole input byte e)) ∙ last_ends first.tools (whole_lines input) line at_first;
      transcript = λ more.
          subst P (one_more input byte more e)
          (joins (line ∷ more) reply going.reaches
          (transcript_quit s s' line more reply (answers_kept s s' line kept reply going.line answers) line_ends));
    }

-- The input's end.

nothing_kept : (n : ℕ) (xs : List ℕ) → [] ≡ take (suc n) xs → xs ≡ []
nothing_kept n [] e = refl
nothing_kept n (x ∷ xs) e = cc

-- where no line is left
ends_empty : {first s : SessionState} {input kept out : List ℕ} → Going first input kept s out → kept ≡ [] → Transcript first (lines input) out
ends_empty {first = first} {input = input} {out = out} going none =
    let empty : unfinished input ≡ [] = nothing_kept LINE_LIMIT (unfinished input) (sym none ∙ going.line) in
    let P : List (List ℕ) → Type 0 = λ ls. Transcript first (whole_lines input ++ ls) out in
    subst P (ap last_line (sym empty)) (joins_none going.reaches)

last_is : (n : ℕ) (xs : List ℕ) → 0 < length (take n xs) → last_line xs ≡ xs ∷ []
last_is zero xs some = absurd (omega arith)
last_is (suc n) [] some = absurd (omega arith)
last_is (suc n) (x ∷ xs) some = refl

-- where a line is left, it is answered
ends_line : {first s : SessionState} {input kept out : List ℕ} (s' : SessionState) (reply : List ℕ) → Going first input kept s out → 0 < length kept → Answers s kept reply s'
    → Transcript first (lines input) (out ++ reply)
ends_line {first = first} {s = s} {input = input} {kept = kept} {out = out} s' reply going some answers =
    let line = unfinished input in
    let last : last_line line ≡ line ∷ [] = last_is ROOM line (rw going.line at some) in
    let P : List (List ℕ) → Type 0 = λ ls. Transcript first (whole_lines input ++ ls) (out ++ reply) in
    subst P (sym last)
    (joins (line ∷ []) reply going.reaches (transcript_last s s' line reply (ends s.tools line) refl (answers_kept s s' line kept reply going.line answers)))

-- what was written is the transcript of the whole lines
pub wholly : {first s : SessionState} {input kept out : List ℕ} → Going first input kept s out → Transcript first (whole_lines input) out
wholly {first = first} {input = input} {out = out} going =
    let P : List (List ℕ) → Type 0 = λ ls. Transcript first ls out in subst P (append-nil (whole_lines input)) (joins_none going.reaches)

-- What the steps of the code leave.

text_is : (w w' : Outgoing) (bytes : List ℕ) → Adds w w' bytes → w'.text ≡ w.text ++ bytes
text_is w w' bytes adds = ap (λ (o : Outgoing). o.text) adds

answers_at : {s s' : SessionState} {line kept : List ℕ} {w w' : Outgoing} → line ≡ kept → (a : Answered s s' line w w') → Answers s kept a.reply s'
answers_at {s = s} {s' = s'} e a = let P : List ℕ → Type 0 = λ l. Answers s l a.reply s' in subst P e a.answers

pub closes_line : {first s s' : SessionState} {input kept line : List ℕ} {w w' : Outgoing} → line ≡ kept → 0 < length line → Answered s s' line w w'
    → Going first input kept s w.text → Transcript first (lines input) w'.text
closes_line {first = first} {s = s} {s' = s'} {input = input} {kept = kept} {w = w} {w' = w'} e some a going =
    let P : List ℕ → Type 0 = λ text. Transcript first (lines input) text in
    subst P (sym (text_is w w' a.reply a.adds)) (ends_line s' a.reply going (rw e at some) (answers_at e a))

is_nil : (xs : List ℕ) → length xs ≡ 0 → xs ≡ []
is_nil [] e = refl
is_nil (x ∷ xs) e = absurd (omega (arith, e))

pub closes_empty : {first s : SessionState} {input kept line out : List ℕ} → line ≡ kept → length line ≡ 0 → Going first input kept s out → Transcript first (lines input) out
closes_empty {first = first} {s = s} {input = input} {kept = kept} {line = line} {out = out} e none going =
    ends_empty going (sym e ∙ is_nil line none)

pub quits_line : {first s s' : SessionState} {input kept line : List ℕ} {w w' : Outgoing} (byte : ℕ) → byte ≡ 10 → line ≡ kept → Answered s s' line w w' → ends s.tools line ≡ true
    → Going first input kept s w.text → HasQuit first (input ++ byte ∷ []) w'.text
quits_line {first = first} {s = s} {s' = s'} {input = input} {kept = kept} {w = w} {w' = w'} byte feed e a quit going =
    let P : List ℕ → Type 0 = λ text. HasQuit first (input ++ byte ∷ []) text in
    subst P (sym (text_is w w' a.reply a.adds)) (quits s' a.reply byte (eq-eqb byte 10 feed) going (answers_at e a) (ap (ends s.tools) (sym e) ∙ quit))

pub goes_line : {first s s' : SessionState} {input kept kept' line : List ℕ} {w w' : Outgoing} (byte : ℕ) → byte ≡ 10 → line ≡ kept → kept' ≡ [] → Answered s s' line w w' → ends s.tools line ≡ false
    → Going first input kept s w.text → Going first (input ++ byte ∷ []) kept' s' w'.text
goes_line {first = first} {s = s} {s' = s'} {input = input} {kept = kept} {w = w} {w' = w'} byte feed e none a goes going =
    let P : List ℕ → Type 0 = λ text. Going first (input ++ byte ∷ []) [] s' text in
    let Q : List ℕ → Type 0 = λ line. Going first (input ++ byte ∷ []) line s' w'.text in
    subst Q (sym none) (subst P (sym (text_is w w' a.reply a.adds)) (goes_on a.reply byte (eq-eqb byte 10 feed) going (answers_at e a) (ap (ends s.tools) (sym e) ∙ goes)))

-- the line feed of a line that may end the session
pub fed_line : {first s s' : SessionState} {input kept kept' line : List ℕ} {w w' : Outgoing} (byte : ℕ) (b : Bool) → byte ≡ 10 → line ≡ kept → kept' ≡ []
    → Answered s s' line w w' → b ≡ ends s.tools line → Going first input kept s w.text
    → MatchBool b (HasQuit first (input ++ byte ∷ []) w'.text) (Going first (input ++ byte ∷ []) kept' s' w'.text)
fed_line byte true feed e none a is going = quits_line byte feed e a (sym is) going
fed_line byte false feed e none a is going = goes_line byte feed e none a (sym is) going

pub stays_line : {first s : SessionState} {input kept kept' out : List ℕ} (byte : ℕ) → eqb byte 10 ≡ false → kept' ≡ take ROOM (kept ++ byte ∷ []) → Going first input kept s out → Going first (input ++ byte ∷ []) kept' s out
stays_line {first = first} {s = s} {input = input} {kept = kept} {out = out} byte other e going =
    let Q : List ℕ → Type 0 = λ line. Going first (input ++ byte ∷ []) line s out in
    subst Q (sym e) (stays byte other going)

regrouped : (input taken rest : List ℕ) (byte : ℕ) → ((input ++ taken) ++ byte ∷ []) ++ rest ≡ input ++ ((taken ++ byte ∷ []) ++ rest)
regrouped input taken rest byte = simp append_assoc

-- a session that has quit in the middle of a piece
pub quits_early : (first : SessionState) (out input piece : List ℕ) (i : ℕ) → i < length piece
    → HasQuit first ((input ++ take i piece) ++ get_or piece i 0 ∷ []) out → HasQuit first (input ++ piece) out
quits_early first out input piece i within quit =
    let byte = get_or piece i 0 in
    let quits : List ℕ → Bool = ends first.tools in
    let front = (input ++ take i piece) ++ byte ∷ [] in
    let rest = drop (i + 1) piece in
    let parts : (take i piece ++ byte ∷ []) ++ rest ≡ piece = ap (λ xs. xs ++ rest) (sym (take_more piece i 0 within)) ∙ take-append-drop (i + 1) piece in
    let all : front ++ rest ≡ input ++ piece = regrouped input (take i piece) rest byte ∙ ap (λ xs. input ++ xs) parts in
    let later = whole_behind front rest in
    let whole : whole_lines front ++ later.0 ≡ whole_lines (input ++ piece) = sym later.1 ∙ ap whole_lines all in
    let P : List (List ℕ) → Type 0 = λ ls. Transcript first ls out in
    record {
      quits = ap (list_any quits) (sym whole) ∙ list_any-append quits (whole_lines front) later.0
          ∙ either (list_any quits (whole_lines front)) (list_any quits later.0) (inl quit.quits);
      transcript = λ more.
          subst P (sym (append_assoc (whole_lines front) later.0 more) ∙ ap (λ ls. ls ++ more) whole) (quit.transcript (later.0 ++ more));
    }

-- a session that goes on with the next byte of a piece
pub goes_further : {first s : SessionState} {kept out : List ℕ} (input piece : List ℕ) (i : ℕ) → i < length piece
    → Going first ((input ++ take i piece) ++ get_or piece i 0 ∷ []) kept s out → Going first (input ++ take (i + 1) piece) kept s out
goes_further {first = first} {s = s} {kept = kept} {out = out} input piece i within going =
    let P : List ℕ → Type 0 = λ text. Going first text kept s out in
    subst P (append_assoc input (take i piece) (get_or piece i 0 ∷ []) ∙ ap (λ xs. input ++ xs) (sym (take_more piece i 0 within))) going

pub same_sink_through : {a b c : Outgoing} → SameSink a b → SameSink b c → SameSink a c
same_sink_through p q = record { loan = q.loan ∙ p.loan; before = q.before ∙ p.before; failures_before = q.failures_before ∙ p.failures_before }

pub same_source_through : {a b c : Incoming} {failed : ℕ} → SameSource a b 0 → SameSource b c failed → SameSource a c failed
same_source_through p q = record { loan = q.loan ∙ p.loan; before = q.before ∙ p.before; taken_before = q.taken_before ∙ p.taken_before; failures = omega (arith, p.failures, q.failures) }
