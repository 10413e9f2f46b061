-- An exchange of input and replies, and the end of a session.
use Rattle.std.proofs.Common.{◌≡◌, ℕ, ◌<◌, ◌≤◌, List, [], ◌∷◌, ◌++◌, length, take, Bool, true, false, ◌&&◌, refl, sym, ap, subst, ◌∙◌, append-nil, None, Some, Result, Ok, Err, arith}
use Rattle.std.specs.Prelude.{IfErr, OnOk, if◌then◌else◌, is_err, not}
use Rattle.std.specs.List.{concat, list_all, list_any}
use Rattle.std.specs.Io.{StartsWith}
use Rattle.std.proofs.lemmas.List.{length-append, length-take-le}
use Rattle.std.proofs.lemmas.List.Folds.{concat-append, list_all-append}
use Rattle.devices.specs.Incoming.{IsAllOf}
use Rattle.devices.specs.kept.Incoming.{Incoming, Reads, text_of}
use Rattle.devices.specs.Outgoing.{Outgoing}
use Rattle.devices.specs.kept.Outgoing.{MovesOn, byte_count}
use Rattle.session.specs.declared.talk.exchange.TheConstants.{PIECE}
use Rattle.session.specs.declared.talk.feed.Turn.{Turn}
use Rattle.session.specs.declared.talk.feed.Turn.TheVariants as turn
use Rattle.session.specs.Lines.{lines, whole_lines}
use Rattle.session.specs.State.{SessionState, Transcript, ends}
use Rattle.session.specs.kept.Talk.{EndsReading, Going, HasQuit, IsCutShort, IsSent, Stands, Waits, is_finished}
use Rattle.session.specs.Transcripts.{StopsReading, goes_on}
use Rattle.session.specs.Words.{has_bytes}
use Rattle.session.proofs.TalkLemmas.{begins, wholly}
use Rattle.session.proofs.TranscriptLemmas.{none_ends}

-- Pieces.

has_some : (piece : List ℕ) → 0 < length piece → has_bytes piece ≡ true
has_some [] some = absurd (omega (arith, some))
has_some (byte ∷ bytes) some = refl

has_none : (piece : List ℕ) → length piece ≡ 0 → has_bytes piece ≡ false
has_none [] none = refl
has_none (byte ∷ bytes) none = absurd (omega (arith, none))

off_by_line : (b q : Bool) → q ≡ true → (b && not q) ≡ false
off_by_line false q e = refl
off_by_line true q e = rw e refl

-- whether all pieces have bytes, with one piece more
all_with : (b p : Bool) → b ≡ true → (b && (p && true)) ≡ p
all_with b true e = rw e refl
all_with b false e = rw e refl

-- a piece came from the source
pub record HasCome (r r' : Incoming) (piece : List ℕ) : Type 0 where
  pub pieces : r.pieces ++ piece ∷ [] ≡ r'.pieces
  pub text : text_of r ++ piece ≡ text_of r'
  pub at_once : length piece ≤ PIECE
  pub end : length piece ≡ 0 → IsAllOf r'.before (text_of r')

pub came : (r r' : Incoming) (buffer : List ℕ) (n : ℕ) → Reads r r' buffer (Some n) → length buffer ≤ PIECE → HasCome r r' (take n buffer)
came r r' buffer n reads room =
    let piece = take n buffer in
    let counted : length piece ≡ n = length-take-le n buffer reads.0 in
    let added : r.pieces ++ piece ∷ [] ≡ r'.pieces = sym (ap (λ (r : Incoming). r.pieces) reads.1) in
    let last : concat (r.pieces ++ piece ∷ []) ≡ text_of r ++ piece =
    concat-append r.pieces (piece ∷ []) ∙ ap (λ text. text_of r ++ text) (append-nil piece) in
    record {
      pieces = added;
      text = sym last ∙ ap concat added;
      at_once = omega (arith, counted, reads.0, room);
      end = λ none. reads.2 (sym counted ∙ none);
    }

-- a piece that is not empty makes the text longer
pub read_more : {r r' : Incoming} {piece : List ℕ} → HasCome r r' piece → 0 < length piece → length (text_of r) < length (text_of r')
read_more {r = r} {piece = piece} piece_came some =
    let longer : length (text_of r) < length (text_of r ++ piece) = omega (arith, length-append (text_of r) piece, some) in
    rw piece_came.text at longer

waits_on : {first s : SessionState} {kept : List ℕ} {r : Incoming} {w : Outgoing} → Waits first r kept s w → goes_on first.tools r.pieces ≡ true
waits_on waits = rw (waits.unended, none_ends waits.going.reaches) refl

-- what has come ends with the piece before which the session went on
stops : {first s : SessionState} {kept : List ℕ} {r r' : Incoming} {piece : List ℕ} {w : Outgoing} → HasCome r r' piece → Waits first r kept s w → StopsReading first.tools r'.pieces
stops {r = r} {piece = piece} piece_came waits =
    record { earlier = r.pieces; last = piece; parts = sym piece_came.pieces; at_once = piece_came.at_once; went_on = waits_on waits }

-- with that piece all pieces have bytes where it has some
all_by : {first s : SessionState} {kept : List ℕ} {r r' : Incoming} {piece : List ℕ} {w : Outgoing} → HasCome r r' piece → Waits first r kept s w
    → list_all has_bytes r'.pieces ≡ has_bytes piece
all_by {r = r} {piece = piece} piece_came waits =
    ap (list_all has_bytes) (sym piece_came.pieces) ∙ list_all-append has_bytes r.pieces (piece ∷ [])
    ∙ all_with (list_all has_bytes r.pieces) (has_bytes piece) waits.unended

-- the source failed
pub read_failed : {first s : SessionState} {kept : List ℕ} {w : Outgoing} (r r' : Incoming) (buffer : List ℕ) → Reads r r' buffer None → Waits first r kept s w
    → (goes_on first.tools r'.pieces ≡ true) × Transcript first (whole_lines (text_of r')) w.text
read_failed {first = first} {w = w} r r' buffer reads waits =
    let same : r.pieces ≡ r'.pieces = ap (λ (r : Incoming). r.pieces) (sym reads) in
    let P : List (List ℕ) → Type 0 = λ pieces. (goes_on first.tools pieces ≡ true) × Transcript first (whole_lines (concat pieces)) w.text in
    subst P same (waits_on waits, wholly waits.going)

pub text_moved : (w w' : Outgoing) → MovesOn w w' → w.text ≡ w'.text
text_moved w w' moves = sym (ap (λ (o : Outgoing). o.text) moves)

pub sent_by : (fr : Result (Unit {0}) ℕ) (w : Outgoing) → OnOk fr ((w.stopped ≡ false) × (w.gone ≡ w.text)) → is_err fr ≡ false → IsSent w
sent_by (Ok x) w facts e = record { all = facts.1; goes_on = facts.0 }
sent_by (Err m) w facts e = absurd (cc)

-- the session goes on
pub went_on : {first s s' : SessionState} {kept kept' out : List ℕ} {r r' : Incoming} {piece : List ℕ} {w w' : Outgoing}
    → HasCome r r' piece → Waits first r kept s w → 0 < length piece → Going first (text_of r ++ piece) kept' s' out → out ≡ w'.text → IsSent w' → Waits first r' kept' s' w'
went_on {first = first} {s' = s'} {kept' = kept'} {out = out} {r' = r'} {piece = piece} piece_came waits some going moved sent =
    let P : List ℕ → Type 0 = λ text. Going first text kept' s' out in
    let Q : List ℕ → Type 0 = λ text. Going first (text_of r') kept' s' text in
    record { going = subst Q moved (subst P piece_came.text going); unended = all_by piece_came waits ∙ has_some piece some; sent = sent }

-- a line has ended the session
pub has_quit : {first s : SessionState} {kept out : List ℕ} {r r' : Incoming} {piece : List ℕ} {w w' : Outgoing}
    → HasCome r r' piece → Waits first r kept s w → HasQuit first (text_of r ++ piece) out → out ≡ w'.text → IsSent w'
    → EndsReading first r' × HasQuit first (text_of r') w'.text × IsSent w'
has_quit {first = first} {out = out} {r' = r'} piece_came waits quit moved sent =
    let P : List ℕ → Type 0 = λ text. HasQuit first text out in
    let Q : List ℕ → Type 0 = λ text. HasQuit first (text_of r') text in
    let quit' = subst Q moved (subst P piece_came.text quit) in
    let off = off_by_line (list_all has_bytes r'.pieces) (list_any (ends first.tools) (whole_lines (text_of r'))) quit'.quits in
    ((stops piece_came waits, off), quit', sent)

-- the input has ended
pub finished : {first s : SessionState} {kept out : List ℕ} {r r' : Incoming} {piece : List ℕ} {w w' : Outgoing}
    → HasCome r r' piece → Waits first r kept s w → length piece ≡ 0 → Transcript first (lines (text_of r ++ piece)) out → out ≡ w'.text → IsSent w'
    → EndsReading first r' × IsAllOf r'.before (text_of r') × Transcript first (lines (text_of r')) w'.text × IsSent w'
finished {first = first} {out = out} {r' = r'} {piece = piece} piece_came waits empty t moved sent =
    let P : List ℕ → Type 0 = λ text. Transcript first (lines text) out in
    let Q : List ℕ → Type 0 = λ text. Transcript first (lines (text_of r')) text in
    let off : goes_on first.tools r'.pieces ≡ false = rw (all_by piece_came waits ∙ has_none piece empty) refl in
    ((stops piece_came waits, off), piece_came.end empty, subst Q moved (subst P piece_came.text t), sent)

-- The sink failed.

-- the replies answer the whole lines after a turn with this piece, and all where it is empty
pub covered_by : (t : Turn) (first s : SessionState) (kept input piece out : List ℕ) → Stands t first (input ++ piece) kept s out
    → (is_finished t ≡ true → length piece ≡ 0) → (is_finished t ≡ false → 0 < length piece)
    → Transcript first (if has_bytes piece then whole_lines (input ++ piece) else lines (input ++ piece)) out
covered_by turn.More first s kept input piece out stands none some = rw (has_some piece (some refl)) (wholly stands)
covered_by turn.Quit first s kept input piece out stands none some =
    let P : List (List ℕ) → Type 0 = λ ls. Transcript first ls out in
    rw (has_some piece (some refl)) (subst P (append-nil (whole_lines (input ++ piece))) (stands.transcript []))
covered_by turn.Finished first s kept input piece out stands none some = rw (has_none piece (none refl)) stands

pub cut_by : (fr : Result (Unit {0}) ℕ) (w : Outgoing) → IfErr fr (λ m. (w.stopped ≡ true) × StartsWith w.text w.gone × (m ≡ byte_count w.gone)) → is_err fr ≡ true
    → (w.stopped ≡ true) × StartsWith w.text w.gone
cut_by (Ok x) w facts e = absurd (cc)
cut_by (Err m) w facts e = (facts.0, facts.1)

has_no_bytes : (piece : List ℕ) → has_bytes piece ≡ false → length piece ≡ 0
has_no_bytes [] e = refl
has_no_bytes (byte ∷ bytes) e = absurd (cc)

pub cut_short : {first s : SessionState} {kept out : List ℕ} {r r' : Incoming} {piece : List ℕ} {w w' : Outgoing}
    → HasCome r r' piece → Waits first r kept s w → Transcript first (if has_bytes piece then whole_lines (text_of r ++ piece) else lines (text_of r ++ piece)) out
    → out ≡ w'.text → (w'.stopped ≡ true) × StartsWith w'.text w'.gone → IsCutShort first r' w'
unfolding stops
cut_short {first = first} {out = out} {piece = piece} {w' = w'} piece_came waits covers moved cut =
    let P : List ℕ → Type 0 = λ text. Transcript first (if has_bytes piece then whole_lines text else lines text) out in
    let Q : List ℕ → Type 0 = λ text. StartsWith text w'.gone in
    record {
      stops = stops piece_came waits;
      at_end = λ e. piece_came.end (has_no_bytes piece e);
      out = out;
      transcript = subst P piece_came.text covers;
      beginning = subst Q (sym moved) cut.1;
      stopped = cut.0;
    }

-- The beginning.

-- a session that has read and written nothing
pub begins_at : (first : SessionState) (r : Incoming) (line : List ℕ) (w : Outgoing) → line ≡ [] → r.pieces ≡ [] → w.text ≡ [] → w.gone ≡ [] → w.stopped ≡ false
    → Waits first r line first w
begins_at first r line w l i o gone stopped =
    let P : List ℕ → Type 0 = λ text. Going first text line first w.text in
    let Q : List ℕ → Type 0 = λ text. Going first [] text first w.text in
    let R : List ℕ → Type 0 = λ text. Going first [] [] first text in
    record {
      going = subst P (ap concat (sym i)) (subst Q (sym l) (subst R (sym o) (begins first)));
      unended = ap (list_all has_bytes) i;
      sent = record { all = gone ∙ sym o; goes_on = stopped };
    }
