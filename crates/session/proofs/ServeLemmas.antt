-- What a whole conversation leaves.
use Rattle.std.proofs.Common.{◌≡◌, ℕ, ◌+◌, List, [], ◌++◌, false, refl, sym, ap, subst, ◌∙◌, Option, None, Some, arith}
use Rattle.std.specs.Prelude.{IfSome}
use Rattle.std.specs.Io.KnownBytes.{Appends, Consumes}
use Rattle.devices.specs.Incoming.{IsAllOf}
use Rattle.devices.specs.kept.Incoming.{Incoming, text_of}
use Rattle.devices.specs.Outgoing.{Outgoing}
use Rattle.devices.specs.Traffic.{failures_after}
use Rattle.session.specs.declared.talk.exchange.End.{End}
use Rattle.session.specs.declared.talk.exchange.End.TheVariants as end
use Rattle.session.specs.Lines.{last_line, lines, unfinished}
use Rattle.session.specs.kept.Outcomes.{Serves}
use Rattle.session.specs.State.{SessionState, Transcript}
use Rattle.session.specs.kept.Talk.{Ends, HasQuit, IsSent, SameSink, SameSource, read_failures}
use Rattle.session.specs.Transcripts.{Came}
use Rattle.session.specs.Traffic.{SinkTraffic, SourceTraffic, sink_traffic, source_traffic}
use Rattle.session.proofs.LineLemmas.{lines_behind}

-- what came to a reader, and how often it failed, is what its source did
pub record IsRead (source : SourceTraffic) (r : Incoming) (failed : ℕ) : Type 0 where
  pub begins : r.before ≡ source.bytes
  pub consumed : Consumes r.before source.bytes' (text_of r)
  pub taken : source.taken' ≡ source.taken ++ r.pieces
  pub counted : source.failures' ≡ source.failures + failed

-- what went out of a writer is what its sink took
pub record IsWritten (sink : SinkTraffic) (w : Outgoing) : Type 0 where
  pub begins : w.before ≡ sink.bytes
  pub appended : Appends w.before sink.bytes' w.gone
  pub counted : sink.failures' ≡ failures_after sink.failures w.stopped

-- A reader was made of a source, and the reference to it came back. A reference that comes back under its own name leads to
-- what the source is in the end.
pub is_read : {A : Type 0} {source source' back : A} {r0 r : Incoming} {n name failed : ℕ} (bytes_of : A → Option (List ℕ)) (taken_of : A → List (List ℕ)) (failures_of : A → ℕ)
    → r0 ≡ record { loan = n; before = bytes_of source; taken_before = taken_of source; failures = failures_of source; pieces = [] } → SameSource r0 r failed
    → Consumes r.before (bytes_of back) (text_of r) → taken_of back ≡ r.taken_before ++ r.pieces → failures_of back ≡ r.failures → name ≡ r.loan → (n ≡ name → source' ≡ back)
    → IsRead (source_traffic bytes_of taken_of failures_of source source') r failed
is_read {r0 = r0} {r = r} {failed = failed} bytes_of taken_of failures_of opened same consumed taken counted named leads =
    let source_is = leads (sym (ap (λ (r : Incoming). r.loan) opened) ∙ (sym same.loan ∙ sym named)) in
    let P : Option (List ℕ) → Type 0 = λ has. Consumes r.before has (text_of r) in
    record {
      begins = same.before ∙ ap (λ (r : Incoming). r.before) opened;
      consumed = subst P (sym (ap bytes_of source_is)) consumed;
      taken = ap taken_of source_is ∙ (taken ∙ ap (λ (before : List (List ℕ)). before ++ r.pieces) (same.taken_before ∙ ap (λ (r : Incoming). r.taken_before) opened));
      counted = ap failures_of source_is ∙ (counted ∙ (same.failures ∙ ap (λ (r : Incoming). r.failures + failed) opened));
    }

-- the same for a writer
pub is_written : {A : Type 0} {sink sink' back : A} {w0 w : Outgoing} {n name : ℕ} (bytes_of : A → Option (List ℕ)) (failures_of : A → ℕ)
    → w0 ≡ record { loan = n; before = bytes_of sink; failures_before = failures_of sink; text = []; gone = []; stopped = false } → SameSink w0 w
    → Appends w.before (bytes_of back) w.gone → failures_of back ≡ failures_after w.failures_before w.stopped → name ≡ w.loan → (n ≡ name → sink' ≡ back)
    → IsWritten (sink_traffic bytes_of failures_of sink sink') w
is_written {w0 = w0} {w = w} bytes_of failures_of opened same appended counted named leads =
    let sink_is = leads (sym (ap (λ (w : Outgoing). w.loan) opened) ∙ (sym same.loan ∙ sym named)) in
    let P : Option (List ℕ) → Type 0 = λ holds. Appends w.before holds w.gone in
    record {
      begins = same.before ∙ ap (λ (w : Outgoing). w.before) opened;
      appended = subst P (sym (ap bytes_of sink_is)) appended;
      counted = ap failures_of sink_is ∙ (counted ∙ ap (λ n. failures_after n w.stopped) (same.failures_before ∙ ap (λ (w : Outgoing). w.failures_before) opened));
    }

-- what a writer sent is in its sink
sent_text : {sink : SinkTraffic} {w : Outgoing} → IsWritten sink w → IsSent w → Appends sink.bytes sink.bytes' w.text
sent_text {sink = sink} {w = w} written sent =
    let P : Option (List ℕ) → Type 0 = λ held. Appends held sink.bytes' w.text in
    let Q : List ℕ → Type 0 = λ text. Appends w.before sink.bytes' text in
    subst P written.begins (subst Q sent.all written.appended)

works : {sink : SinkTraffic} {w : Outgoing} → IsWritten sink w → w.stopped ≡ false → sink.failures' ≡ sink.failures
works {sink = sink} written e = written.counted ∙ ap (failures_after sink.failures) e

-- what came to a reader is gone from its source
read_text : {source : SourceTraffic} {r : Incoming} {failed : ℕ} → IsRead source r failed → Consumes source.bytes source.bytes' (text_of r)
read_text {source = source} {r = r} was =
    let P : Option (List ℕ) → Type 0 = λ had. Consumes had source.bytes' (text_of r) in subst P was.begins was.consumed

-- the pieces that came to a reader are those that its source gave
came : {source : SourceTraffic} {r : Incoming} {failed : ℕ} → IsRead source r failed → Came source
came {r = r} was = record { pieces = r.pieces; taken = was.taken; text = text_of r; joined = refl; consumed = read_text was }

-- a session that has quit had answered all that the source had to give
quit_all : (first : SessionState) (had has : Option (List ℕ)) (text out : List ℕ) → HasQuit first text out → Consumes had has text
    → IfSome had (λ input. Transcript first (lines input) out)
quit_all first None has text out quit consumed = tt
quit_all first (Some bytes) None text out quit consumed = absurd consumed
quit_all first (Some bytes) (Some rest) text out quit consumed =
    let later = lines_behind text rest in
    let P : List (List ℕ) → Type 0 = λ ls. Transcript first ls out in
    let Q : List ℕ → Type 0 = λ input. Transcript first (lines input) out in
    subst Q (sym consumed) (subst P (sym later.1) (quit.transcript later.0))

-- so had one that came to the input's end
end_all : (first : SessionState) (had : Option (List ℕ)) (text out : List ℕ) → IsAllOf had text → Transcript first (lines text) out
    → IfSome had (λ input. Transcript first (lines input) out)
end_all first None text out all t = tt
end_all first (Some bytes) text out all t = let Q : List ℕ → Type 0 = λ input. Transcript first (lines input) out in subst Q all t

pub serves : (e : End) (first : SessionState) (source : SourceTraffic) (sink : SinkTraffic) {r : Incoming} {w : Outgoing}
    → IsRead source r (read_failures (Some e)) → IsWritten sink w → Ends e first r w → Serves e first source sink
unfolding came
serves end.Input first source sink {r = r} {w = w} was written ends =
    let P : Option (List ℕ) → Type 0 = λ had. IsAllOf had (text_of r) in
    record {
      came = came was;
      stops = ends.0.0;
      ended = ends.0.1;
      out = w.text;
      transcript = ends.2;
      all = end_all first source.bytes (text_of r) w.text (subst P was.begins ends.1) ends.2;
      written = sent_text written ends.3;
      source_works = omega (arith, was.counted);
      sink_works = works written ends.3.goes_on;
    }
serves end.Quit first source sink {r = r} {w = w} was written ends = record {
  came = came was;
  stops = ends.0.0;
  ended = ends.0.1;
  out = w.text;
  transcript = ends.1.transcript (last_line (unfinished (text_of r)));
  all = quit_all first source.bytes source.bytes' (text_of r) w.text ends.1 (read_text was);
  written = sent_text written ends.2;
  source_works = omega (arith, was.counted);
  sink_works = works written ends.2.goes_on;
}
serves end.ReadFailed first source sink {r = r} {w = w} was written ends = record {
  came = came was;
  went_on = ends.0;
  out = w.text;
  transcript = ends.1;
  written = sent_text written ends.2;
  source_fails = was.counted;
  sink_works = works written ends.2.goes_on;
}
serves end.WriteFailed first source sink {r = r} {w = w} was written cut =
    let P : Option (List ℕ) → Type 0 = λ had. IsAllOf had (text_of r) in
    let Q : Option (List ℕ) → Type 0 = λ held. Appends held sink.bytes' w.gone in
    record {
      came = came was;
      stops = cut.stops;
      at_end = λ e. subst P was.begins (cut.at_end e);
      out = cut.out;
      transcript = cut.transcript;
      gone = w.gone;
      beginning = cut.beginning;
      written = subst Q written.begins written.appended;
      source_works = omega (arith, was.counted);
      sink_fails = written.counted ∙ ap (failures_after sink.failures) cut.stopped;
    }
