-- What a session wrote for what it read (own). Where a sink's bytes are not known, these say that there are such bytes.
use Rattle.std.specs.Prelude.{◌≡◌, ◌≤◌, ℕ, ◌+◌, List, [], ◌∷◌, ◌++◌, Bool, true, false, not, ◌&&◌, if◌then◌else◌, length, IfSome}
use Rattle.std.specs.List.{concat, list_all, list_any}
use Rattle.std.specs.Io.{StartsWith}
use Rattle.std.specs.Io.KnownBytes.{Appends, Consumes}
use Rattle.devices.specs.Incoming.{IsAllOf}
use Rattle.session.specs.declared.talk.exchange.TheConstants.{PIECE}
use Rattle.session.specs.Lines.{lines, whole_lines}
use Rattle.session.specs.State.{SessionState, Transcript, ends}
use Rattle.session.specs.Traffic.{SinkTraffic, SourceTraffic}
use Rattle.session.specs.Words.{has_bytes}

-- Behind these pieces a session takes one more: none is empty, as at the input's end, and no whole line of them has ended it, by
-- whether the questions of tools are known.
abbrev pub goes_on : Bool → List (List ℕ) → Bool
goes_on tools pieces = list_all has_bytes pieces && not (list_any (ends tools) (whole_lines (concat pieces)))

-- Nothing more is taken once a line or the input's end has ended the session: without the last piece it went on.
pub record StopsReading (tools : Bool) (pieces : List (List ℕ)) : Type 0 where
  pub earlier : List (List ℕ)
  pub last : List ℕ
  pub parts : pieces ≡ earlier ++ last ∷ []
  pub at_once : length last ≤ PIECE
  pub went_on : goes_on tools earlier ≡ true

-- What came from a source: exactly the pieces that its takes brought, and the text that they join to.
pub record Came (source : SourceTraffic) : Type 0 where
  pub pieces : List (List ℕ)
  pub taken : source.taken' ≡ source.taken ++ pieces
  pub text : List ℕ
  pub joined : text ≡ concat pieces
  pub consumed : Consumes source.bytes source.bytes' text

-- Below, `first` is the state in which a session opens, and the traffic is its source's and its sink's.

-- All that came was answered, up to and with the line that ends the session or to the input's end. The source had nothing else to
-- give that gets a reply, and no device failed.
pub record AnswersAll (first : SessionState) (source : SourceTraffic) (sink : SinkTraffic) : Type 0 where
  pub came : Came source
  pub stops : StopsReading first.tools came.pieces
  pub ended : goes_on first.tools came.pieces ≡ false
  pub out : List ℕ
  pub transcript : Transcript first (lines came.text) out
  pub all : IfSome source.bytes (λ input. Transcript first (lines input) out)
  pub written : Appends sink.bytes sink.bytes' out
  pub source_works : source.failures' ≡ source.failures
  pub sink_works : sink.failures' ≡ sink.failures

-- The source failed, once. All whole lines that came were answered, and the session was to go on.
pub record AnswersWholeLines (first : SessionState) (source : SourceTraffic) (sink : SinkTraffic) : Type 0 where
  pub came : Came source
  pub went_on : goes_on first.tools came.pieces ≡ true
  pub out : List ℕ
  pub transcript : Transcript first (whole_lines came.text) out
  pub written : Appends sink.bytes sink.bytes' out
  pub source_fails : source.failures' ≡ source.failures + 1
  pub sink_works : sink.failures' ≡ sink.failures

-- The sink failed, once. An exact beginning of the replies to the whole lines that came was written; the rest behind them counts
-- as a line only where the input had ended.
pub record AnswersPartly (first : SessionState) (source : SourceTraffic) (sink : SinkTraffic) : Type 0 where
  pub came : Came source
  pub stops : StopsReading first.tools came.pieces
  pub at_end : has_bytes stops.last ≡ false → IsAllOf source.bytes came.text
  pub out : List ℕ
  pub transcript : Transcript first (if has_bytes stops.last then whole_lines came.text else lines came.text) out
  pub gone : List ℕ
  pub beginning : StartsWith out gone
  pub written : Appends sink.bytes sink.bytes' gone
  pub source_works : source.failures' ≡ source.failures
  pub sink_fails : sink.failures' ≡ sink.failures + 1
