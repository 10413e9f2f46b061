-- What one call of a device does to its bytes, to the record of its takes and to the count of its failures.
use Rattle.std.specs.Prelude.{◌≡◌, ℕ, ◌+◌, ◌<◌, ◌≤◌, Bool, true, false, List, [], ◌∷◌, ◌++◌, Option, None, Some, length, take}
use Rattle.std.specs.Io.KnownBytes.{Keeps, Appends, Consumes, IsAtEnd}

-- A source at a moment: the bytes that its takes will bring, where they are known, the pieces that they brought so far, and how
-- often it has failed.
pub record SourceState : Type 0 where
  pub remaining : Option (List ℕ)
  pub taken : List (List ℕ)
  pub failures : ℕ

-- A sink at a moment: the bytes that it holds, where they are known, and how often it has failed.
pub record SinkState : Type 0 where
  pub contents : Option (List ℕ)
  pub failures : ℕ

-- Sources.

-- A take brought n bytes, the first n of the buffer, as one piece, and none only at the end.
pub record Brings (old new : SourceState) (buffer : List ℕ) (n : ℕ) : Type 0 where
  pub within : n ≤ length buffer
  pub bytes : Consumes old.remaining new.remaining (take n buffer)
  pub at_end : n ≡ 0 → IsAtEnd new.remaining
  pub piece : new.taken ≡ old.taken ++ take n buffer ∷ []
  pub works : new.failures ≡ old.failures

-- The source failed, and nothing came.
pub record BringsNothing (old new : SourceState) : Type 0 where
  pub kept : Keeps old.remaining new.remaining
  pub no_piece : new.taken ≡ old.taken
  pub fails : new.failures ≡ old.failures + 1

-- a take brought this many bytes, or the source failed
abbrev pub Takes : SourceState → SourceState → List ℕ → Option ℕ → Type 0
Takes old new buffer (Some n) = Brings old new buffer n
Takes old new buffer None = BringsNothing old new

-- Sinks.

-- The first n bytes went out, and n isn't 0.
pub record Accepts (old new : SinkState) (bytes : List ℕ) (n : ℕ) : Type 0 where
  pub some : 0 < n
  pub within : n ≤ length bytes
  pub out : Appends old.contents new.contents (take n bytes)
  pub works : new.failures ≡ old.failures

-- The sink failed, and nothing went out.
pub record AcceptsNothing (old new : SinkState) : Type 0 where
  pub kept : Keeps old.contents new.contents
  pub fails : new.failures ≡ old.failures + 1

-- this many bytes went out, or the sink failed
abbrev pub Puts : SinkState → SinkState → List ℕ → Option ℕ → Type 0
Puts old new bytes (Some n) = Accepts old new bytes n
Puts old new bytes None = AcceptsNothing old new

-- one failure more, if the device failed
abbrev pub failures_after : ℕ → Bool → ℕ
failures_after failures true = failures + 1
failures_after failures false = failures
