-- What the devices of a session did: each field before the session and, primed, after it.
use Rattle.std.specs.Prelude.{ℕ, List, Option}

-- of a source the bytes that it has to give, where they are known, the pieces that its takes brought, and how often it has failed
pub record SourceTraffic : Type 0 where
  pub bytes : Option (List ℕ)
  pub bytes' : Option (List ℕ)
  pub taken : List (List ℕ)
  pub taken' : List (List ℕ)
  pub failures : ℕ
  pub failures' : ℕ

-- the traffic of a source between two of its states, by what says its bytes, its takes and its failures
abbrev pub source_traffic : {D : Type 0} → (D → Option (List ℕ)) → (D → List (List ℕ)) → (D → ℕ) → D → D → SourceTraffic
source_traffic bytes_of taken_of failures_of old new = record {
  bytes = bytes_of old;
  bytes' = bytes_of new;
  taken = taken_of old;
  taken' = taken_of new;
  failures = failures_of old;
  failures' = failures_of new;
}

-- of a sink the bytes that it holds, where they are known, and how often it has failed
pub record SinkTraffic : Type 0 where
  pub bytes : Option (List ℕ)
  pub bytes' : Option (List ℕ)
  pub failures : ℕ
  pub failures' : ℕ

-- the traffic of a sink between two of its states, by what says its bytes and its failures
abbrev pub sink_traffic : {D : Type 0} → (D → Option (List ℕ)) → (D → ℕ) → D → D → SinkTraffic
sink_traffic bytes_of failures_of old new =
    record { bytes = bytes_of old; bytes' = bytes_of new; failures = failures_of old; failures' = failures_of new }
