-- What the snapshots that are held keep.
use Rattle.std.specs.Prelude.{ℕ, List}
use Rattle.std.specs.List.{AllByRecursion}
use Rattle.bench.specs.Benches.{BenchRecord, IsPast, SnapshotRecord}

-- each snapshot is one from the past of the bench
abbrev pub AreFromPast : BenchRecord → List (List ℕ × SnapshotRecord) → Type 0
AreFromPast bench held = AllByRecursion (λ h. IsPast bench h.1) held
