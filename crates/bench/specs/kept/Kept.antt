-- What a bench keeps beside its snapshot.
use Rattle.std.specs.Prelude.{◌≡◌}
use Rattle.gatestep.specs.Step.{advance}
use Rattle.design.specs.Keys.{netlist}
use Rattle.scratch.specs.kept.Run.{IsRun}
use Rattle.bench.specs.Benches.{SnapshotRecord}
use Rattle.bench.specs.declared.simulated.Simulated.{Simulated}

-- this is the design of the snapshot, with its run
pub record IsPresent (snapshot : SnapshotRecord) (simulated : Simulated) : Type 0 where
  pub design : snapshot.design ≡ netlist simulated.design
  pub run : IsRun advance simulated.design simulated.run
