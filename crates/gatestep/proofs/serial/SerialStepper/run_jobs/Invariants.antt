use Rattle.std.proofs.Common.{◌≡◌, ◌++◌, take}
use Rattle.std.specs.List.{AllZip, flat_map}
use Rattle.gatestep.specs.Step.{advance}
use Rattle.gatestep.proofs.serial.SerialStepper.run_jobs.Given as goal

-- what the jobs so far gave and asked
abbrev pub invariant-loop-job : goal.invariant-loop-job
invariant-loop-job g l =
    record {
      outputs : AllZip (g.J.Job.gives advance) (take l.job-index l.jobs) l.outputs.items;
      asked : l.self.history.asked ≡ l.fn.self.history.asked ++ flat_map (g.J.Job.work advance) (take l.job-index l.jobs);
      losses : l.self.history.losses ≡ l.fn.self.history.losses;
    }
