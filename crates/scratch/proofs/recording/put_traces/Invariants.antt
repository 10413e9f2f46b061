use Rattle.std.proofs.Common.{◌≡◌, ◌++◌, ℕ, List, drop, length, vec_len}
use Rattle.gatestep.specs.Step.{State}
use Rattle.catalog.specs.kept.Catalog.{keys_of}
use Rattle.scratch.specs.kept.Recordings.{AreUnder}
use Rattle.scratch.proofs.recording.put_traces.Given as goal

-- the traces from some place on stand under their keys, and those before it are left
abbrev pub invariant-loop-trace : goal.invariant-loop-trace
invariant-loop-trace l =
    record {
      done : (rest : List (List (ℕ × State))) × (l.fn.traces.items ≡ l.traces.items ++ rest)
          × AreUnder (drop (length l.traces.items) (keys_of l.design.gates)) rest l.run.traces;
      waves : l.run.waves ≡ l.fn.run.waves;
      horizon : l.run.horizon ≡ l.fn.run.horizon;
    }

abbrev pub decreases-loop-trace : goal.decreases-loop-trace
decreases-loop-trace l = vec_len l.traces
