use Rattle.std.proofs.Common.{◌≡◌, ◌++◌, ℕ, List, drop, length, vec_len}
use Rattle.fourstate.specs.declared.value.Value.{Value}
use Rattle.catalog.specs.kept.Catalog.{keys_of}
use Rattle.scratch.specs.kept.Recordings.{AreUnder}
use Rattle.scratch.proofs.recording.put_waves.Given as goal

-- the waves from some place on stand under their keys, and those before it are left
abbrev pub invariant-loop-wave : goal.invariant-loop-wave
invariant-loop-wave l =
    record {
      done : (rest : List (List (ℕ × Value))) × (l.fn.waves.items ≡ l.waves.items ++ rest)
          × AreUnder (drop (length l.waves.items) (keys_of l.design.nets)) rest l.run.waves;
      traces : l.run.traces ≡ l.fn.run.traces;
      horizon : l.run.horizon ≡ l.fn.run.horizon;
    }

abbrev pub decreases-loop-wave : goal.decreases-loop-wave
decreases-loop-wave l = vec_len l.waves
