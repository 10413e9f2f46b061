use Rattle.std.proofs.Common.{◌≡◌}
use Rattle.catalog.specs.kept.Catalog.{keys_of}
use Rattle.resim.proofs.Cutting.{AreCutBefore}
use Rattle.resim.proofs.cut.cut_traces.Given as goal

-- the traces of the gates so far are cut
abbrev pub invariant-loop-place : goal.invariant-loop-place
invariant-loop-place l =
    record {
      traces : AreCutBefore l.horizon (keys_of l.design.gates) l.place l.run.traces l.short.traces;
      waves : l.short.waves ≡ l.fn.short.waves;
      horizon : l.short.horizon ≡ l.fn.short.horizon;
    }
