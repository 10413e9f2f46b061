use Rattle.std.proofs.Common.{◌≡◌}
use Rattle.catalog.specs.kept.Catalog.{keys_of}
use Rattle.resim.proofs.Cutting.{AreCutBefore}
use Rattle.resim.proofs.cut.cut_waves.Given as goal

-- the waves of the nets so far are cut
abbrev pub invariant-loop-place : goal.invariant-loop-place
invariant-loop-place l =
    record {
      waves : AreCutBefore l.horizon (keys_of l.design.nets) l.place l.run.waves l.short.waves;
      traces : l.short.traces ≡ l.fn.short.traces;
      horizon : l.short.horizon ≡ l.fn.short.horizon;
    }
