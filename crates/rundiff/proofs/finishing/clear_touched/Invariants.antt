use Rattle.std.proofs.Common.{◌≡◌, take}
use Rattle.rundiff.specs.kept.Finishing.{AreCleared}
use Rattle.rundiff.proofs.finishing.clear_touched.Given as goal

-- the waves so far are gone
abbrev pub invariant-loop-net : goal.invariant-loop-net
invariant-loop-net l = record {
  waves : AreCleared (take l.net-index l.touched.nets.items) l.fn.run.waves l.run.waves;
  traces : l.run.traces ≡ l.fn.run.traces;
  horizon : l.run.horizon ≡ l.fn.run.horizon;
}

-- all waves are gone, and the traces so far
abbrev pub invariant-loop-gate : goal.invariant-loop-gate
invariant-loop-gate l = record {
  waves : AreCleared l.touched.nets.items l.fn.run.waves l.run.waves;
  traces : AreCleared (take l.gate-index l.touched.gates.items) l.fn.run.traces l.run.traces;
  horizon : l.run.horizon ≡ l.fn.run.horizon;
}
