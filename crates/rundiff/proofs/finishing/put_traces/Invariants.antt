use Rattle.std.proofs.Common.{◌≡◌, ℕ, false, take}
use Rattle.rundiff.specs.kept.PlaceMaps.{kept_at}
use Rattle.catalog.specs.kept.Catalog.{keys_of}
use Rattle.rundiff.specs.kept.Finishing.{ArePut, new_trace}
use Rattle.rundiff.specs.kept.Places.{is_among}
use Rattle.rundiff.proofs.finishing.put_traces.Given as goal

-- the traces so far are put, the other patches are as they were
abbrev pub invariant-loop-place : goal.invariant-loop-place
invariant-loop-place g l = record {
  traces : ArePut (new_trace g.S.Stepper.answer l.former.new.now) (keys_of l.former.new.now.gates) (take l.place-index l.held) l.fn.made.traces l.made.traces;
  patches : (q : ℕ) → is_among (take l.place-index l.held) q ≡ false → kept_at l.traces q ≡ kept_at l.fn.traces q;
  waves : l.made.waves ≡ l.fn.made.waves;
  horizon : l.made.horizon ≡ l.fn.made.horizon;
}
