use Rattle.std.proofs.Common.{◌≡◌, ℕ, false, take}
use Rattle.rundiff.specs.kept.PlaceMaps.{kept_at}
use Rattle.catalog.specs.kept.Catalog.{keys_of}
use Rattle.rundiff.specs.kept.Finishing.{ArePut, new_wave}
use Rattle.rundiff.specs.kept.Places.{is_among}
use Rattle.rundiff.proofs.finishing.put_waves.Given as goal

-- the waves so far are put, the other patches are as they were
abbrev pub invariant-loop-place : goal.invariant-loop-place
invariant-loop-place g l = record {
  waves : ArePut (new_wave g.S.Stepper.answer l.former.new.now) (keys_of l.former.new.now.nets) (take l.place-index l.live) l.fn.made.waves l.made.waves;
  patches : (q : ℕ) → is_among (take l.place-index l.live) q ≡ false → kept_at l.waves q ≡ kept_at l.fn.waves q;
  traces : l.made.traces ≡ l.fn.made.traces;
  horizon : l.made.horizon ≡ l.fn.made.horizon;
}
