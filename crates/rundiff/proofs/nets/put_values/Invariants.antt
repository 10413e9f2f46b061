use Rattle.std.proofs.Common.{◌≡◌, ◌≤◌, ℕ, suc, true, false, take}
use Rattle.std.specs.Option.{ForSome}
use Rattle.rundiff.specs.kept.PlaceMaps.{kept_at}
use Rattle.waveform.specs.kept.Timelines.{end_of}
use Rattle.design.specs.Keys.{netlist}
use Rattle.rundiff.specs.kept.Fronts.{IsOwn, IsWave}
use Rattle.rundiff.specs.kept.Places.{is_among}
use Rattle.rundiff.proofs.nets.put_values.Given as goal

-- the nets so far are put, the others are as they were
abbrev pub invariant-loop-place : goal.invariant-loop-place
invariant-loop-place g l = record {
  put : (q : ℕ) → is_among (take l.place-index l.live) q ≡ true → IsWave g.S.Stepper.answer (netlist l.former.old.now) (netlist l.former.new.now) l.waves q (suc l.t) × IsOwn (kept_at l.waves q) × ForSome (kept_at l.waves q) (λ patch. end_of patch.line ≤ suc l.t);
  others : (q : ℕ) → is_among (take l.place-index l.live) q ≡ false → kept_at l.waves q ≡ kept_at l.fn.waves q;
}
