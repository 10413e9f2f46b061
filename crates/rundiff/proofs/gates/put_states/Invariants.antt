use Rattle.std.proofs.Common.{◌≡◌, ◌≤◌, ℕ, suc, true, false, take}
use Rattle.std.specs.Option.{ForSome}
use Rattle.rundiff.specs.kept.PlaceMaps.{kept_at}
use Rattle.waveform.specs.kept.Timelines.{end_of}
use Rattle.design.specs.Keys.{netlist}
use Rattle.rundiff.specs.kept.Fronts.{IsOwn, IsTrace}
use Rattle.rundiff.specs.kept.Places.{is_among}
use Rattle.rundiff.proofs.gates.put_states.Given as goal

-- the gates so far are put, the others are as they were
abbrev pub invariant-loop-i : goal.invariant-loop-i
invariant-loop-i g l = record {
  put : (q : ℕ) → is_among (take l.i l.places) q ≡ true → IsTrace g.S.Stepper.answer (netlist l.former.old.now) (netlist l.former.new.now) l.traces q (suc l.t) × IsOwn (kept_at l.traces q) × ForSome (kept_at l.traces q) (λ patch. end_of patch.line ≤ suc l.t);
  others : (q : ℕ) → is_among (take l.i l.places) q ≡ false → kept_at l.traces q ≡ kept_at l.fn.traces q;
}
