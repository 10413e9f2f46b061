use Rattle.std.proofs.Common.{◌≡◌, ℕ, true, false, take}
use Rattle.fourstate.specs.declared.value.Value.{Value}
use Rattle.fourstate.specs.Values.{same_value}
use Rattle.waveform.specs.Entries.{standing}
use Rattle.waveform.specs.kept.Patches.{Keeps}
use Rattle.rundiff.specs.kept.Fronts.{EndBy, IsFree}
use Rattle.rundiff.specs.kept.PlaceMaps.{kept_at}
use Rattle.rundiff.specs.kept.Places.{is_among}
use Rattle.rundiff.proofs.leaping.leave_all.Given as goal

-- the waves so far are left
abbrev pub invariant-loop-place : goal.invariant-loop-place
invariant-loop-place l = record {
  ends : EndBy l.waves l.t;
  free : (p : ℕ) → is_among (take l.place-index l.places) p ≡ true → IsFree (kept_at l.waves p);
  others : (p : ℕ) → is_among (take l.place-index l.places) p ≡ false → kept_at l.waves p ≡ kept_at l.fn.waves p;
  made : (p : ℕ) → (f g : ℕ → Value) → Keeps same_value standing g f (kept_at l.fn.waves p) l.t → Keeps same_value standing g f (kept_at l.waves p) l.t;
}
