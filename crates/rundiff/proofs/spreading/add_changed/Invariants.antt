use Rattle.std.proofs.Common.{◌≡◌, ℕ, true, take}
use Rattle.design.specs.Keys.{netlist}
use Rattle.rundiff.specs.kept.Places.{is_among}
use Rattle.rundiff.specs.kept.Steady.{IsSteady}
use Rattle.rundiff.proofs.spreading.add_changed.Given as goal

-- the readers of the nets so far that changed are added
abbrev pub invariant-loop-place : goal.invariant-loop-place
invariant-loop-place g l = record {
  more : (q : ℕ) → is_among l.fn.gates.items q ≡ true → is_among l.gates.items q ≡ true;
  steady : (p : ℕ) → is_among (take l.place-index l.nets) p ≡ true → IsSteady g.S.Stepper.answer (netlist l.former.new.now) (is_among l.gates.items) l.t p;
}
