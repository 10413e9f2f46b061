use Rattle.std.proofs.Common.{◌≡◌, ◌<◌, ℕ, true, Some, slice_get}
use Rattle.design.specs.Keys.{netlist}
use Rattle.gateline.proofs.filling.find_rest.Given as goal
use Rattle.gateline.specs.kept.Known.{AreFound}

-- the waves of the nets so far are found
abbrev pub invariant-loop-place : goal.invariant-loop-place
invariant-loop-place g l =
    record {
      found : AreFound g.S.Stepper.answer (netlist l.design) l.found l.waves;
      marked : (m : ℕ) → m < l.place → slice_get l.found m ≡ Some true;
    }
