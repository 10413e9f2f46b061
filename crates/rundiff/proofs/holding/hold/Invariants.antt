use Rattle.std.proofs.Common.{◌≡◌, ℕ, take, ◌||◌, nat_cmp}
use Rattle.std.specs.BTreeSet.{contains}
use Rattle.design.specs.Keys.{netlist}
use Rattle.rundiff.specs.kept.Fronts.{AreDrivers}
use Rattle.rundiff.specs.kept.Places.{is_among}
use Rattle.rundiff.proofs.holding.hold.Given as goal

-- the nets so far are live
abbrev pub invariant-loop-place : goal.invariant-loop-place
invariant-loop-place l = record {
  drivers : AreDrivers (netlist l.new) (contains nat_cmp l.live) (contains nat_cmp l.held);
  live : (p : ℕ) → contains nat_cmp l.live p ≡ (is_among (take l.place-index l.found) p || contains nat_cmp l.fn.live p);
}
