use Rattle.std.proofs.Common.{◌≡◌, ℕ, true, take}
use Rattle.design.specs.Keys.{netlist}
use Rattle.design.specs.kept.Places.{driver_places}
use Rattle.rundiff.specs.kept.Places.{is_among, net_at}
use Rattle.rundiff.proofs.spreading.add_drivers.Given as goal

-- the drivers of the nets so far are added
abbrev pub invariant-loop-place : goal.invariant-loop-place
invariant-loop-place l = record {
  more : (q : ℕ) → is_among l.fn.gates.items q ≡ true → is_among l.gates.items q ≡ true;
  drivers : (p : ℕ) → is_among (take l.place-index l.nets) p ≡ true → (q : ℕ) → is_among (driver_places (netlist l.new).gates (net_at (netlist l.new) p).name) q ≡ true → is_among l.gates.items q ≡ true;
}
