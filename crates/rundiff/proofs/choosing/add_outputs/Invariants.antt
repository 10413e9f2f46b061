use Rattle.std.proofs.Common.{◌≡◌, ◌<◌, ℕ, All, true, length, take}
use Rattle.design.specs.Keys.{netlist}
use Rattle.rundiff.specs.kept.Places.{gate_at, is_among, is_live}
use Rattle.rundiff.proofs.choosing.add_outputs.Given as goal

-- the outputs so far are added
abbrev pub invariant-loop-place : goal.invariant-loop-place
invariant-loop-place l = record {
  there : All (λ p. p < length (netlist l.new).nets) l.fn.nets.items → All (λ p. p < length (netlist l.new).nets) l.nets.items;
  more : (p : ℕ) → is_among l.fn.nets.items p ≡ true → is_among l.nets.items p ≡ true;
  driven : (q : ℕ) → is_among (take l.place-index l.gates) q ≡ true → is_live (netlist l.new) (is_among l.nets.items) (gate_at (netlist l.new) q).output ≡ true;
}
