use Rattle.std.proofs.Common.{◌≡◌, ◌<◌, ℕ, true, take, Some, All, length}
use Rattle.catalog.specs.kept.Catalog.{place_of}
use Rattle.design.specs.Keys.{KeyedGate, netlist}
use Rattle.design.specs.kept.Keys.{gate_by_key}
use Rattle.rundiff.specs.kept.Places.{is_among}
use Rattle.rundiff.proofs.opening.touched_places.Given as goal

-- the nets so far
abbrev pub invariant-loop-net : goal.invariant-loop-net
invariant-loop-net l = record {
  there : All (λ p. p < length (netlist l.new).nets) l.places.items;
  nets : (key : ℕ) → is_among (take l.net-index l.touched.nets.items) key ≡ true → (p : ℕ) → place_of l.new.nets key ≡ Some p → is_among l.places.items p ≡ true;
}

-- all nets, and the gates so far
abbrev pub invariant-loop-gate : goal.invariant-loop-gate
invariant-loop-gate l = record {
  there : All (λ p. p < length (netlist l.new).nets) l.places.items;
  nets : (key : ℕ) → is_among l.touched.nets.items key ≡ true → (p : ℕ) → place_of l.new.nets key ≡ Some p → is_among l.places.items p ≡ true;
  gates : (key : ℕ) → is_among (take l.gate-index l.touched.gates.items) key ≡ true → (g : KeyedGate) → gate_by_key l.new key ≡ Some g → (p : ℕ) → place_of l.new.nets g.output ≡ Some p → is_among l.places.items p ≡ true;
}
