use Rattle.std.proofs.Common.{◌≡◌, ◌<◌, ℕ, true, take, Some, All, length}
use Rattle.catalog.specs.kept.Catalog.{place_of}
use Rattle.design.specs.Keys.{KeyedGate, netlist}
use Rattle.design.specs.kept.Keys.{gate_by_key}
use Rattle.rundiff.specs.kept.Places.{is_among}
use Rattle.rundiff.proofs.nets.add_readers.Given as goal

-- the nets that the readers so far drive are found
abbrev pub invariant-loop-reader : goal.invariant-loop-reader
invariant-loop-reader l = record {
  there : All (λ p. p < length (netlist l.new).nets) l.fn.found.items → All (λ p. p < length (netlist l.new).nets) l.found.items;
  more : (p : ℕ) → is_among l.fn.found.items p ≡ true → is_among l.found.items p ≡ true;
  readers : (key : ℕ) → is_among (take l.reader-index l.readers) key ≡ true → (gate : KeyedGate) → gate_by_key l.new key ≡ Some gate → (q : ℕ) × (place_of l.new.nets gate.output ≡ Some q) × (is_among l.found.items q ≡ true);
}
