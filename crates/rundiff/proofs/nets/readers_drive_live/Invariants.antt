use Rattle.std.proofs.Common.{◌≡◌, ℕ, true, take, Some, nat_cmp}
use Rattle.std.specs.BTreeSet.{contains}
use Rattle.catalog.specs.kept.Catalog.{place_of}
use Rattle.design.specs.Keys.{KeyedGate}
use Rattle.design.specs.kept.Keys.{gate_by_key}
use Rattle.rundiff.specs.kept.Places.{is_among}
use Rattle.rundiff.proofs.nets.readers_drive_live.Given as goal

-- the nets that the readers so far drive are live
abbrev pub invariant-loop-reader : goal.invariant-loop-reader
invariant-loop-reader l =
    (key : ℕ) → is_among (take l.reader-index l.readers) key ≡ true → (gate : KeyedGate) → gate_by_key l.new key ≡ Some gate → (q : ℕ) × (place_of l.new.nets gate.output ≡ Some q) × (contains nat_cmp l.all_live q ≡ true)
