use Rattle.std.proofs.Common.{◌≡◌, ℕ, true, take, Some}
use Rattle.catalog.specs.kept.Catalog.{place_of}
use Rattle.rundiff.specs.kept.Places.{is_among}
use Rattle.rundiff.proofs.spreading.add_readers.Given as goal

-- the readers so far are added
abbrev pub invariant-loop-reader : goal.invariant-loop-reader
invariant-loop-reader l = record {
  more : (q : ℕ) → is_among l.fn.gates.items q ≡ true → is_among l.gates.items q ≡ true;
  readers : (key : ℕ) → is_among (take l.reader-index l.readers) key ≡ true → (q : ℕ) → place_of l.new.gates key ≡ Some q → is_among l.gates.items q ≡ true;
}
