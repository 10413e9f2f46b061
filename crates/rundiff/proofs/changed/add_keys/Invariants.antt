use Rattle.std.proofs.Common.{◌≡◌, ℕ, true, take, Some, slice_get}
use Rattle.catalog.specs.kept.Catalog.{keys_of}
use Rattle.edits.specs.kept.Touched.{is_touched}
use Rattle.rundiff.specs.kept.Places.{is_among}
use Rattle.rundiff.proofs.changed.add_keys.Given as goal

-- the keys so far are added
abbrev pub invariant-loop-place : goal.invariant-loop-place
invariant-loop-place l = record {
  more : (key : ℕ) → is_touched l.fn.keys.items key ≡ true → is_touched l.keys.items key ≡ true;
  added : (p key : ℕ) → is_among (take l.place-index l.places) p ≡ true → slice_get (keys_of l.new.nets) p ≡ Some key → is_touched l.keys.items key ≡ true;
}
