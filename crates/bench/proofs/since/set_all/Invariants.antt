use Rattle.std.proofs.Common.{◌≡◌, ℕ, true, false, take, length}
use Rattle.std.specs.Prelude.{slice_index_or}
use Rattle.edits.specs.kept.Touched.{is_touched}
use Rattle.bench.proofs.since.set_all.Given as goal

-- the keys so far have the version
abbrev pub invariant-loop-key : goal.invariant-loop-key
invariant-loop-key l = record {
  long : length l.versions.items ≡ length l.fn.versions.items;
  set : (key base : ℕ) → is_touched (take l.key-index l.keys) key ≡ true → slice_index_or l.versions.items key base ≡ l.version;
  others : (key base : ℕ) → is_touched (take l.key-index l.keys) key ≡ false → slice_index_or l.versions.items key base ≡ slice_index_or l.fn.versions.items key base;
}
