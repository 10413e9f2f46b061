use Rattle.std.proofs.Common.{◌≡◌, ◌≤◌, ◌<◌, ℕ, true, take, length}
use Rattle.std.specs.Prelude.{slice_index_or}
use Rattle.edits.specs.kept.Touched.{is_touched}
use Rattle.bench.proofs.since.reach_all.Given as goal

-- there is room for the keys so far
abbrev pub invariant-loop-key : goal.invariant-loop-key
invariant-loop-key l = record {
  same : (key : ℕ) → slice_index_or l.versions.items key l.base ≡ slice_index_or l.fn.versions.items key l.base;
  longer : length l.fn.versions.items ≤ length l.versions.items;
  room : (key : ℕ) → is_touched (take l.key-index l.keys) key ≡ true → key < length l.versions.items;
}
