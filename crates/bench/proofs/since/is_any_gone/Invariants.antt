use Rattle.std.proofs.Common.{◌≡◌, ℕ, true, take}
use Rattle.edits.specs.kept.Touched.{is_touched}
use Rattle.bench.specs.kept.Since.{KeepsName}
use Rattle.bench.proofs.since.is_any_gone.Given as goal

-- the nets so far are there
abbrev pub invariant-loop-key : goal.invariant-loop-key
invariant-loop-key l = (key : ℕ) → is_touched (take l.key-index l.touched.nets.items) key ≡ true → KeepsName l.old l.new key
