use Rattle.std.proofs.Common.{◌≡◌, ℕ, take}
use Rattle.std.specs.Prelude.{◌||◌}
use Rattle.scratch.specs.kept.Places.{has}
use Rattle.scratch.proofs.stirring.insert_readers.Given as goal

-- the readers so far
abbrev pub invariant-loop-place : goal.invariant-loop-place
invariant-loop-place l = (k : ℕ) → has k l.gates ≡ (has k l.fn.gates || has k (take l.place-index l.readers))
