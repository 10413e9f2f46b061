use Rattle.std.proofs.Common.{◌≡◌, ℕ, ◌+◌, ◌<◌, length, get_or}
use Rattle.catalog.proofs.gaps.counts.Given as goal

abbrev pub invariant-loop-place : goal.invariant-loop-place
invariant-loop-place l = (length l.counts.items ≡ l.place) × ((i : ℕ) → i < l.place → get_or l.counts.items i 0 + i ≡ get_or l.indices.items i 0)
