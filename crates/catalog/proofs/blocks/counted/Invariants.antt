use Rattle.std.proofs.Common.{◌≡◌, ℕ, ◌≤◌, ◌+◌, Some, None, if◌then◌else◌, nat_lt}
use Rattle.slab.specs.Slab.{get, slab_len}
use Rattle.catalog.proofs.blocks.counted.Given as goal

abbrev pub invariant-loop-key : goal.invariant-loop-key
invariant-loop-key l = (slab_len l.slab ≡ l.key) × (l.count ≤ l.slab.capacity) × ((key : ℕ) → get l.slab key ≡ (if nat_lt key l.key then Some (l.start + key) else None))
