use Rattle.std.proofs.Common.{◌≡◌, ℕ, ◌*◌, Some, None, if◌then◌else◌, nat_lt, min, length}
use Rattle.catalog.specs.kept.Blocks.{index_in}
use Rattle.catalog.specs.declared.blocks.TheConstants.{BLOCK}
use Rattle.catalog.proofs.blocks.first_keys.Given as goal

abbrev pub invariant-loop-place : goal.invariant-loop-place
invariant-loop-place l = (length l.blocks.items ≡ l.place) × ((key : ℕ) → index_in l.blocks.items key ≡ (if nat_lt key (min l.count (l.place * BLOCK)) then Some key else None))
