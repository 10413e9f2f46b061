use Rattle.std.proofs.Common.{◌≡◌, ℕ, suc, ◌-◌, ◌<◌, ◌≤◌, length, get_or}
use Rattle.catalog.proofs.ascending.search.Given as goal

abbrev pub invariant-loop-from : goal.invariant-loop-from
invariant-loop-from l = (l.low ≤ l.from) × (l.from ≤ l.to) × (l.to ≤ length l.numbers) × ((i : ℕ) → suc i ≡ l.from → get_or l.numbers i 0 ≤ l.limit) × (l.to < length l.numbers → l.limit < get_or l.numbers l.to 0)

abbrev pub decreases-loop-from : goal.decreases-loop-from
decreases-loop-from l = l.to - l.from
