use Rattle.std.proofs.Common.{◌≡◌, ◌<◌, ◌≤◌, ◌*◌, ℕ, length, true}
use Rattle.std.specs.Prelude.{slice_index}
use Rattle.vcd.specs.Changes.{some_changes_at}
use Rattle.vcd.proofs.upcoming.Upcoming.first_time.Given as goal

abbrev pub invariant-loop-group : goal.invariant-loop-group
invariant-loop-group l =
    (l.first ≤ l.last) × ((k : ℕ) → k < l.group → l.first ≤ slice_index l.self.first k) ×
    ((t : ℕ) → t ≤ l.last → ((group : ℕ) → group * 256 < length l.waves.waves → t ≤ slice_index l.self.first group) → t ≤ l.first) ×
    (l.first < l.last → some_changes_at l.waves.waves l.first ≡ true)
