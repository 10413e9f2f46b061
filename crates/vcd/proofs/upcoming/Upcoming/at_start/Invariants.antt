use Rattle.std.proofs.Common.{◌≡◌, ◌<◌, ℕ, length}
use Rattle.vcd.specs.kept.Kept.{lefts}
use Rattle.vcd.specs.kept.Waves.{wave_in}
use Rattle.vcd.proofs.upcoming.Upcoming.at_start.Given as goal

abbrev pub invariant-loop-place : goal.invariant-loop-place
invariant-loop-place l = ((k : ℕ) → k < l.place → wave_in (lefts l.left) k ≡ wave_in l.waves.waves k) × (length l.left ≡ length l.fn.left)
