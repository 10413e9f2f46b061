use Rattle.std.proofs.Common.{◌≡◌, ◌<◌, ℕ, map, take, IfSome}
use Rattle.gateline.proofs.old_line.OldLine.parting.Given as goal
use Rattle.gateline.specs.kept.Waves.{inputs_by}

-- up to the first parting of the inputs so far they read the same
abbrev pub invariant-loop-input : goal.invariant-loop-input
invariant-loop-input l =
    (t : ℕ) → IfSome l.first (λ m. t < m) →
    inputs_by (map (λ wave. wave.now) l.self.waves.now) (take l.input-index l.input-items) t ≡ inputs_by l.waves (take l.input-index l.input-items) t
