use Rattle.std.proofs.Common.{◌≡◌, ◌≤◌, ℕ, map, take}
use Rattle.gateline.proofs.old_line.OldLine.meeting.Given as goal
use Rattle.gateline.specs.kept.Waves.{inputs_by}

-- from the last meeting of the inputs so far on they read the same
abbrev pub invariant-loop-input : goal.invariant-loop-input
invariant-loop-input l =
    (t : ℕ) → l.last ≤ t → inputs_by (map (λ wave. wave.now) l.self.waves.now) (take l.input-index l.input-items) t ≡ inputs_by l.waves (take l.input-index l.input-items) t
