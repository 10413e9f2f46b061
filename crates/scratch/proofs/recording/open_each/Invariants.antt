use Rattle.std.proofs.Common.{◌≡◌, ◌∷◌, [], map, take}
use Rattle.scratch.proofs.recording.open_each.Given as goal

-- a timeline for each value so far
abbrev pub invariant-loop-value : goal.invariant-loop-value
invariant-loop-value g l = l.lines.items ≡ map (λ v. (0, v) ∷ []) (take l.value-index l.values)
