use Rattle.std.proofs.Common.{◌≡◌, ◌-◌, map, drop, length}
use Rattle.std.specs.List.{find}
use Rattle.waveform.proofs.marks.first_from.Given as goal

-- the entries from here on have the same first one
abbrev pub invariant-loop-from : goal.invariant-loop-from
invariant-loop-from g l =
    find (λ e. g.V.Sample.same e.1 l.value) (map g.V.Sample.stored (drop l.from l.entries)) ≡ find (λ e. g.V.Sample.same e.1 l.value) (map g.V.Sample.stored (drop l.place l.entries))

abbrev pub decreases-loop-from : goal.decreases-loop-from
decreases-loop-from g l = length l.entries - l.from
