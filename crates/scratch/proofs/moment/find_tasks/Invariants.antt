use Rattle.std.proofs.Common.{◌≡◌, map, take}
use Rattle.std.specs.List.{zip}
use Rattle.scratch.specs.kept.Kept.{evaluation_from}
use Rattle.scratch.proofs.moment.find_tasks.Given as goal

-- the tasks of the cells so far
abbrev pub invariant-loop-place : goal.invariant-loop-place
invariant-loop-place l =
    l.out.items ≡ map (λ p. evaluation_from l.values p.0 p.1) (take l.place (zip l.wiring.cells.items l.states))
