use Rattle.std.proofs.Common.{◌≢◌, take, All}
use Rattle.floor.specs.declared.stage.Stage.TheVariants.{Waiting}
use Rattle.floor.proofs.floor.Floor.first_waiting.Given as goal

-- none of the pieces so far waits
abbrev pub invariant-loop-number : goal.invariant-loop-number
invariant-loop-number l = All (λ s. s ≢ Waiting) (take l.number l.self-inside.stages.items)
