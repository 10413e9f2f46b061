use Rattle.std.proofs.Common.{◌≡◌, take, All}
use Rattle.floor.specs.declared.stage.Stage.TheVariants.{Answered}
use Rattle.floor.proofs.floor.Floor.all_answered.Given as goal

-- each of the pieces so far was answered
abbrev pub invariant-loop-stage : goal.invariant-loop-stage
invariant-loop-stage l = All (λ s. s ≡ Answered) (take l.stage-index l.stage-items)
