use Rattle.std.proofs.Common.{◌≡◌, sym, ap, ◌∙◌, take, All, arith}
use Rattle.std.proofs.lemmas.Grind.{common_steps}
use Rattle.std.proofs.lemmas.List.Elements.{All-more, All-same}
use Rattle.floor.proofs.Standing.{all_are_answered}
use Rattle.floor.specs.kept.Pieces.{all_answered}
use Rattle.floor.specs.declared.stage.Stage.TheVariants as stage
use Rattle.floor.proofs.floor.Floor.all_answered.Goals as goal

pub loop-stage-preserved : goal.loop-stage-preserved
loop-stage-preserved c = All-more (λ s. s ≡ stage.Answered) c.as_slice-stage-items.result.now c.loop-stage.stage-index stage.Waiting c.loop-stage-test.true c.loop-stage.invariant (grind (arith, common_steps))

pub returns : goal.returns
returns c =
    let whole : c.self.inside.stages.items ≡ take c.loop-stage.stage-index c.as_slice-stage-items.result.now = grind (arith, common_steps) in
    let all : All (λ s. s ≡ stage.Answered) c.self.inside.stages.items = All-same (λ s. s ≡ stage.Answered) c.self.inside.stages.items (take c.loop-stage.stage-index c.as_slice-stage-items.result.now) whole c.loop-stage.invariant in
    sym (ap (λ s. all_answered s.pieces) (sym c.self.view_is) ∙ all_are_answered _ _ 0 c.self.inside.stages.items _ all)
