use Rattle.std.proofs.Common.{◌≡◌, ◌≢◌, sym, ap, ◌∙◌, take, length, All, arith}
use Rattle.std.proofs.lemmas.Grind.{common_steps}
use Rattle.std.proofs.lemmas.List.Elements.{All-same}
use Rattle.floor.proofs.Standing.{none_waits}
use Rattle.floor.specs.kept.Pieces.{first_waiting}
use Rattle.floor.specs.declared.stage.Stage.TheVariants as stage
use Rattle.floor.proofs.floor.Floor.first_waiting.Goals as goal

pub returns-clause-number : goal.returns-clause-number
returns-clause-number c =
    let whole : c.self.inside.stages.items ≡ take c.loop-number.number c.self.inside.stages.items = grind (arith, common_steps) in
    let others : All (λ s. s ≢ stage.Waiting) c.self.inside.stages.items = All-same (λ s. s ≢ stage.Waiting) c.self.inside.stages.items (take c.loop-number.number c.self.inside.stages.items) whole c.loop-number.invariant in
    let count : c.len.result ≡ length c.self.inside.stages.items = grind (arith, common_steps) in
    count ∙ sym (ap (λ s. first_waiting s.pieces) (sym c.self.view_is) ∙ none_waits _ _ 0 c.self.inside.stages.items _ others)
