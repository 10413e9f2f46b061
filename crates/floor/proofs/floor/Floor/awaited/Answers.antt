use Rattle.std.proofs.Common.{◌≡◌, ◌<◌, length, get_or, sym, ap, ◌∙◌, arith}
use Rattle.std.proofs.lemmas.Grind.{common_steps}
use Rattle.floor.proofs.Changes.{awaited_at}
use Rattle.floor.specs.kept.Pieces.{fail_reply}
use Rattle.floor.specs.declared.stage.Stage.TheVariants.{Waiting, Out, Answered, Failed}
use Rattle.floor.proofs.floor.Floor.awaited.Goals as goal

pub returns-in-Waiting-clause-err : goal.returns-in-Waiting-clause-err
returns-in-Waiting-clause-err c =
    let below : c.args.number < length c.self.inside.stages.items = grind (arith, common_steps) in
    let is : Waiting ≡ get_or c.self.inside.stages.items c.args.number Waiting = grind (arith, common_steps) in
    ap (λ s. fail_reply s c.args.number) (sym c.self.view_is) ∙ awaited_at _ _ c.self.inside.stages.items _ c.args.number Waiting below is

pub returns-in-Out-clause-ok : goal.returns-in-Out-clause-ok
returns-in-Out-clause-ok c =
    let below : c.args.number < length c.self.inside.stages.items = grind (arith, common_steps) in
    let is : Out ≡ get_or c.self.inside.stages.items c.args.number Out = grind (arith, common_steps) in
    ap (λ s. fail_reply s c.args.number) (sym c.self.view_is) ∙ awaited_at _ _ c.self.inside.stages.items _ c.args.number Out below is

pub returns-in-Answered-clause-err : goal.returns-in-Answered-clause-err
returns-in-Answered-clause-err c =
    let below : c.args.number < length c.self.inside.stages.items = grind (arith, common_steps) in
    let is : Answered ≡ get_or c.self.inside.stages.items c.args.number Answered = grind (arith, common_steps) in
    ap (λ s. fail_reply s c.args.number) (sym c.self.view_is) ∙ awaited_at _ _ c.self.inside.stages.items _ c.args.number Answered below is

pub returns-in-Failed-clause-err : goal.returns-in-Failed-clause-err
returns-in-Failed-clause-err c =
    let below : c.args.number < length c.self.inside.stages.items = grind (arith, common_steps) in
    let is : Failed ≡ get_or c.self.inside.stages.items c.args.number Failed = grind (arith, common_steps) in
    ap (λ s. fail_reply s c.args.number) (sym c.self.view_is) ∙ awaited_at _ _ c.self.inside.stages.items _ c.args.number Failed below is
