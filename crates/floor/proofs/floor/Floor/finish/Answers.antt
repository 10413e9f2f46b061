use Rattle.std.proofs.Common.{option_map, sym, ap, ◌∙◌}
use Rattle.floor.proofs.Finishing.{held, given_on, none_kept}
use Rattle.floor.specs.kept.Pieces.{Finish, all_answered, finished, after}
use Rattle.floor.proofs.floor.Floor.finish.Goals as goal

pub returns-clause-answers : goal.returns-clause-answers
returns-clause-answers c =
    let all = ap (λ s. all_answered s.pieces) c.self.view_is ∙ sym c.if-not-all_answered.ensures in
    ap (option_map (λ v. v.items)) c.take.ensures.value
    ∙ given_on (λ v. v.items) c.self.inside.tasks c.self.inside.stages.items c.self.inside.answers c.self.invariant.whole c.self.invariant.some all
    ∙ ap finished c.self.view_is

pub returns-clause-state : goal.returns-clause-state
returns-clause-state c =
    let all = ap (λ s. all_answered s.pieces) c.self.view_is ∙ sym c.if-not-all_answered.ensures in
    ap (held (λ v. v.items) c.self.inside.tasks c.self.inside.stages.items) c.take.ensures.after
    ∙ none_kept (λ v. v.items) c.self.inside.tasks c.self.inside.stages.items c.self.inside.answers all
    ∙ ap (λ s. after s Finish) c.self.view_is
