use Rattle.std.proofs.Common.{◌≡◌, length, sym, ap, ◌∙◌, set, slice_get, All, Some, is_none}
use Rattle.std.proofs.lemmas.List.{length-set}
use Rattle.floor.proofs.Changes.{stage_set, out_of, out_not_all, never_none, after_fail}
use Rattle.floor.specs.kept.Pieces.{fail_reply, after, Fail}
use Rattle.floor.specs.declared.stage.Stage.TheVariants as stage
use Rattle.floor.proofs.floor.Floor.fail.Goals as goal

pub invariant_of-self : goal.invariant_of-self
invariant_of-self c =
    let ss = c.self.inside.stages.items in
    let k = c.args.number in
    let ok = ap (λ s. fail_reply s k) c.self.view_is ∙ c.in_ok-awaited.ensures.ok in
    let out : slice_get ss k ≡ Some stage.Out = out_of c.self.inside.tasks (length ss) ss _ k ok in
    let same : length (set ss k stage.Failed) ≡ length ss = length-set ss k stage.Failed in
    record {
      some = rw same c.self.invariant.some;
      few = rw same c.self.invariant.few;
      whole = c.self.invariant.whole;
      given = never_none (All (λ s. s ≡ stage.Answered) (set ss k stage.Failed)) c.self.inside.answers c.self.invariant.given (out_not_all ss k out);
    }

pub returns-clause-state : goal.returns-clause-state
returns-clause-state c =
    let ss = c.self.inside.stages.items in
    let k = c.args.number in
    let ok = ap (λ s. fail_reply s k) c.self.view_is ∙ c.in_ok-awaited.ensures.ok in
    ap (λ it. record { tasks = c.self.inside.tasks; pieces = it; given = is_none c.self.inside.answers }) (stage_set c.self.inside.tasks ss _ k stage.Failed)
    ∙ sym (ap (λ s. after s (Fail k)) (sym c.self.view_is) ∙ after_fail _ k ok)
