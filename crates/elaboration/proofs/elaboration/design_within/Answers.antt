use Rattle.std.proofs.Common.{ℕ, ◌<◌, ◌≤◌, Some, ap, sym, subst, ◌∙◌}
use Rattle.vtext.specs.Modules.{ModuleEntry}
use Rattle.elaboration.specs.kept.Numbered.{kept_scopes}
use Rattle.elaboration.proofs.ElaborationLemmas.{all_distinct, crowded, elaborated}
use Rattle.elaboration.proofs.elaboration.design_within.Goals as goal

pub scopes_of-requires : goal.scopes_of-requires
scopes_of-requires c = all_distinct c.args.modules.now.names c.args.modules.now.modules c.requires.sound

pub returns-then-count-most-clause-many : goal.returns-then-count-most-clause-many
returns-then-count-most-clause-many c = λ none.
    crowded c.args.modules.now c.args.top.now c.requires.sound c.args.most
    (subst (λ (m : ModuleEntry). c.args.most < (kept_scopes c.args.modules.now.names c.args.modules.now.modules m).count) (ap (λ (t : ℕ × ModuleEntry). t.1) c.top.view_is)
    (c.in_ok-scopes.ensures.many (subst (λ (n : ℕ). c.args.most < n) c.count.ensures c.if-count-most.true)))

pub returns-clause-whole : goal.returns-clause-whole
returns-clause-whole c = λ text faultless.
    elaborated c.args.modules.now (c.top.inside.name, c.top.inside.entry.now) c.requires.sound text c.in_ok-scopes.scopes faultless (c.requires.top ∙ ap (λ (t : ℕ × ModuleEntry). Some t) (sym c.top.view_is))
    (c.in_ok-scopes.ensures.few (subst (λ (n : ℕ). n ≤ c.args.most) c.count.ensures c.if-count-most.false))
