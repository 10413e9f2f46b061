use Rattle.std.proofs.Common.{◌≡◌, ◌<◌, ap, subst, ◌∙◌}
use Rattle.elaboration.specs.declared.limits.TheConstants.{MAX_DEPTH}
use Rattle.elaboration.specs.kept.Numbered.{SoFar, Start, kept_scopes, none, with_scopes}
use Rattle.elaboration.proofs.elaboration.scopes_of.Goals as goal

pub returns : goal.returns
unfolding kept_scopes
returns c =
    let names = c.args.modules.now.names in
    let modules = c.args.modules.now.modules in
    let same : with_scopes names modules MAX_DEPTH c.new-scopes.result c.in_ok-start.start ≡ kept_scopes names modules c.args.entry.now =
    ap (λ (s : SoFar). with_scopes names modules MAX_DEPTH s c.in_ok-start.start) c.new-scopes.ensures
    ∙ ap (λ (s : Start). with_scopes names modules MAX_DEPTH none s) c.in_ok-start.ensures in
    record {
      few = λ small. c.in_ok-add_all.ensures.few small ∙ same;
      many = λ past. subst (λ (s : SoFar). c.args.most < s.count) same (c.in_ok-add_all.ensures.many past);
    }
