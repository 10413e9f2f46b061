use Rattle.std.proofs.Common.{ap, ◌∙◌}
use Rattle.elaboration.specs.declared.limits.TheConstants.{MAX_DEPTH}
use Rattle.elaboration.specs.kept.Numbered.{PlacedScope}
use Rattle.vread.specs.kept.Searches.{any_below, any_scope}
use Rattle.vread.proofs.search.any_scope.Goals as goal

pub returns : goal.returns
unfolding any_scope
returns c = c.in_ok-found.ensures ∙ ap (λ (s : PlacedScope). any_below c.args.modules.now.names c.args.modules.now.modules c.args.wanted MAX_DEPTH 0 s) c.in_ok-scope.ensures
