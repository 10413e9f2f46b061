use Rattle.std.proofs.Common.{ℕ, List, ap, ◌∙◌}
use Rattle.elaboration.specs.kept.Ranks.{fall}
use Rattle.elaboration.proofs.RankLemmas.{no_ranks}
use Rattle.elaboration.proofs.ranks.Ranks.of.Goals as goal

pub returns-then-fall : goal.returns-then-fall
returns-then-fall c =
    let modules = c.args.modules.now.modules in
    ap (λ (ranks : List (ℕ × ℕ)). fall ranks modules) c.none.ensures ∙ no_ranks modules
