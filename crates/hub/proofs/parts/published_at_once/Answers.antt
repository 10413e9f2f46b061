use Rattle.std.proofs.Common.{List, sym, subst}
use Rattle.hub.specs.kept.Issues.{IssueRecord, last_of}
use Rattle.hub.specs.kept.Rules.{Follows}
use Rattle.hub.proofs.Keeping.{follows_same}
use Rattle.hub.proofs.parts.published_at_once.Goals as goal

pub publish_by-requires : goal.publish_by-requires
publish_by-requires g c =
    let shown : IssueRecord = c.args.writer.desk.shown.value in
    subst (λ (l : List IssueRecord). Follows shown (last_of shown l)) (sym c.requires) (follows_same shown)
