use Rattle.std.proofs.Common.{◌≡◌, drop, sym, subst}
use Rattle.hub.specs.kept.Issues.{IssueRecord, last_of}
use Rattle.hub.specs.kept.Rules.{Follows}
use Rattle.hub.proofs.Keeping.{sees}
use Rattle.hub.proofs.publisher.publish_by.Goals as goal

pub publish_as-requires : goal.publish_as-requires
publish_as-requires g c next is =
    let w = c.args.writer in
    let last : next ≡ last_of w.desk.shown.value (drop w.behind w.log.items) = is in
    sees _ _ _ next (subst (λ (i : IssueRecord). Follows w.desk.shown.value i) (sym last) c.requires)
