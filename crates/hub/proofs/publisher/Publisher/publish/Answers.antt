use Rattle.std.proofs.Common.{◌∙◌, List, [], ap, subst, sym}
use Rattle.std.proofs.lemmas.List.{append-nil}
use Rattle.hubcore.specs.Lists.{EntryRecord, StartsWith}
use Rattle.hub.specs.kept.Issues.{issue_of}
use Rattle.hub.proofs.Beginnings.{starts_same}
use Rattle.hub.proofs.Keeping.{follows_from}
use Rattle.hub.proofs.publisher.Publisher.publish.Goals as goal

pub replace_with-requires : goal.replace_with-requires
replace_with-requires g c =
    follows_from g.J.HubName.origin g.J.HubName.book.history c.args.self.now c.args.commits.now c.self.inside.writer.desk.shown.value c.args.next (c.self.invariant ∙ ap (issue_of g.J.HubName.origin g.J.HubName.book.history) c.self.view_is) c.requires.next c.requires.later

pub returns-clause-within : goal.returns-clause-within
returns-clause-within g c =
    let all : List EntryRecord = c.args.commits.now in
    subst (λ (l : List EntryRecord). StartsWith all l) (sym c.again.ensures) (starts_same all)

pub returns-then-not-replace_with-clause-later : goal.returns-then-not-replace_with-clause-later
returns-then-not-replace_with-clause-later g c = ([], c.self.view_is ∙ sym (append-nil c.args.self.now))
