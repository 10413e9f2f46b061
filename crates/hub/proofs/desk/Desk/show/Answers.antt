use Rattle.std.proofs.Common.{List, subst}
use Rattle.hubcore.specs.Lists.{EntryRecord, StartsWith}
use Rattle.hub.specs.Desks.{DeskRecord}
use Rattle.hub.proofs.Beginnings.{starts_on, told_within}
use Rattle.hub.proofs.desk.Desk.show.Goals as goal

pub invariant_of-self : goal.invariant_of-self
invariant_of-self g c =
    let kept = c.self.invariant in
    let log : List EntryRecord = c.self.inside.log.items in
    let history : List EntryRecord = c.self.inside.history in
    let shown : List EntryRecord = c.publish.new.self in
    let begins : StartsWith history shown = subst (λ (l : List EntryRecord). StartsWith l shown) c.all-all.ensures c.publish.ensures.within in (
      record {
        present_is = kept.0.present_is;
        published = starts_on log history shown kept.2 begins;
        first_is = kept.0.first_is;
        second_is = kept.0.second_is;
        all = kept.0.all;
      },
      kept.1,
      kept.2,
      begins,
      told_within _ _ _ _ c.publish.ensures.later kept.4,
    )

pub returns-clause-grows : goal.returns-clause-grows
returns-clause-grows g c = subst (λ (d : DeskRecord). StartsWith c.publish.new.self d.shown) c.self.view_is c.publish.ensures.later
