use Rattle.std.proofs.Common.{◌≡◌, ◌∙◌, List, ap, subst}
use Rattle.hubcore.specs.Lists.{EntryRecord, StartsWith}
use Rattle.hub.specs.Desks.{DeskRecord, EditorRecord}
use Rattle.hub.proofs.Beginnings.{starts_on}
use Rattle.hub.proofs.desk.Desk.recall.Goals as goal

pub returns-clause-log : goal.returns-clause-log
returns-clause-log g c =
    let log : List EntryRecord = c.args.self.now.log in
    let shown : List EntryRecord = c.args.self.now.shown in
    let before : List EntryRecord = c.args.editor.now.told in
    let within : StartsWith log shown = subst (λ (d : DeskRecord). StartsWith d.log d.shown) c.self.view_is c.self.invariant.0.published in
    let all : c.commits.result.now ≡ shown = c.commits.ensures ∙ ap (λ (d : DeskRecord). d.shown) c.self.view_is in
    let front : c.last_told.result.now ≡ before = c.last_told.ensures ∙ ap (λ (e : EditorRecord). e.told) c.audit_told.ensures.same in
    starts_on log shown before within (subst (λ (l : List EntryRecord × List EntryRecord). StartsWith l.0 l.1) (λ i. (all i, front i)) c.begins_with.ensures)
