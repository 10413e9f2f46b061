use Rattle.std.proofs.Common.{◌≡◌, ◌∙◌, List, ap, subst, sym}
use Rattle.hubcore.specs.Lists.{EntryRecord, StartsWith}
use Rattle.hub.specs.Desks.{DeskRecord, GoesOn}
use Rattle.hub.proofs.Beginnings.{goes_on}
use Rattle.hub.proofs.desk.Desk.submit.Goals as goal

pub returns-clause-goes_on : goal.returns-clause-goes_on
returns-clause-goes_on g c =
    let log : List EntryRecord = c.args.self.now.log in
    let before : List EntryRecord = c.args.editor.now.told in
    let was : List EntryRecord = c.args.self.now.shown in
    let shown : List EntryRecord = c.show-shown.new.self.shown in
    let unchanged : c.commit-reply.new.self.shown ≡ was = c.commit-reply.ensures.shown ∙ ap (λ (d : DeskRecord). d.shown) c.recall.ensures.same.0 in
    let grows : StartsWith shown was = subst (λ (l : List EntryRecord). StartsWith shown l) unchanged c.show-shown.ensures.grows in
    let note : c.note-note.result ≡ shown = c.note-note.ensures ∙ ap (λ (d : DeskRecord). d.shown) c.self.view_is in
    subst (λ (l : List EntryRecord). GoesOn log before l) (sym note) (goes_on log before was shown c.recall.ensures.log c.recall.ensures.begins grows)
