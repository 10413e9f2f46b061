use Rattle.std.proofs.Common.{◌<◌, ◌∙◌, ap, subst, IfSome}
use Rattle.waveform.specs.kept.Partings.{parting}
use Rattle.waveform.proofs.Partings.{parted_before, parted_there}
use Rattle.waveform.proofs.apart.Timeline+Value.parting.Goals as goal

pub returns-clause-before : goal.returns-clause-before
returns-clause-before c = λ t early.
    let is = c.first_apart.ensures ∙ ap (λ xs. parting xs c.changes-2.result.now) c.changes.ensures ∙ ap (parting c.args.self.now) c.changes-2.ensures in
    parted_before c.args.self.now c.args.other.now c.last-mine.ensures.timeline c.last-theirs.ensures.timeline t (subst (λ o. IfSome o (λ m. t < m)) is early)

pub returns-clause-there : goal.returns-clause-there
returns-clause-there c =
    let is = c.first_apart.ensures ∙ ap (λ xs. parting xs c.changes-2.result.now) c.changes.ensures ∙ ap (parting c.args.self.now) c.changes-2.ensures in
    rw is (parted_there c.args.self.now c.args.other.now c.last-mine.ensures.timeline c.last-theirs.ensures.timeline)
