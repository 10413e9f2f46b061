use Rattle.std.proofs.Common.{◌≡◌, ℕ, map, sym, subst}
use Rattle.std.specs.List.{All}
use Rattle.std.proofs.lemmas.List.Elements.{All-filter}
use Rattle.waveform.specs.Timelines.{entries_until}
use Rattle.waveform.specs.kept.Timelines.{IsTimeline}
use Rattle.waveform.proofs.Marking.{no_marks}
use Rattle.waveform.specs.kept.Marks.{AreMarks}
use Rattle.waveform.proofs.Turns.{until_timeline}
use Rattle.waveform.proofs.timeline.Timeline.cut.Goals as goal

pub invariant_of-self : goal.invariant_of-self
invariant_of-self g c =
    let sample = g.V.Sample in
    let old = map sample.stored c.self.inside.entries.items in
    let can = λ (e : ℕ × g.row.V.Denot). sample.can_store e.0 e.1 in
    let left : map sample.stored c.truncate.new.self.items ≡ entries_until old c.args.t = cc in
    subst (λ entries. IsTimeline sample.same sample.drift entries × All can entries × AreMarks sample.digit c.none.result entries) (sym left)
    (until_timeline sample.same sample.drift old c.args.t c.self.invariant.0, All-filter _ can old c.self.invariant.1, no_marks sample.digit c.none.result (entries_until old c.args.t) c.none.ensures)
