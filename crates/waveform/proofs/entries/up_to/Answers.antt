use Rattle.std.proofs.Common.{ℕ, nat_le, map, subst, sym}
use Rattle.std.specs.List.{All}
use Rattle.std.proofs.lemmas.List.Elements.{All-filter}
use Rattle.waveform.specs.kept.Timelines.{IsTimeline}
use Rattle.waveform.proofs.Turns.{until_timeline}
use Rattle.waveform.proofs.entries.up_to.Goals as goal

pub returns-clause-timeline : goal.returns-clause-timeline
returns-clause-timeline g c =
    let sample = g.V.Sample in
    subst (λ entries. IsTimeline sample.same sample.drift entries) (sym c.count_until.ensures.until)
    (until_timeline sample.same sample.drift (map sample.stored c.args.entries.now) c.args.t c.requires.timeline)

pub returns-clause-stored : goal.returns-clause-stored
returns-clause-stored g c =
    let sample = g.V.Sample in
    let can = λ (e : ℕ × g.row.V.Denot). sample.can_store e.0 e.1 in
    subst (λ entries. All can entries) (sym c.count_until.ensures.until)
    (All-filter (λ e. nat_le e.0 c.args.t) can (map sample.stored c.args.entries.now) c.requires.stored)
