use Rattle.std.proofs.Common.{◌≡◌, ℕ, map, sym, subst}
use Rattle.std.specs.List.{All}
use Rattle.waveform.proofs.Drifts.{Drifts}
use Rattle.waveform.specs.kept.Joins.{spliced}
use Rattle.waveform.specs.kept.Timelines.{IsTimeline}
use Rattle.waveform.proofs.Marking.{no_marks}
use Rattle.waveform.specs.kept.Marks.{AreMarks}
use Rattle.waveform.proofs.Splices.{spliced_timeline, spliced_can_store, spliced_value}
use Rattle.waveform.proofs.timeline.Timeline.splice.Goals as goal

pub invariant_of-self : goal.invariant_of-self
invariant_of-self g c =
    let sample = g.V.Sample in
    let laws = g.met.V.Sample in
    let drifts : Drifts sample.same sample.drift = record { same_is_equal = laws.same_is_equal; equal_is_same = laws.equal_is_same; drift_twice = laws.drift_twice } in
    let mine = map sample.stored c.self.inside.entries.items in
    let theirs = map sample.stored c.other.inside.entries.items in
    let can = λ (e : ℕ × g.row.V.Denot). sample.can_store e.0 e.1 in
    let made : map sample.stored c.in_ok-entries.entries.items ≡ spliced sample.same sample.drift sample.start mine c.args.from c.args.to theirs =
    rw (← c.as_slice.ensures.value, ← c.as_slice-2.ensures.value) c.in_ok-entries.ensures in
    let both = c.self.invariant in
    let others = c.other.invariant in
    subst (λ entries. IsTimeline sample.same sample.drift entries × All can entries × AreMarks sample.digit c.none.result entries) (sym made) (
      spliced_timeline drifts sample.start mine theirs c.args.from c.args.to c.requires.order both.0 others.0,
      spliced_can_store drifts sample.start mine theirs c.args.from c.args.to c.requires.order both.0 others.0 sample.can_store laws.stored_later c.requires.within both.1 others.1,
      no_marks sample.digit c.none.result (spliced sample.same sample.drift sample.start mine c.args.from c.args.to theirs) c.none.ensures,
    )

pub returns-clause-ok : goal.returns-clause-ok
returns-clause-ok g c =
    let sample = g.V.Sample in
    let laws = g.met.V.Sample in
    let drifts : Drifts sample.same sample.drift = record { same_is_equal = laws.same_is_equal; equal_is_same = laws.equal_is_same; drift_twice = laws.drift_twice } in
    let mine = map sample.stored c.self.inside.entries.items in
    let theirs = map sample.stored c.other.inside.entries.items in
    let made : map sample.stored c.in_ok-entries.entries.items ≡ spliced sample.same sample.drift sample.start mine c.args.from c.args.to theirs =
    rw (← c.as_slice.ensures.value, ← c.as_slice-2.ensures.value) c.in_ok-entries.ensures in
    λ t. rw (made, ← c.self.view_is, ← c.other.view_is)
    (spliced_value drifts sample.start mine theirs c.args.from c.args.to c.requires.order c.self.invariant.0 c.other.invariant.0 t)
