use Rattle.std.proofs.Common.{ℕ, map, ◌<◌, sym, subst}
use Rattle.std.specs.List.{All}
use Rattle.waveform.proofs.Drifts.{Drifts}
use Rattle.waveform.proofs.Marking.{pushed_marks}
use Rattle.waveform.specs.kept.Marks.{AreMarks}
use Rattle.waveform.specs.kept.Timelines.{IsTimeline}
use Rattle.waveform.proofs.Pushes.{ends_before, pushed_all, pushed_timeline, pushed_value}
use Rattle.waveform.proofs.timeline.Timeline.push.Goals as goal

pub invariant_of-self-2 : goal.invariant_of-self-2
invariant_of-self-2 g c =
    let sample = g.V.Sample in
    let laws = g.met.V.Sample in
    let drifts : Drifts sample.same sample.drift = record { same_is_equal = laws.same_is_equal; equal_is_same = laws.equal_is_same; drift_twice = laws.drift_twice } in
    let old = map sample.stored c.self.inside.entries.items in
    let t = c.args.t in
    let v = c.args.value in
    let can = λ (e : ℕ × g.row.V.Denot). sample.can_store e.0 e.1 in
    let later : All (λ (e : ℕ × g.row.V.Denot). e.0 < t) old = rw c.self.view_is c.requires.later in
    subst (λ entries. IsTimeline sample.same sample.drift entries × All can entries × AreMarks sample.digit c.self.inside.marks entries) (sym c.in_ok-push_value.ensures.ok) (
      pushed_timeline drifts old t v c.self.invariant.0 later (laws.stored_is_settled t v c.requires.can),
      pushed_all drifts can old t v c.self.invariant.1 c.requires.can,
      pushed_marks sample.digit sample.same sample.drift c.self.inside.marks old t v c.self.invariant.2,
    )

pub returns-clause-value : goal.returns-clause-value
returns-clause-value g c =
    let sample = g.V.Sample in
    let laws = g.met.V.Sample in
    let drifts : Drifts sample.same sample.drift = record { same_is_equal = laws.same_is_equal; equal_is_same = laws.equal_is_same; drift_twice = laws.drift_twice } in
    let old = map sample.stored c.self.inside.entries.items in
    let later : All (λ (e : ℕ × g.row.V.Denot). e.0 < c.args.t) old = rw c.self.view_is c.requires.later in
    λ u. rw (c.in_ok-push_value.ensures.ok, ← c.self.view_is)
    (pushed_value drifts sample.start old c.args.t c.args.value (ends_before old c.args.t c.self.invariant.0.begins later) later u)
