use Rattle.std.proofs.Common.{◌≡◌, ℕ, ◌<◌, map, sym, subst}
use Rattle.std.specs.List.{All}
use Rattle.std.proofs.lemmas.List.Elements.{All-filter}
use Rattle.waveform.proofs.Drifts.{Drifts}
use Rattle.waveform.specs.kept.Joins.{joined}
use Rattle.waveform.specs.Timelines.{entries_after, entries_until, value_by}
use Rattle.waveform.specs.kept.Timelines.{IsTimeline, pushed}
use Rattle.waveform.proofs.Ends.{below_end, joined_end}
use Rattle.waveform.proofs.Joins.{joined_timeline, joined_all, joined_value}
use Rattle.waveform.proofs.Marking.{marks_kept, pushed_marks}
use Rattle.waveform.specs.kept.Marks.{AreMarks}
use Rattle.waveform.proofs.Pushes.{ends_before}
use Rattle.waveform.proofs.Splices.{value_can_store}
use Rattle.waveform.proofs.Turns.{until_timeline}
use Rattle.waveform.proofs.timeline.Timeline.follow.Goals as goal

pub invariant_of-result : goal.invariant_of-result
invariant_of-result g c =
    let sample = g.V.Sample in
    let laws = g.met.V.Sample in
    let drifts : Drifts sample.same sample.drift = record { same_is_equal = laws.same_is_equal; equal_is_same = laws.equal_is_same; drift_twice = laws.drift_twice } in
    let mine = map sample.stored c.self.inside.entries.items in
    let theirs = entries_until (map sample.stored c.other.inside.entries.items) c.args.to in
    let can = λ (e : ℕ × g.row.V.Denot). sample.can_store e.0 e.1 in
    let made : map sample.stored c.join.new.entries.items ≡ joined sample.same sample.drift sample.start mine c.args.from theirs =
    rw (← c.as_slice.ensures.value, ← c.up_to.ensures.value) c.in_ok-join.ensures in
    let later : All (λ (e : ℕ × g.row.V.Denot). e.0 < c.args.from) mine = below_end mine c.args.from (rw c.self.view_is c.requires.later) in
    let both = c.self.invariant in
    let cut = until_timeline sample.same sample.drift (map sample.stored c.other.inside.entries.items) c.args.to c.other.invariant.0 in
    let stored = All-filter _ can (map sample.stored c.other.inside.entries.items) c.other.invariant.1 in
    subst (λ entries. IsTimeline sample.same sample.drift entries × All can entries × AreMarks sample.digit c.self.inside.marks entries) (sym made) (
      joined_timeline drifts sample.start mine theirs c.args.from (ends_before mine c.args.from both.0.begins later) both.0.in_turn cut,
      joined_all drifts can sample.start mine theirs c.args.from both.1 (value_can_store drifts sample.can_store laws.stored_later sample.start theirs c.args.from cut stored c.requires.within) stored,
      marks_kept sample.digit c.self.inside.marks (pushed sample.same sample.drift mine c.args.from (value_by sample.drift sample.start theirs c.args.from)) (entries_after theirs c.args.from)
          (pushed_marks sample.digit sample.same sample.drift c.self.inside.marks mine c.args.from (value_by sample.drift sample.start theirs c.args.from) both.2),
    )

pub returns-clause-entries : goal.returns-clause-entries
returns-clause-entries g c = rw (← c.self.view_is, ← c.other.view_is, ← c.as_slice.ensures.value, ← c.up_to.ensures.value) c.in_ok-join.ensures

pub returns-clause-value : goal.returns-clause-value
returns-clause-value g c =
    let sample = g.V.Sample in
    let laws = g.met.V.Sample in
    let drifts : Drifts sample.same sample.drift = record { same_is_equal = laws.same_is_equal; equal_is_same = laws.equal_is_same; drift_twice = laws.drift_twice } in
    let mine = map sample.stored c.self.inside.entries.items in
    let theirs = entries_until (map sample.stored c.other.inside.entries.items) c.args.to in
    let made : map sample.stored c.join.new.entries.items ≡ joined sample.same sample.drift sample.start mine c.args.from theirs =
    rw (← c.as_slice.ensures.value, ← c.up_to.ensures.value) c.in_ok-join.ensures in
    let later : All (λ (e : ℕ × g.row.V.Denot). e.0 < c.args.from) mine = below_end mine c.args.from (rw c.self.view_is c.requires.later) in
    let cut = until_timeline sample.same sample.drift (map sample.stored c.other.inside.entries.items) c.args.to c.other.invariant.0 in
    λ u. rw (made, ← c.self.view_is, ← c.other.view_is)
    (joined_value drifts sample.start mine theirs c.args.from (ends_before mine c.args.from c.self.invariant.0.begins later) later cut u)

pub returns-clause-end : goal.returns-clause-end
returns-clause-end g c =
    let sample = g.V.Sample in
    let laws = g.met.V.Sample in
    let drifts : Drifts sample.same sample.drift = record { same_is_equal = laws.same_is_equal; equal_is_same = laws.equal_is_same; drift_twice = laws.drift_twice } in
    let mine = map sample.stored c.self.inside.entries.items in
    let other = map sample.stored c.other.inside.entries.items in
    rw (c.in_ok-join.ensures, c.up_to.ensures.value, c.as_slice.ensures.value)
    (joined_end drifts sample.start mine other c.args.from c.args.to c.requires.order (rw c.self.view_is c.requires.later))
