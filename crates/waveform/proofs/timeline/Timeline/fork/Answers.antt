use Rattle.std.proofs.Common.{◌≡◌, ◌∙◌, ℕ, None, ap, length, map, refl, subst, sym, take}
use Rattle.std.specs.List.{All}
use Rattle.std.proofs.Math.Seq.{take-append_seam}
use Rattle.std.proofs.lemmas.List.{length-map}
use Rattle.waveform.proofs.Ends.{until_end}
use Rattle.waveform.proofs.Turns.{until_then_after}
use Rattle.waveform.specs.kept.Marks.{AreMarks}
use Rattle.waveform.specs.Timelines.{entries_after, entries_until}
use Rattle.waveform.specs.kept.Timelines.{IsTimeline}
use Rattle.waveform.proofs.timeline.Timeline.fork.Goals as goal

pub invariant_of-result : goal.invariant_of-result
invariant_of-result g c =
    let sample = g.V.Sample in
    let all = map sample.stored c.self.inside.entries.items in
    let former = c.up_to-former.result.now in
    let can = λ (e : ℕ × g.row.V.Denot). sample.can_store e.0 e.1 in
    let until : map sample.stored former ≡ entries_until all c.args.t = cc in
    let copied : map sample.stored c.extend_from_slice.new.self.items ≡ map sample.stored former = rw (c.in_ok-extend_from_slice.ensures.items, c.in_ok-entries.ensures.items) refl in
    let size : length former ≡ length (entries_until all c.args.t) = sym (length-map former sample.stored) ∙ ap length until in
    let taken : take (length former) all ≡ entries_until all c.args.t =
    ap (λ n. take n all) size
    ∙ ap (take (length (entries_until all c.args.t))) (sym (until_then_after sample.same sample.drift c.args.t None all c.self.invariant.0.in_turn))
    ∙ take-append_seam (entries_until all c.args.t) (entries_after all c.args.t) in
    let marks : AreMarks sample.digit c.in_ok-marks.marks (map sample.stored former) =
    subst (AreMarks sample.digit c.in_ok-marks.marks) (taken ∙ sym until) (c.in_ok-marks.ensures all c.self.invariant.2) in
    subst (λ entries. IsTimeline sample.same sample.drift entries × All can entries × AreMarks sample.digit c.in_ok-marks.marks entries) (sym copied)
    (c.up_to-former.ensures.timeline, c.up_to-former.ensures.stored, marks)

pub returns-clause-end : goal.returns-clause-end
returns-clause-end g c =
    rw (c.in_ok-extend_from_slice.ensures.items, c.in_ok-entries.ensures.items, c.up_to-former.ensures.value) (until_end (map g.V.Sample.stored c.as_slice.result.now) c.args.t)
