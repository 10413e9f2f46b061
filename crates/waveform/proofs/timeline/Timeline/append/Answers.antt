use Rattle.std.proofs.Common.{ℕ, map, ◌≡◌, ◌∙◌, ◌<◌, sym, subst, ap, cond, false, [], ◌∷◌, ◌++◌}
use Rattle.std.specs.List.{All}
use Rattle.waveform.proofs.Drifts.{Drifts}
use Rattle.waveform.proofs.Marking.{pushed_marks}
use Rattle.waveform.specs.kept.Marks.{AreMarks}
use Rattle.waveform.specs.kept.Timelines.{IsTimeline, pushed, is_reached}
use Rattle.waveform.proofs.Pushes.{pushed_all, pushed_timeline}
use Rattle.waveform.proofs.timeline.Timeline.append.Goals as goal

pub invariant_of-self-2 : goal.invariant_of-self-2
invariant_of-self-2 g c =
    let sample = g.V.Sample in
    let laws = g.met.V.Sample in
    let drifts : Drifts sample.same sample.drift = record { same_is_equal = laws.same_is_equal; equal_is_same = laws.equal_is_same; drift_twice = laws.drift_twice } in
    let old = map sample.stored c.self.inside.entries.items in
    let e = sample.stored c.args.entry in
    let can = λ (e : ℕ × g.row.V.Denot). sample.can_store e.0 e.1 in
    let later : All (λ (x : ℕ × g.row.V.Denot). x.0 < e.0) old = rw c.self.view_is c.requires.later in
    let other : is_reached sample.same sample.drift old e.0 e.1 ≡ false = rw c.self.view_is c.requires.other in
    let is : pushed sample.same sample.drift old e.0 e.1 ≡ old ++ e ∷ [] = ap (λ b. cond b old (old ++ (e.0, e.1) ∷ [])) other in
    subst (λ entries. IsTimeline sample.same sample.drift entries × All can entries × AreMarks sample.digit c.self.inside.marks entries) (is ∙ sym c.in_ok-append.ensures.ok) (
      pushed_timeline drifts old e.0 e.1 c.self.invariant.0 later (laws.stored_is_settled e.0 e.1 c.requires.can),
      pushed_all drifts can old e.0 e.1 c.self.invariant.1 c.requires.can,
      pushed_marks sample.digit sample.same sample.drift c.self.inside.marks old e.0 e.1 c.self.invariant.2,
    )
