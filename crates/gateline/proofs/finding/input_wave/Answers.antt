use Rattle.std.proofs.Common.{◌≡◌, ◌<◌, ◌∙◌, ap, sym, subst, refl, suc, ℕ, [], ◌∷◌, All, arith}
use Rattle.design.specs.Netlist.{stimulus}
use Rattle.fourstate.specs.Values.{same_value}
use Rattle.fourstate.specs.declared.value.Value.{Value}
use Rattle.gateline.proofs.Points.{after_first, after_next, all_later, changes_before, none_before, none_left, value_there}
use Rattle.gateline.proofs.finding.input_wave.Goals as goal
use Rattle.gateline.proofs.finding.input_wave.Goals.{in-None, in-Some+else-t-eq0+then-t-end}
use Rattle.waveform.specs.Changes.{wave_changes_below}
use Rattle.waveform.specs.Entries.{standing}
use Rattle.waveform.specs.kept.Timelines.{pushed}

pub loop-t-init : goal.loop-t-init
loop-t-init c =
    record {
      upto = 1;
      begun = omega arith;
      within = omega arith;
      apart = all_later _ _ (sym c.points-t-items.ensures ∙ sym c.into_iter-t-iterator.ensures.into_iter_gives) c.lawful.ensures.rising;
      wave = c.in_ok-wave.ensures ∙ ap (λ v. (0, v) ∷ []) c.stimulus_at.ensures;
    }

pub loop-t-preserved-then-t-eq0 : goal.loop-t-preserved-then-t-eq0
loop-t-preserved-then-t-eq0 c =
    let before = c.loop-t.invariant in
    record {
      upto = before.upto;
      begun = before.begun;
      within = before.within;
      apart = after_first _ _ _ _ (c.in-Some.t, c.in-Some.value) _ before.apart c.in-Some.ensures.steps before.begun (omega arith);
      wave = before.wave;
    }

pub push-requires-clause-later : goal.push-requires-clause-later
push-requires-clause-later c =
    let before = c.loop-t.invariant in
    let s : ℕ → Value = stimulus c.args.net.now.points in
    let t = c.in-Some.t in
    let wave : c.loop-t.wave ≡ wave_changes_below s t = before.wave ∙ sym (changes_before _ _ _ _ (t, c.in-Some.value) _ before.apart c.in-Some.ensures.steps c.no_change.ensures before.begun (omega arith)) in
    subst (All (λ e. e.0 < t)) (sym wave) (c.changes_lie_before.ensures s t)

pub loop-t-preserved : goal.loop-t-preserved
loop-t-preserved c =
    let before = c.loop-t.invariant in
    let s : ℕ → Value = stimulus c.args.net.now.points in
    let t = c.in-Some.t in
    let some : 0 < t = omega arith in
    let wave : c.loop-t.wave ≡ wave_changes_below s t = before.wave ∙ sym (changes_before _ _ _ _ (t, c.in-Some.value) _ before.apart c.in-Some.ensures.steps c.no_change.ensures before.begun some) in
    let value : s t ≡ c.in-Some.value = value_there _ _ _ _ (t, c.in-Some.value) _ before.apart c.in-Some.ensures.steps some in
    record {
      upto = suc t;
      begun = omega arith;
      within = omega arith;
      apart = after_next _ _ _ _ (t, c.in-Some.value) _ before.apart c.in-Some.ensures.steps some;
      wave = c.in_ok-push.ensures.ok ∙ (λ i. pushed same_value standing (wave i) t (sym value i)) ∙ c.push_to_changes.ensures s (λ u. refl) t;
    }

pub returns : goal.returns
returns c =
    let before = c.loop-t.invariant in
    let s : ℕ → Value = stimulus c.args.net.now.points in
    let end = c.args.end in
    before.wave ∙ sym (c.no_change.ensures s before.upto end before.within
    (elim c.match-next.branch [
      | in-None w ↦ none_left _ _ _ _ end before.apart w.in-None.ensures.steps.0 before.begun
      | in-Some+else-t-eq0+then-t-end w ↦ none_before _ _ _ _ (w.in-Some.t, w.in-Some.value) _ before.apart w.in-Some.ensures.steps end before.begun w.if-t-end.true
    ]))
