use Rattle.std.proofs.Common.{◌≡◌, ◌<◌, ◌≤◌, ◌+◌, ◌∙◌, ap, sym, ℕ, suc, cond, inl, inr, arith}
use Rattle.std.proofs.lemmas.Bool.{cases_lt, le-ltb, lt-ltb}
use Rattle.std.proofs.lemmas.List.Elements.{All-weaker}
use Rattle.gatestep.specs.Step.{State, due, initial}
use Rattle.gateline.proofs.walk.go_along.Goals as goal
use Rattle.waveform.proofs.Ends.{below_end, end_within}
use Rattle.waveform.specs.Timelines.{entries_until, value_by}
use Rattle.waveform.specs.kept.Changes.{state_at}

pub follow-requires-clause-later : goal.follow-requires-clause-later
follow-requires-clause-later c = end_within c.args.trace (c.args.t + 1) c.requires.early

pub returns : goal.returns
returns c = λ f settled is whole agree.
    let t = c.args.t in let last = c.args.last in let new = c.in_ok-trace.trace in let old = c.args.old.now in
    let all = All-weaker (λ (e : ℕ × State). e.0 < suc last) (λ e. e.0 ≤ last) (λ e h. omega arith) new (below_end new (suc last) c.in_ok-trace.ensures.end) in
    let uncut : entries_until old last ≡ old =
    ap (λ l. entries_until l last) whole ∙ c.cut_of_changes.ensures (state_at old) last (suc last) (omega arith) ∙ sym whole in
    let values : (u : ℕ) → u < suc last → value_by due initial new u ≡ f u
    = λ u low. c.in_ok-trace.ensures.value u
    ∙ elim (cases_lt u (t + 1)) [
      | inl before ↦
          ap (λ b. cond b (value_by due initial c.args.trace u) (value_by due initial (entries_until old last) u)) (lt-ltb u (t + 1) before)
          ∙ ap (λ l. value_by due initial l u) is ∙ c.value_of_changes.ensures f settled u (suc t) (omega arith)
      | inr after ↦
          ap (λ b. cond b (value_by due initial c.args.trace u) (value_by due initial (entries_until old last) u)) (le-ltb u (t + 1) after)
          ∙ ap (λ l. value_by due initial l u) uncut ∙ agree u (omega arith) (omega arith)
    ] in
    c.changes_of_timeline.ensures.changes new c.last-last.ensures.timeline last all ∙ c.same_changes.ensures (value_by due initial new) f (suc last) values
