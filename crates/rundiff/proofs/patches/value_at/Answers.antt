use Rattle.std.proofs.Common.{◌≡◌, ◌∙◌, ◌<◌, ◌≤◌, ◌+◌, ap, sym, subst, arith, suc, ℕ, List, Option, Some, All, ⊎_elim, option_copied}
use Rattle.rundiff.specs.kept.PlaceMaps.{kept_at}
use Rattle.waveform.specs.kept.Patches.{Keeps, PatchRecord}
use Rattle.waveform.specs.Timelines.{changes_below, value_by}
use Rattle.rundiff.proofs.NamedLines.{keeps_none, never_own, own_former}
use Rattle.rundiff.proofs.patches.value_at.Goals as goal

pub returns-in-Some-clause-value : goal.returns-in-Some-clause-value
returns-in-Some-clause-value g c = λ f old h n mine theirs stored below known kept.
    let V = g.V.Sample in
    let A = g.row.V.Denot in
    let is : kept_at c.args.patches.now c.args.place ≡ Some c.in-Some.patch.now = sym c.get.ensures.value ∙ ap option_copied c.in-Some.is in
    let Keep : (ℕ → A) → Option (PatchRecord A) → Type 0 = λ g o. Keeps V.same V.drift g f o n in
    let xs = c.args.old.now in
    let any = value_by V.drift V.start xs in
    let end = c.args.m + c.last.result.0 in
    ⊎_elim
    (λ own.
    let later : All (λ e. e.0 ≤ end) xs = λ k d low. let before = c.last.ensures.latest k d low in omega arith in
    let first : c.args.m < suc end = omega arith in
    c.at.ensures.value f any (suc end) n mine (c.changes_of_timeline.ensures.settled xs c.last.ensures.timeline) (c.changes_of_timeline.ensures.changes xs c.last.ensures.timeline end later) first known
    (subst (Keep any) is (own_former V.same V.drift f old any (kept_at c.args.patches.now c.args.place) n own kept)))
    (λ those. c.at.ensures.value f old h n mine theirs those below known (subst (Keep old) is kept))
    stored

pub returns-in-None-clause-value : goal.returns-in-None-clause-value
returns-in-None-clause-value g c = λ f old h n mine theirs stored below known kept.
    let V = g.V.Sample in
    let none = sym c.get.ensures.value ∙ ap option_copied c.in-None.is in
    let those : c.args.old.now ≡ changes_below V.same V.drift old h = ⊎_elim (λ own. absurd (never_own (kept_at c.args.patches.now c.args.place) none own)) (λ same. same) stored in
    c.at-in-None.ensures.value
    ∙ ap (λ (xs : List (ℕ × g.row.V.Denot)). value_by V.drift V.start xs c.args.m) those
    ∙ c.value_of_changes.ensures old theirs c.args.m h below
    ∙ sym (keeps_none V.same V.drift f old n (kept_at c.args.patches.now c.args.place) none kept c.args.m known)
