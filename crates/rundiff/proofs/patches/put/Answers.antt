use Rattle.std.proofs.Common.{◌≡◌, ◌≤◌, ◌+◌, sym, subst, arith, suc, ℕ, Option, Some, All, ⊎_elim}
use Rattle.rundiff.specs.kept.PlaceMaps.{kept_at}
use Rattle.waveform.specs.kept.Patches.{Keeps, PatchRecord}
use Rattle.waveform.specs.Timelines.{value_by}
use Rattle.rundiff.proofs.NamedLines.{any_former, own_former}
use Rattle.rundiff.proofs.patches.put.Goals as goal

pub returns-clause-made : goal.returns-clause-made
returns-clause-made g c = λ f old h mine theirs stored within kept same.
    let V = g.V.Sample in
    let A = g.row.V.Denot in
    let t = c.args.t in
    let was = kept_at c.args.patches.now c.args.place in
    let taken : c.take.result ≡ was = c.take.ensures.value in
    let patch = c.in_ok-patch.patch in
    let now : kept_at c.put.new.self c.args.place ≡ Some patch = c.in_ok-put.ensures.value in
    let KeepAt : (ℕ → A) → Option (PatchRecord A) → ℕ → Type 0 = λ g o n. Keeps V.same V.drift g f o n in
    let made = c.in_ok-patch.ensures.made in
    let xs = c.args.old.now in
    let any = value_by V.drift V.start xs in
    let end = t + c.last.result.0 in
    subst (λ (o : Option (PatchRecord A)). KeepAt old o (suc t)) (sym now)
    (⊎_elim
    (λ own.
    let later : All (λ e. e.0 ≤ end) xs = λ k d low. let before = c.last.ensures.latest k d low in omega arith in
    let first : t ≤ suc end = omega arith in
    any_former V.same V.drift f any old patch.line patch.since (suc t) c.in_ok-patch.ensures.own
    (made f any (suc end) mine (c.changes_of_timeline.ensures.settled xs c.last.ensures.timeline) (c.changes_of_timeline.ensures.changes xs c.last.ensures.timeline end later) first
    (subst (λ (o : Option (PatchRecord A)). KeepAt any o t) (sym taken) (own_former V.same V.drift f old any was t own kept)) same))
    (λ those. made f old h mine theirs those within (subst (λ (o : Option (PatchRecord A)). KeepAt old o t) (sym taken) kept) same)
    stored)
