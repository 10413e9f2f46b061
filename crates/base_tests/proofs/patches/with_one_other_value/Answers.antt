use Rattle.std.proofs.Common.{◌≡◌, ℕ, ◌+◌, ◌<◌, ◌≤◌, ◌∙◌, sym, ap, subst, Some, None, Option, List, refl, arith, add-one}
use Rattle.std.specs.Prelude.{unwrap_or}
use Rattle.std.proofs.lemmas.Result.{IfOk-weaker}
use Rattle.fourstate.specs.declared.value.Value.{Value}
use Rattle.fourstate.specs.Values.{same_value}
use Rattle.waveform.specs.Entries.{standing}
use Rattle.waveform.specs.kept.Patches.{IsMended}
use Rattle.base_tests.proofs.patches.with_one_other_value.Goals as goal

-- what was left at s stays right while both functions have the same values
stays : (f g : ℕ → Value) (line : List (ℕ × Value)) (since : Option ℕ) (s n : ℕ) → since ≡ Some s → s ≤ n → ((u : ℕ) → s ≤ u → u < n → f u ≡ g u) →
    IsMended same_value standing g f line since s → IsMended same_value standing g f line since n
stays f g line None s n at within alike mended = absurd (cc)
stays f g line (Some r) s n at within alike mended =
    let here : r ≡ s = cc in (mended.0, rw here within, λ u from before. alike u (omega arith) before)

pub returns : goal.returns
returns c =
    let later : c.args.t < c.args.end = c.requires.order in
    let since : c.leave.new.self.since ≡ Some (c.args.t + 1) =
    c.leave.ensures.since ∙ ap (λ o. Some (unwrap_or o (c.args.t + 1))) c.in_ok-patch.ensures.own in
    IfOk-weaker c.finish.result _ _
    (λ line made f g h stored within before now after.
    let opened = c.in_ok-patch.ensures.made f g h (λ t. refl) stored (omega arith) before now in
    let left = c.leave.ensures.made f g (subst (λ n. IsMended same_value standing g f c.in_ok-patch.patch.line c.in_ok-patch.patch.since n) (sym (add-one c.args.t)) opened) in
    made f g h (λ t. refl) (λ t. refl) stored within
    (stays f g c.leave.new.self.line c.leave.new.self.since (c.args.t + 1) c.args.end since (omega arith) (λ u from below. after u (omega arith) below) left))
    c.finish.ensures.made
