-- Delays that no cause refuses are good.
use Rattle.std.proofs.Common.{◌≡◌, ℕ, Bool, true, false, Option, Some, None, cond, ltb, ◌==◌, ◌≤◌, sym, ap, ◌∙◌, refl, arith}
use Rattle.std.proofs.lemmas.Bool.Decides.{nat_tests}
use Rattle.std.specs.Option.{unwrap_or}
use Rattle.fourstate.specs.kept.DelayLaws.{uniform_in_range}
use Rattle.fourstate.specs.Delays.{uniform_delays}
use Rattle.fourstate.specs.kept.Delays.{AreDelays, IsDelay}
use Rattle.fourstate.specs.declared.limits.TheConstants.{MAX_DELAY}
use Rattle.vtext.specs.declared.cause.Cause.TheVariants.{ZeroDelay, DelayTooLarge}
use Rattle.vtext.specs.declared.word.Word.{Word}
use Rattle.vtext.specs.Causes.{default_cause, delay_cause, gate_cause, is_hash, when}

within_limits : (n : ℕ) (zero large : Bool) → (n == 0) ≡ zero → ltb MAX_DELAY n ≡ large → cond zero (Some ZeroDelay) (when large DelayTooLarge) ≡ None → IsDelay n
within_limits n true large z l h = absurd cc
within_limits n false true z l h = absurd cc
within_limits n false false z l h =
    let some : 1 ≤ n = grind (arith, nat_tests) in
    let few : n ≤ MAX_DELAY = grind (arith, nat_tests) in
    (some, few)

pub good_delay : (n : ℕ) → delay_cause n ≡ None → IsDelay n
good_delay n h = within_limits n (n == 0) (ltb MAX_DELAY n) refl refl h

good_default : (default : Option ℕ) → default_cause default ≡ None → AreDelays (uniform_delays (unwrap_or default 0))
good_default None h = absurd cc
good_default (Some n) h = uniform_in_range n (good_delay n h)

-- the default delay is good, where no delay follows the word of a gate
pub default_timed : (default : Option ℕ) (next : Option Word) → gate_cause default next ≡ None → is_hash next ≡ false
    → AreDelays (uniform_delays (unwrap_or default 0))
default_timed default next free plain =
    good_default default (sym (ap (λ (hash : Bool). cond hash None (default_cause default)) plain) ∙ free)
