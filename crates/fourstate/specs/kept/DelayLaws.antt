-- Delays within the limits, and delays that are the same.
use Rattle.std.specs.Prelude.{◌≡◌, ◌&&◌, ◌==◌, min, Bool, true, false, ℕ, refl, Option, Some, None, IfSome, unwrap_or}
use Rattle.std.specs.Option.{option_map_or}
use Rattle.std.proofs.Common.{ap, arith}
use Rattle.std.proofs.lemmas.Bool.{eqb-true}
use Rattle.std.proofs.lemmas.Bool.Decides.{nat_tests}
use Rattle.fourstate.specs.Delays.{delay_to, lesser, same_delays, same_off, uniform_delays, with_fall, with_off}
use Rattle.fourstate.specs.kept.Delays.{AreDelays, IsDelay}
use Rattle.fourstate.specs.declared.delay_times.DelayTimes.{DelayTimes}
use Rattle.fourstate.specs.declared.value.Value.{Value}
use Rattle.fourstate.specs.declared.value.Value.TheVariants.{Zero, One, Unknown, HighZ}

off_in_range : (lesser : ℕ) (off : Option ℕ) → IsDelay lesser → IfSome off IsDelay → IsDelay (unwrap_or off lesser)
off_in_range lesser None is given = is
off_in_range lesser (Some off) is given = given

least_in_range : (lesser : ℕ) (off : Option ℕ) → IsDelay lesser → IfSome off IsDelay → IsDelay (option_map_or (min lesser) off lesser)
least_in_range lesser None is given = is
least_in_range lesser (Some off) is given = omega arith

lesser_in_range : (delays : DelayTimes) → AreDelays delays → IsDelay (lesser delays)
lesser_in_range delays are = let rise = are.rise in let fall = are.fall in omega arith

-- where each of a gate's delays is within the limits, so is the delay to each value
pub delay_in_range : (delays : DelayTimes) → AreDelays delays → (to : Value) → IsDelay (delay_to delays to)
delay_in_range delays are Zero = are.fall
delay_in_range delays are One = are.rise
delay_in_range delays are Unknown = least_in_range (lesser delays) delays.off (lesser_in_range delays are) are.off
delay_in_range delays are HighZ = off_in_range (lesser delays) delays.off (lesser_in_range delays are) are.off

-- one delay within the limits is good for each change
pub uniform_in_range : (delay : ℕ) → IsDelay delay → AreDelays (uniform_delays delay)
uniform_in_range delay is = record { rise = is; fall = is; off = tt }

-- delays within the limits stay so with another fall within them
pub with_fall_in_range : (delays : DelayTimes) (fall : ℕ) → AreDelays delays → IsDelay fall → AreDelays (with_fall delays fall)
with_fall_in_range delays fall are is = record { rise = are.rise; fall = is; off = are.off }

-- delays within the limits stay so with a turn-off delay within them
pub with_off_in_range : (delays : DelayTimes) (off : ℕ) → AreDelays delays → IsDelay off → AreDelays (with_off delays off)
with_off_in_range delays off are is = record { rise = are.rise; fall = are.fall; off = is }

first_of : (a b : Bool) → (a && b) ≡ true → a ≡ true
first_of true b both = refl
first_of false b both = cc

second_of : (a b : Bool) → (a && b) ≡ true → b ≡ true
second_of true b both = both
second_of false b both = cc

same_off_equal : (a b : Option ℕ) → same_off a b ≡ true → a ≡ b
same_off_equal None None same = refl
same_off_equal None (Some b) same = cc
same_off_equal (Some a) None same = cc
same_off_equal (Some a) (Some b) same = ap (λ (n : ℕ). Some n) (eqb-true a b same)

-- delays that are the same are equal
pub same_delays_equal : (a b : DelayTimes) → same_delays a b ≡ true → a ≡ b
same_delays_equal a b same =
    let two = first_of (a.rise == b.rise && a.fall == b.fall) (same_off a.off b.off) same in
    let rise = eqb-true a.rise b.rise (first_of (a.rise == b.rise) (a.fall == b.fall) two) in
    let fall = eqb-true a.fall b.fall (second_of (a.rise == b.rise) (a.fall == b.fall) two) in
    let off = same_off_equal a.off b.off (second_of (a.rise == b.rise && a.fall == b.fall) (same_off a.off b.off) same) in
    λ i. record { rise = rise i; fall = fall i; off = off i }

number_itself : (n : ℕ) → (n == n) ≡ true
number_itself n = grind (arith, nat_tests)

off_itself : (off : Option ℕ) → same_off off off ≡ true
off_itself None = refl
off_itself (Some off) = number_itself off

-- delays are the same as themselves
pub delays_itself : (delays : DelayTimes) → same_delays delays delays ≡ true
delays_itself delays = rw (number_itself delays.rise, number_itself delays.fall, off_itself delays.off) refl
