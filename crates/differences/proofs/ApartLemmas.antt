-- From which moment on two waves differ.
use Rattle.std.proofs.Common.{◌≡◌, ◌<◌, ℕ, suc, nat_le, List, Bool, true, false, not, Option, Some, None, IfSome, refl, ap, sym, arith, cond, ◌∙◌}
use Rattle.std.proofs.lemmas.Bool.{leb-false, leb-true}
use Rattle.fourstate.specs.declared.value.Value.{Value}
use Rattle.fourstate.specs.kept.ValueLaws.{same_self}
use Rattle.fourstate.specs.Values.{same_value}
use Rattle.waveform.specs.Changes.{wave_at}
use Rattle.differences.specs.kept.Apart.{first_apart, up_to}
use Rattle.differences.proofs.FirstLemmas.{find_first, find_none}

abbrev apart_at : (xs ys : List (ℕ × Value)) → ℕ → Bool
apart_at xs ys t = not (same_value (wave_at xs t) (wave_at ys t))

not_apart : (xs ys : List (ℕ × Value)) (t : ℕ) → wave_at xs t ≡ wave_at ys t → apart_at xs ys t ≡ false
not_apart xs ys t e = ap (λ (v : Value). not (same_value v (wave_at ys t))) e ∙ ap not (same_self (wave_at ys t))

-- two waves first differ where they part, if that is not too late
pub first_apart_is : (xs ys : List (ℕ × Value)) (end : ℕ) (parting : Option ℕ) → ((t : ℕ) → IfSome parting (λ m. t < m) → wave_at xs t ≡ wave_at ys t)
    → IfSome parting (λ m. same_value (wave_at xs m) (wave_at ys m) ≡ false) → up_to end parting ≡ first_apart xs ys end
first_apart_is xs ys end None before there = sym (find_none (apart_at xs ys) (suc end) (λ t lt. not_apart xs ys t (before t tt)))
first_apart_is xs ys end (Some m) before there =
    let same : (t : ℕ) → t < m → apart_at xs ys t ≡ false = λ t lt. not_apart xs ys t (before t lt) in
    elim (nat_le m end) as (λ b. nat_le m end ≡ b → cond b (Some m) None ≡ first_apart xs ys end) [
      | true ↦ λ h. let le = leb-true m end h in sym (find_first (apart_at xs ys) (suc end) m (omega arith) (ap not there) same)
      | false ↦ λ h. let gt = leb-false m end h in sym (find_none (apart_at xs ys) (suc end) (λ t lt. same t (omega arith)))
    ] refl
