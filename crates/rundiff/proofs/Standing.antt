-- A stimulus stands while it has no point.
use Rattle.std.proofs.Common.{◌≡◌, ◌<◌, ◌≤◌, ◌∙◌, ap, false, ℕ, zero, suc, List, Option, Some, None, arith, ⊎_elim, IfSome, IsSomeAnd}
use Rattle.std.proofs.lemmas.Bool.{cases_lt, false_from_ne_true}
use Rattle.fourstate.specs.declared.value.Value.{Value}
use Rattle.design.specs.kept.Lawful.{AreRising}
use Rattle.design.specs.Netlist.{has_point, stimulus}
use Rattle.design.specs.kept.Netlist.{next_point}
use Rattle.scratch.proofs.Still.{same_stimulus}
use Rattle.rundiff.proofs.Points.{point_first}

later : (o : Option ℕ) (u end : ℕ) → u < end → IfSome o (λ m. end ≤ m) → IsSomeAnd o (λ m. m ≤ u) → ⊥
later None u end low late early = early
later (Some m) u end low late early = let after : end ≤ m = late in let before : m ≤ u = early in absurd (omega arith)

-- no point lies after t and before the next one
no_point : (points : List (ℕ × Value)) (t end : ℕ) (o : Option ℕ) → o ≡ next_point points t → AreRising points → IfSome o (λ m. end ≤ m) →
    (u : ℕ) → t < u → u < end → has_point points u ≡ false
no_point points t end o is rising late u from until = false_from_ne_true (has_point points u) (λ there. later o u end until late (point_first points t o is rising u from there))

stays : (points : List (ℕ × Value)) (t end : ℕ) → ((u : ℕ) → t < u → u < end → has_point points u ≡ false) → (m : ℕ) → t ≤ m → m < end →
    stimulus points m ≡ stimulus points t
stays points t end none zero from until = ap (λ (u : ℕ). stimulus points u) (let e : zero ≡ t = omega arith in e)
stays points t end none (suc m) from until =
    ⊎_elim (λ low. same_stimulus points m (none (suc m) low until) ∙ stays points t end none m (omega arith) (omega arith)) (λ high. ap (λ (u : ℕ). stimulus points u) (let e : suc m ≡ t = omega arith in e)) (cases_lt t (suc m))

-- where the next point lies at `end` or later, the stimulus before it is that at t
pub stands_until : (points : List (ℕ × Value)) (t end : ℕ) (o : Option ℕ) → o ≡ next_point points t → AreRising points → IfSome o (λ m. end ≤ m) →
    (m : ℕ) → t ≤ m → m < end → stimulus points m ≡ stimulus points t
stands_until points t end o is rising late = stays points t end (no_point points t end o is rising late)
