-- Options of values whose clones are equal to them.
use Rattle.std.proofs.Common.{◌≡◌, Option, Some, None, refl, ap}

-- an option and its clone
pub option_exact : {X : Type 0} (S : Option X → Option X → Type 0) → ((x y : X) → S (Some x) (Some y) → y ≡ x) → ((y : X) → S None (Some y) → ⊥) → ((x : X) → S (Some x) None → ⊥) → (old new : Option X) → S old new → new ≡ old
option_exact S both more less None None h = refl
option_exact S both more less None (Some y) h = absurd (more y h)
option_exact S both more less (Some x) None h = absurd (less x h)
option_exact S both more less (Some x) (Some y) h = ap Some (both x y h)
