-- What follows of the words that the system gave.
use Rattle.std.proofs.Common.{◌≡◌, Result, Ok, Err, IfOk, subst}

-- what holds of some words holds of those that the system gave, where they are the same
pub along : {A E X : Type 0} (r : Result A E) (f : A → X) (x : X) (P : X → Type 0) → IfOk r (λ a. x ≡ f a) → P x → IfOk r (λ a. P (f a))
along (Ok a) f x P same holds = subst P same holds
along (Err e) f x P same holds = tt
