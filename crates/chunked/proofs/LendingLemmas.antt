-- What is known of a call that gives an element for writing, where it failed.
use Rattle.std.proofs.Common.{◌≡◌, Result, Ok, Err, OnErr, refl, subst}
use Rattle.std.specs.Result.{IsErrAnd}

-- what the call says of its error
pub at_err : {T E : Type 0} (P : Type 0) {r : Result T E} {e : E} → r ≡ Err e → OnErr r P → P
at_err P is h = subst (λ r. OnErr r P) is h

-- an error, as it is
pub error_of : {T E : Type 0} (Q : E → Type 0) (r : Result T E) → IsErrAnd r Q → (e : E) × (r ≡ Err e)
error_of Q (Ok x) h = absurd h
error_of Q (Err e) h = (e, refl)
