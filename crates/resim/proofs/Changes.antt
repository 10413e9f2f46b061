-- Nets that a rerun changed.
use Rattle.std.proofs.Common.{ℕ, true, Result, Ok, Err, OnOk}
use Rattle.std.specs.Result.{IsErrAnd}
use Rattle.gatestep.specs.Step.{State, Evaluation}
use Rattle.design.specs.Keys.{Keyed}
use Rattle.rundiff.specs.kept.Changed.{AreChanged}

-- where all nets may have changed, none has to stay
pub all_changed : (answer : Evaluation → ℕ → State) (old new : Keyed) → AreChanged answer old new (λ key. true)
all_changed answer old new = record { nets_stay = λ key no. absurd (cc); waves_stay = λ key no. absurd (cc) }

-- a fault has no value
pub no_value : {A E : Type 0} (P : Type 0) (r : Result A E) (Q : E → Type 0) → IsErrAnd r Q → OnOk r P
no_value P (Ok x) Q is = absurd is
no_value P (Err e) Q is = tt
