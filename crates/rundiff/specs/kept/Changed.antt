-- Which nets have the waves that they had (own).
use Rattle.std.specs.Prelude.{◌≡◌, Bool, false, ℕ}
use Rattle.gatestep.specs.Step.{State, Evaluation}
use Rattle.design.specs.Keys.{Keyed}
use Rattle.design.specs.kept.Keys.{net_by_key}
use Rattle.rundiff.specs.kept.Finishing.{new_wave}

-- under each key that is not among those that changed, both designs have the same net, with the same wave
pub record AreChanged (answer : Evaluation → ℕ → State) (old new : Keyed) (has_changed : ℕ → Bool) : Type 0 where
  pub nets_stay : (key : ℕ) → has_changed key ≡ false → net_by_key new key ≡ net_by_key old key
  pub waves_stay : (key : ℕ) → has_changed key ≡ false → new_wave answer new key ≡ new_wave answer old key
