-- What the laws of timelines rest on.
use Rattle.std.specs.Prelude.{◌≡◌, ◌≤◌, ℕ, Bool, true}

-- `same` decides equality, and a value that drifts to s and then to u drifts to u
pub record Drifts {A : Type 0} (same : A → A → Bool) (drift : A → ℕ → A) : Type 0 where
  pub same_is_equal : (a b : A) → same a b ≡ true → a ≡ b
  pub equal_is_same : (a : A) → same a a ≡ true
  pub drift_twice : (a : A) (s u : ℕ) → s ≤ u → drift (drift a s) u ≡ drift a u
