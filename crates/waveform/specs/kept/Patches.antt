-- A function of time beside a former one.
use Rattle.std.specs.Prelude.{◌≡◌, ◌<◌, ◌≤◌, ℕ, Bool, List, Option, Some, None}
use Rattle.waveform.specs.Timelines.{changes_below}

-- what is kept of a function: entries, and the moment from which on it has the former function's values, if there is one
pub record PatchRecord (A : Type 0) : Type 0 where
  pub line : List (ℕ × A)
  pub since : Option ℕ

-- what is kept is the new function below n: the entries are its changes below n; or they are those below `since`, and from
-- then on, below n, it has the former function's values
abbrev pub IsMended : {A : Type 0} → (A → A → Bool) → (A → ℕ → A) → (old new : ℕ → A) → List (ℕ × A) → (since : Option ℕ) → ℕ → Type 0
IsMended same drift old new line None n = line ≡ changes_below same drift new n
IsMended same drift old new line (Some s) n =
    (line ≡ changes_below same drift new s) × (s ≤ n) × ((m : ℕ) → s ≤ m → m < n → new m ≡ old m)

-- the new function below n, where a patch may stand for it: with none it has the former function's values
abbrev pub Keeps : {A : Type 0} → (A → A → Bool) → (A → ℕ → A) → (old new : ℕ → A) → Option (PatchRecord A) → ℕ → Type 0
Keeps same drift old new None n = (t : ℕ) → t < n → new t ≡ old t
Keeps same drift old new (Some patch) n = IsMended same drift old new patch.line patch.since n
