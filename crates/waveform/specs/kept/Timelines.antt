-- What timelines keep: their times rise and no value repeats; and the next entry of one.
use Rattle.std.specs.Prelude.{◌≡◌, ◌<◌, ℕ, suc, Bool, false, if◌then◌else◌, Option, Some, None, List, [], ◌∷◌, ◌++◌, length, max}
use Rattle.std.specs.List.{last_or}
use Rattle.std.specs.Option.{option_map_or}

-- at each moment the function's value is as it stands there: nothing in it is still to move
abbrev pub IsAlwaysSettled : {A : Type 0} → (A → ℕ → A) → (ℕ → A) → Type 0
IsAlwaysSettled drift f = (t : ℕ) → drift (f t) t ≡ f t

-- the first moment that lies after all entries
abbrev pub end_of : {A : Type 0} → List (ℕ × A) → ℕ
end_of [] = 0
end_of (e ∷ es) = max (suc e.0) (end_of es)

-- v is what the last entry drifts to at t
abbrev pub is_reached : {A : Type 0} → (A → A → Bool) → (A → ℕ → A) → List (ℕ × A) → ℕ → A → Bool
is_reached same drift entries t v = option_map_or (λ e. same v (drift e.1 t)) (last_or None entries) false

-- the entries with the value v from t on, a moment after all of them: no entry is added where v is reached by itself
abbrev pub pushed : {A : Type 0} → (A → A → Bool) → (A → ℕ → A) → List (ℕ × A) → ℕ → A → List (ℕ × A)
pushed same drift entries t v = if is_reached same drift entries t v then entries else entries ++ (t, v) ∷ []

-- an entry may follow another one, if there is one: it lies later, and has another value than the one before it drifted to
-- its time. The first one lies at 0.
abbrev pub MayFollow : {A : Type 0} → (A → A → Bool) → (A → ℕ → A) → Option (ℕ × A) → ℕ × A → Type 0
MayFollow same drift None e = e.0 ≡ 0
MayFollow same drift (Some d) e = (d.0 < e.0) × (same e.1 (drift d.1 e.0) ≡ false)

-- a value at a time is as it stands there: nothing in it is still to move
abbrev pub IsSettled : {A : Type 0} → (A → ℕ → A) → ℕ × A → Type 0
IsSettled drift e = drift e.1 e.0 ≡ e.1

-- each entry is settled and may follow the one before it, the first one the given one
abbrev pub AreInTurn : {A : Type 0} → (A → A → Bool) → (A → ℕ → A) → Option (ℕ × A) → List (ℕ × A) → Type 0
AreInTurn same drift before [] = Unit {0}
AreInTurn same drift before (e ∷ es) = IsSettled drift e × MayFollow same drift before e × AreInTurn same drift (Some e) es

-- the first entry lies at 0, the times rise strictly, and each entry is settled and has another value than the one before it
-- drifted to its time
pub record IsTimeline {A : Type 0} (same : A → A → Bool) (drift : A → ℕ → A) (entries : List (ℕ × A)) : Type 0 where
  pub begins : 0 < length entries
  pub in_turn : AreInTurn same drift None entries
