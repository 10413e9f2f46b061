-- A timeline: a function of time, kept as entries. An entry (t, a) says that from t on, up to the next entry, the value at u
-- is `drift a u`. A drift says how a value moves by itself while time goes on; of a value that stands it is `λ v t. v` (own).
use Rattle.std.specs.Prelude.{ℕ, zero, suc, Bool, true, not, ◌&&◌, nat_lt, nat_le, Option, None, List, [], ◌∷◌, ◌++◌, map}
use Rattle.std.specs.List.{filter, find, last_or}
use Rattle.std.specs.Option.{option_map_or}

-- the moments below n, in order
abbrev pub moments : ℕ → List ℕ
moments zero = []
moments (suc n) = moments n ++ n ∷ []

-- a function of time changes at t: it has another value than the one before it drifted to t. At 0 it begins.
abbrev pub is_change : {A : Type 0} → (A → A → Bool) → (A → ℕ → A) → (ℕ → A) → ℕ → Bool
is_change same drift f zero = true
is_change same drift f (suc t) = not (same (f (suc t)) (drift (f t) (suc t)))

-- its changes at the moments below n, in order of time
abbrev pub changes_below : {A : Type 0} → (A → A → Bool) → (A → ℕ → A) → (ℕ → A) → ℕ → List (ℕ × A)
changes_below same drift f n = map (λ t. (t, f t)) (filter (is_change same drift f) (moments n))

-- the entries at t or before
abbrev pub entries_until : {A : Type 0} → List (ℕ × A) → ℕ → List (ℕ × A)
entries_until entries t = filter (λ e. nat_le e.0 t) entries

-- the entries before t
abbrev pub entries_before : {A : Type 0} → List (ℕ × A) → ℕ → List (ℕ × A)
entries_before entries t = filter (λ e. nat_lt e.0 t) entries

-- the entries after t
abbrev pub entries_after : {A : Type 0} → List (ℕ × A) → ℕ → List (ℕ × A)
entries_after entries t = filter (λ e. nat_lt t e.0) entries

-- the latest entry at t or before
abbrev pub latest : {A : Type 0} → List (ℕ × A) → ℕ → Option (ℕ × A)
latest entries t = last_or None (entries_until entries t)

-- the value at t: that of the latest entry, drifted to t; `start` where no entry is at t or before
abbrev pub value_by : {A : Type 0} → (A → ℕ → A) → A → List (ℕ × A) → ℕ → A
value_by drift start entries t = option_map_or (λ e. drift e.1 t) (latest entries t) start

-- the first entry after t
abbrev pub first_after : {A : Type 0} → List (ℕ × A) → ℕ → Option (ℕ × A)
first_after entries t = find (λ e. nat_lt t e.0) entries

-- the last entry before t
abbrev pub last_before : {A : Type 0} → List (ℕ × A) → ℕ → Option (ℕ × A)
last_before entries t = last_or None (entries_before entries t)

-- the first entry after t of the value v
abbrev pub next_to : {A : Type 0} → (A → A → Bool) → List (ℕ × A) → ℕ → A → Option (ℕ × A)
next_to same entries t v = find (λ e. nat_lt t e.0 && same e.1 v) entries
