-- A function of time from a moment on: its value, and the changes that come.
use Rattle.std.specs.Prelude.{◌≡◌, ◌<◌, ◌≤◌, ◌==◌, ℕ, if◌then◌else◌, List, [], ◌∷◌}
use Rattle.fourstate.specs.declared.value.Value.{Value}
use Rattle.waveform.specs.declared.times.TheConstants.{TIME_END}

-- from m on f has the value v until the first of the changes, and then goes on by them
abbrev pub GoesOn : (ℕ → Value) → Value → List (ℕ × Value) → ℕ → Type 0
GoesOn f v [] m = (u : ℕ) → m ≤ u → f u ≡ v
GoesOn f v (e ∷ rest) m = ((u : ℕ) → m ≤ u → u < e.0 → f u ≡ v) × (m < e.0) × GoesOn f e.1 rest e.0

-- the moment of the first change; `TIME_END` where there is none
abbrev pub next_of : List (ℕ × Value) → ℕ
next_of [] = TIME_END
next_of (e ∷ rest) = e.0

-- the value at t, and the changes after it, where none lies before t
abbrev pub value_then : Value → List (ℕ × Value) → ℕ → Value
value_then v [] t = v
value_then v (e ∷ rest) t = if e.0 == t then e.1 else v

abbrev pub rest_then : List (ℕ × Value) → ℕ → List (ℕ × Value)
rest_then [] t = []
rest_then (e ∷ rest) t = if e.0 == t then rest else e ∷ rest
