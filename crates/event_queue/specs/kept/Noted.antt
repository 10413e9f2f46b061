-- Numbers that are noted for moments to come: moments, each with its numbers in the order in which they were noted.
use Rattle.std.specs.Prelude.{◌≡◌, ◌≢◌, ℕ, List, [], ◌∷◌, ◌++◌, nat_eq, if◌then◌else◌, IfSome}
use Rattle.std.specs.Map.{lookup}
use Rattle.std.specs.Option.{option_map_or}
use Rattle.std.specs.Ordering.{is_eq, nat_cmp}

-- the numbers that are noted for t
abbrev pub noted : List (ℕ × List ℕ) → ℕ → List ℕ
noted queue t = option_map_or (λ numbers. numbers) (lookup (λ moment. is_eq (nat_cmp t moment)) queue) []

-- each moment that is kept has a number
abbrev pub IsFilled : List (ℕ × List ℕ) → Type 0
IsFilled queue = (t : ℕ) → IfSome (lookup (λ moment. is_eq (nat_cmp t moment)) queue) (λ numbers. numbers ≢ [])

-- the same numbers are noted
abbrev pub AreSame : (old new : List (ℕ × List ℕ)) → Type 0
AreSame old new = (u : ℕ) → noted new u ≡ noted old u

-- a number more is noted for t
abbrev pub IsAdded : (t number : ℕ) → (old new : List (ℕ × List ℕ)) → Type 0
IsAdded t number old new = (u : ℕ) → noted new u ≡ (if nat_eq t u then noted old u ++ number ∷ [] else noted old u)

-- no number is noted for t any more
abbrev pub IsTaken : (t : ℕ) → (old new : List (ℕ × List ℕ)) → Type 0
IsTaken t old new = (u : ℕ) → noted new u ≡ (if nat_eq t u then [] else noted old u)
