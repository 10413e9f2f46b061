-- Lists of gate keys by net key.
use Rattle.std.specs.Prelude.{◌≡◌, Bool, ℕ, ◌==◌, ◌||◌, not, if◌then◌else◌, List, []}
use Rattle.std.specs.List.{filter, list_any, slice_index_or}

-- the list of a key, empty where none is kept
abbrev pub list_of : List (List ℕ) → ℕ → List ℕ
list_of lists key = slice_index_or lists key []

-- the keys without this one
abbrev pub without_key : List ℕ → ℕ → List ℕ
without_key keys key = filter (λ k. not (k == key)) keys

-- the key is in the list
abbrev pub contains : List ℕ → ℕ → Bool
contains list key = list_any (λ k. k == key) list

-- the list is in the order of all keys, and has each of its keys once
abbrev pub IsInOrder : List ℕ → List ℕ → Type 0
IsInOrder keys list = list ≡ filter (contains list) keys

-- the keys of the list and this one, in the order of all keys
abbrev pub with_key_in : List ℕ → ℕ → List ℕ → List ℕ
with_key_in keys key list = filter (λ k. k == key || contains list k) keys

-- the lists after a change of those whose keys pass
abbrev pub AreChanged : (ℕ → Bool) → (List ℕ → List ℕ) → List (List ℕ) → List (List ℕ) → Type 0
AreChanged test change lists new = (k : ℕ) → list_of new k ≡ (if test k then change (list_of lists k) else list_of lists k)
