-- Records, each under a key and with a name, in the order in which they were added (own).
use Rattle.std.specs.Prelude.{Bool, ℕ, ◌==◌, nat_eq, List, map, Option, option_map}
use Rattle.std.specs.List.{find}
use Rattle.std.specs.Cmp.Lexicographic.{pointwise}

-- two names are the same
abbrev pub same_name : List ℕ → List ℕ → Bool
same_name a b = pointwise nat_eq a b

module _ {R : Type 0} where
  -- the records, in order
  abbrev pub records_of : List (ℕ × R) → List R
  records_of entries = map (λ e. e.1) entries

  -- the record under a key
  abbrev pub record_at : List (ℕ × R) → ℕ → Option R
  record_at entries key = option_map (λ e. e.1) (find (λ e. e.0 == key) entries)
