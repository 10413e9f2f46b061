-- Moments that are kept in order, and those of two queues as one.
use Rattle.std.specs.Prelude.{◌≡◌, ◌≢◌, ◌<◌, ℕ, ◌+◌, ◌%◌, List, [], ◌∷◌, ◌++◌, map, take, drop, Option, IfSome, IfNone}
use Rattle.event_queue.specs.kept.Noted.{noted}

-- the moment t with the first list, the next moment with the next one and so on
abbrev pub in_row : (t : ℕ) → List (List ℕ) → List (ℕ × List ℕ)
in_row t [] = []
in_row t (list ∷ lists) = (t, list) ∷ in_row (t + 1) lists

-- the moment t and those after it, of which each has the list at its remainder by n
abbrev pub in_ring : (n t : ℕ) → List (List ℕ) → List (ℕ × List ℕ)
in_ring n t lists = in_row t (drop (t % n) lists ++ take (t % n) lists)

-- each moment has its numbers of the first queue, and behind them those of the second one
abbrev pub joined : (first second : List (ℕ × List ℕ)) → List (ℕ × List ℕ)
joined first second = map (λ e. (e.0, noted first e.0 ++ e.1)) second ++ first

-- the first moment for which a number is noted
abbrev pub IsFirst : List (ℕ × List ℕ) → Option ℕ → Type 0
IsFirst queue first =
    record {
      there : IfSome first (λ t. noted queue t ≢ []);
      least : IfSome first (λ t. (u : ℕ) → u < t → noted queue u ≡ []);
      none : IfNone first ((u : ℕ) → noted queue u ≡ []);
    }
