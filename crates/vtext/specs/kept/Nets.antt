-- The place of a net in the order.
use Rattle.std.specs.Prelude.{ℕ, nat_eq, List, map, position, Option}
use Rattle.vtext.specs.declared.net.Net.{Net}

-- the place of a net in the order
abbrev pub place_of : List (ℕ × Net) → ℕ → Option ℕ
place_of nets n = position (nat_eq n) (map (λ net. net.0) nets)
