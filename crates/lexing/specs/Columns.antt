-- Columns of a text, counted from 1 in bytes (own).
use Rattle.std.specs.Prelude.{ℕ, ◌+◌, ◌==◌, not, List, take, reverse}
use Rattle.std.specs.List.{prefix_len}

-- the column of a place: how many bytes stand before it, back to a line feed
abbrev pub column_of : List ℕ → ℕ → ℕ
column_of text at = 1 + prefix_len (λ b. not (b == 10)) (reverse (take at text))
