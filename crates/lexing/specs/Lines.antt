-- Lines of a text, counted from 1; only line feeds end one (own).
use Rattle.std.specs.Prelude.{ℕ, ◌+◌, ◌==◌, List, take, count_by}

-- the line of a place
abbrev pub line_of : List ℕ → ℕ → ℕ
line_of text at = 1 + count_by (λ b. b == 10) (take at text)
