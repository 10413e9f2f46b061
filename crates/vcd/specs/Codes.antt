-- Identifier codes: how a dump names nets (IEEE 1364-2005, 18.2: printable characters, 33 to 126; which ones is own).
use Rattle.std.specs.Prelude.{ℕ, zero, suc, true, false, ◌+◌, ◌-◌, ◌/◌, ◌%◌, nat_lt, List, [], ◌∷◌}

-- the first bytes of the code of n, at most so many
abbrev pub code_within : ℕ → ℕ → List ℕ
code_within zero n = []
code_within (suc most) n = (33 + n % 94) ∷ elim (nat_lt n 94) [ true ↦ [] | false ↦ code_within most (n / 94 - 1) ]

-- The code of net n, from 0: the byte 33 + n mod 94, followed for n at least 94 by the code of n/94 - 1. It has at most n + 1
-- bytes.
unfoldable pub code_of : ℕ → List ℕ
code_of n = code_within (suc n) n
