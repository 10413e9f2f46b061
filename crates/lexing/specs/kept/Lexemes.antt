-- The longest token, or none, as a scan finds it.
use Rattle.std.specs.Prelude.{ℕ, ◌≡◌, List}
use Rattle.lexing.specs.declared.token.Shape.{Shape}
use Rattle.lexing.specs.declared.token.Shape.TheVariants as shape
use Rattle.lexing.specs.Lexemes.{IsLongest, IsNoToken}

-- what stands in front of bytes that begin with no white space: the longest token, or a byte that begins none
abbrev pub IsLexeme : List ℕ → Shape → ℕ → Type 0
IsLexeme bytes shape.Stray n = (n ≡ 1) × IsNoToken bytes
IsLexeme bytes kind n = IsLongest bytes kind n
