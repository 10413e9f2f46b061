-- The first token of a text from a place on, and what of the text is behind it.
use Rattle.std.specs.Prelude.{ℕ, Bool, true, false, ◌≡◌, ◌<◌, ◌≤◌, List, [], ◌∷◌, length}
use Rattle.lexing.specs.declared.token.Shape.{Shape}
use Rattle.lexing.specs.declared.token.Shape.TheVariants as shape
use Rattle.lexing.specs.declared.token.Token.{Token}
use Rattle.lexing.specs.Texts.{Spells}

-- the shape tells of bytes that spell no token
abbrev pub is_fault : Shape → Bool
is_fault shape.Unending = true
is_fault shape.Stray = true
is_fault kind = false

-- the token has a byte and lies within a text of this length
pub record IsInside (size : ℕ) (token : Token) : Type 0 where
  pub some : token.start < token.end
  pub within : token.end ≤ size

-- the token is the first one that the text spells from the place on: with what it spells behind the token, if that isn't the last
pub record IsNext (text : List ℕ) (from : ℕ) (token : Token) : Type 0 where
  pub inside : IsInside (length text) token
  pub start : from ≤ token.start
  pub last : is_fault token.shape ≡ true → Spells text from (token ∷ [])
  pub first : is_fault token.shape ≡ false → (rest : List Token) → Spells text token.end rest → Spells text from (token ∷ rest)
