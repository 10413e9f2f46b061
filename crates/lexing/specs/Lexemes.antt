-- Which bytes are a token, and the longest token in front of the bytes (IEEE 1364-2005, 3).
use Rattle.std.specs.Prelude.{ℕ, Bool, true, false, ◌≡◌, ◌<◌, ◌≤◌, ◌==◌, ◌&&◌, not, nat_lt, List, [], ◌∷◌, length, take}
use Rattle.std.specs.List.{list_all}
use Rattle.lexing.specs.Classes.{is_letter, is_digit, is_name_byte, is_number_byte, is_printed}
use Rattle.lexing.specs.Constants.{begins_constant}
use Rattle.lexing.specs.Directives.{directive, is_whole}
use Rattle.lexing.specs.declared.token.Shape.{Shape}
use Rattle.lexing.specs.declared.token.Shape.TheVariants as shape

-- a letter or _, then bytes of names (3.7)
unfoldable pub is_name : List ℕ → Bool
is_name [] = false
is_name (b ∷ bs) = is_letter b && list_all is_name_byte bs

-- \ and one or more bytes 33 to 126 (3.7.1)
unfoldable pub is_escaped : List ℕ → Bool
is_escaped [] = false
is_escaped (b ∷ bs) = b == 92 && (nat_lt 0 (length bs) && list_all is_printed bs)

-- a digit, then digits and _ (3.5.1)
unfoldable pub is_number : List ℕ → Bool
is_number [] = false
is_number (b ∷ bs) = is_digit b && list_all is_number_byte bs

-- 1'b or 1'B and a value
unfoldable pub is_constant : List ℕ → Bool
is_constant bytes = length bytes == 4 && begins_constant bytes

-- one byte 33 to 126 that is neither letter nor digit
unfoldable pub is_single : List ℕ → Bool
is_single [] = false
is_single (b ∷ bs) = length bs == 0 && (is_printed b && (not (is_letter b) && not (is_digit b)))

-- a whole directive (19.8)
unfoldable pub is_directive : List ℕ → Bool
is_directive bytes = is_whole (directive bytes)

-- these bytes, all of them, are one token of the shape
unfoldable pub spells : Shape → List ℕ → Bool
spells shape.Name bytes = is_name bytes
spells shape.Escaped bytes = is_escaped bytes
spells shape.Number bytes = is_number bytes
spells shape.Constant bytes = is_constant bytes
spells shape.Timescale bytes = is_directive bytes
spells shape.Other bytes = is_single bytes
spells shape.Unending bytes = false
spells shape.Stray bytes = false

-- the first n bytes are a token of the shape, and no longer token of any shape stands in front
pub record IsLongest (bytes : List ℕ) (kind : Shape) (n : ℕ) : Type 0 where
  pub some : 0 < n
  pub within : n ≤ length bytes
  pub token : spells kind (take n bytes) ≡ true
  pub longest : (other : Shape) (m : ℕ) → n < m → m ≤ length bytes → spells other (take m bytes) ≡ false

-- no token stands in front of the bytes
pub record IsNoToken (bytes : List ℕ) : Type 0 where
  pub none : (other : Shape) (m : ℕ) → spells other (take m bytes) ≡ false
