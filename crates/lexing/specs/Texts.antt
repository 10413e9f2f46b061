-- Which tokens a text spells.
use Rattle.std.specs.Prelude.{ℕ, ◌≡◌, ◌+◌, ◌<◌, List, [], ◌∷◌, length, drop, slice_range}
use Rattle.lexing.specs.Lexemes.{IsLongest, IsNoToken}
use Rattle.lexing.specs.Spaces.{white_space}
use Rattle.lexing.specs.declared.spaces.White.TheVariants as piece
use Rattle.lexing.specs.declared.token.Shape.{Shape}
use Rattle.lexing.specs.declared.token.Shape.TheVariants as shape
use Rattle.lexing.specs.declared.token.Token.{Token}

abbrev pub token_at : Shape → ℕ → ℕ → Token
token_at kind from to = record { shape = kind; start = from; end = to }

-- the text from the place on spells these tokens: white space is passed over, then the longest token is taken; a comment
-- or an attribute that doesn't end, and a byte that begins no token, are the last
pub data Spells (text : List ℕ) : ℕ → List Token → Type 0 where
  at_end : {from : ℕ} → from ≡ length text → Spells text from []
  at_white : {from : ℕ} (n : ℕ) {tokens : List Token} → white_space (drop from text) ≡ piece.Takes n →
      Spells text (from + n) tokens → Spells text from tokens
  at_unending : {from : ℕ} → white_space (drop from text) ≡ piece.Unending →
      Spells text from (token_at shape.Unending from (length text) ∷ [])
  at_stray : {from : ℕ} → from < length text → white_space (drop from text) ≡ piece.Nothing → IsNoToken (drop from text) →
      Spells text from (token_at shape.Stray from (from + 1) ∷ [])
  at_token : {from : ℕ} {kind : Shape} (n : ℕ) {tokens : List Token} → white_space (drop from text) ≡ piece.Nothing →
      IsLongest (drop from text) kind n → Spells text (from + n) tokens →
      Spells text from (token_at kind from (from + n) ∷ tokens)

abbrev pub bytes_of : List ℕ → Token → List ℕ
bytes_of text token = slice_range text token.start token.end

abbrev pub name_by : Shape → List ℕ → ℕ → ℕ → List ℕ
name_by shape.Escaped text from to = slice_range text (from + 1) to
name_by kind text from to = slice_range text from to

-- the bytes of the name that a token spells: those of an escaped name are those behind its \ (IEEE 1364-2005, 3.7.1)
abbrev pub name_bytes : List ℕ → Token → List ℕ
name_bytes text token = name_by token.shape text token.start token.end
