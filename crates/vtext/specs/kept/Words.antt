-- What the tokens of a text say, as it is kept: their words lie within the text.
use Rattle.std.specs.Prelude.{◌≡◌, ℕ, ◌≤◌, if◌then◌else◌, List, All, Option, Some, length, unwrap_or}
use Rattle.lexing.specs.Texts.{Spells}
use Rattle.lexing.specs.declared.token.Token.{Token}
use Rattle.fourstate.specs.declared.unit.TimeUnit.{TimeUnit}
use Rattle.vtext.specs.declared.word.Placed.{Placed}
use Rattle.vtext.specs.Words.{names_of, unit_at, is_timescale, words_of}

-- the unit of the first directive so far, with one more token, if that is one
abbrev pub with_directive : List ℕ → Option (Option TimeUnit) → Token → Option (Option TimeUnit)
with_directive text first token = if is_timescale token.shape then Some (unwrap_or first (unit_at text token)) else first

-- these are the names of a text, and what its tokens say
pub record AreSaid (text : List ℕ) (names : List (List ℕ)) (words : List Placed) : Type 0 where
  pub tokens : List Token
  pub spelled : Spells text 0 tokens
  pub named : names ≡ names_of text tokens
  pub said : words ≡ words_of text tokens

-- each word begins within the text
abbrev pub AreWithin : List ℕ → List Placed → Type 0
AreWithin text words = All (λ (word : Placed). word.start ≤ length text) words
