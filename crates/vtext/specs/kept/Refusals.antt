-- Why a text is refused, by its tokens.
use Rattle.std.specs.Prelude.{ℕ, ◌≤◌, List, length, Option}
use Rattle.lexing.specs.Texts.{Spells}
use Rattle.lexing.specs.declared.limits.TheConstants.{MAX_TEXT}
use Rattle.lexing.specs.declared.token.Token.{Token}
use Rattle.vtext.specs.declared.cause.Cause.{Cause}
use Rattle.vtext.specs.declared.walks.Refusal.{Refusal}
use Rattle.vtext.specs.declared.walks.Refusal.TheVariants.{OutOfMemory, Fault}
use Rattle.vtext.specs.Walks.{IsFault}
use Rattle.vtext.specs.Words.{names_of, words_of}

-- the first token that is refused stands at this place of the text's list, or the text ends there
pub record IsRefusedToken (default : Option ℕ) (text : List ℕ) (place : ℕ) (why : Cause) : Type 0 where
  pub short : length text ≤ MAX_TEXT
  pub tokens : List Token
  pub spelled : Spells text 0 tokens
  pub first : IsFault default (names_of text tokens) (words_of text tokens) place why

-- why a text is refused, if not because memory ran out
abbrev pub IsRefusedBy : Option ℕ → List ℕ → Refusal → Type 0
IsRefusedBy default text OutOfMemory = Unit {0}
IsRefusedBy default text (Fault place why) = IsRefusedToken default text place why
