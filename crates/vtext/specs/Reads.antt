-- Reading a design text: the modules that it says, or its first fault.
use Rattle.std.specs.Prelude.{◌≡◌, ℕ, ◌<◌, ◌≤◌, ◌⊎◌, List, length, Option, slice_get}
use Rattle.std.specs.Option.{option_map_or}
use Rattle.lexing.specs.Lines.{line_of}
use Rattle.lexing.specs.Texts.{Spells}
use Rattle.lexing.specs.declared.limits.TheConstants.{MAX_TEXT}
use Rattle.lexing.specs.declared.token.Token.{Token}
use Rattle.vtext.specs.declared.cause.Cause.{Cause}
use Rattle.vtext.specs.declared.fault.ReadFault.{ReadFault}
use Rattle.vtext.specs.Modules.{ModuleList}
use Rattle.vtext.specs.ReadFaults.{kind_of, too_long}
use Rattle.vtext.specs.Readings.{unread}
use Rattle.vtext.specs.Trees.{ArePartsAdmitted, AreWritten, Part, after_parts}
use Rattle.vtext.specs.Walks.{IsFault}
use Rattle.vtext.specs.Words.{names_of, words_of}

-- The text says these modules: they are what some parts say, at which no cause holds, and the words of its tokens write these parts
-- by the lines of the grammar. `default` is the delay of a gate item without one.
pub record Says (default : Option ℕ) (text : List ℕ) (list : ModuleList) : Type 0 where
  pub short : length text ≤ MAX_TEXT
  pub tokens : List Token
  pub spelled : Spells text 0 tokens
  pub names : list.names ≡ names_of text tokens
  pub parts : List Part
  pub written : AreWritten parts (words_of text tokens)
  pub admitted : ArePartsAdmitted default (names_of text tokens) unread parts
  pub unit : list.unit ≡ (after_parts default (names_of text tokens) unread parts).unit
  pub modules : list.modules ≡ (after_parts default (names_of text tokens) unread parts).modules

-- where the token at a place of the list begins; past the last one, the text's end
abbrev pub start_of : List ℕ → List Token → ℕ → ℕ
start_of text tokens k = option_map_or (λ (token : Token). token.start) (slice_get tokens k) (length text)

-- a token is the first that is refused, or the text's end
pub record IsRefusedAt (default : Option ℕ) (text : List ℕ) (fault : ReadFault) : Type 0 where
  pub short : length text ≤ MAX_TEXT
  pub tokens : List Token
  pub spelled : Spells text 0 tokens
  pub place : ℕ
  pub why : Cause
  pub first : IsFault default (names_of text tokens) (words_of text tokens) place why
  pub line : fault.line ≡ line_of text (start_of text tokens place)
  pub kind : fault.kind ≡ kind_of why

-- the first fault of a text: it is too long, or a token is refused
abbrev pub IsFirstFault : Option ℕ → List ℕ → ReadFault → Type 0
IsFirstFault default text fault = ((MAX_TEXT < length text) × (fault ≡ too_long)) ⊎ IsRefusedAt default text fault
